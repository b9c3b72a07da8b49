use Rattle.std.proofs.Common.{sym, ◌∙◌, Some}
use Rattle.cv_syntax.specs.PoolTrees.{tree_at}
use Rattle.cv_rule_array_names.proofs.Drawn.{ready_as_it_is}
use Rattle.cv_rule_array_names.proofs.naming.with_drawn.Goals as goal

pub returns-then-not-gives_names-clause-ready : goal.returns-then-not-gives_names-clause-ready
returns-then-not-gives_names-clause-ready c =
    ready_as_it_is c.args.names.now c.args.own (tree_at c.args.pool.now.trees (Some c.args.game)) c.args.pool.now.trees c.args.proposal (sym c.gives_names.ensures ∙ c.if-not-gives_names.true)
