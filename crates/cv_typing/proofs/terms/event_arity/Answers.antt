use Rattle.std.proofs.Common.{length, ap, sym, subst, ◌∙◌}
use Rattle.cv_syntax.specs.PoolTrees.{tree_at}
use Rattle.cv_pool.specs.Nodes.{ChildBelow}
use Rattle.cv_scope_rules.specs.typing.Signature.{names_in}
use Rattle.cv_typing.proofs.Bridges.{event_live, event_same}
use Rattle.cv_typing.proofs.terms.event_arity.Goals as goal

pub count_names-requires : goal.count_names-requires
count_names-requires c = subst (ChildBelow (length c.args.pool.now.trees)) (sym c.event_arguments.ensures) (event_live (length c.args.pool.now.trees) c.args.decls.now.list c.args.e c.requires)

pub returns : goal.returns
returns c = c.count_names.ensures ∙ ap length (ap (λ a. names_in (tree_at c.args.pool.now.trees a)) c.event_arguments.ensures ∙ sym (event_same c.args.pool.now.trees c.args.decls.now.list c.args.e))
