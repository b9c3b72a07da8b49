use Rattle.std.proofs.Common.{Some, sym, ◌∙◌}
use Rattle.cv_syntax.specs.PoolTrees.{tree_at}
use Rattle.cv_syntax.proofs.Trees.{empty_at}
use Rattle.cv_match.specs.instances.Matchings.{matching_by}
use Rattle.cv_match.proofs.instances.Calling.{call_end}
use Rattle.cv_match.proofs.instances.calls.first_call.Goals as goal

pub returns-clause-call : goal.returns-clause-call
returns-clause-call c =
    let trees = c.args.work.now.pool.trees in
    sym (call_end (matching_by c.args.work.now.pool c.args.work.now.decls c.args.search.now) c.functions.position (tree_at trees c.functions.at) (tree_at trees (Some c.args.term)) (empty_at trees c.functions.at c.in_default.is)) ∙ c.functions.invariant.same
