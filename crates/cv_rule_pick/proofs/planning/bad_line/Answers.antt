use Rattle.std.proofs.Common.{None, ap, arith, length}
use Rattle.cv_syntax.specs.PoolTrees.{tree_at}
use Rattle.cv_syntax.proofs.Trees.{tree_at_None}
use Rattle.cv_rule_pick.proofs.Saying.{none_said}
use Rattle.cv_rule_pick.proofs.planning.bad_line.Goals as goal

pub check-requires-clause-few_targets : goal.check-requires-clause-few_targets
check-requires-clause-few_targets c =
    let trees = c.args.work.now.pool.trees in
    let n = ap length (none_said (tree_at trees None) (tree_at_None trees)) in
    omega (arith, n)
