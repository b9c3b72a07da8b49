use Rattle.std.proofs.Common.{arith}
use Rattle.cv_syntax.specs.PoolTrees.{tree_at}
use Rattle.cv_rule_move.proofs.merge.Looks.{guards_small}
use Rattle.cv_rule_move.proofs.merge.bodies.body_in.Goals as goal

pub overflow_add-result-3 : goal.overflow_add-result-3
overflow_add-result-3 c = omega (arith, c.requires.fits, c.size_below.ensures, c.guards-before.ensures, guards_small (tree_at c.args.pool.now.trees c.args.branch.second))
