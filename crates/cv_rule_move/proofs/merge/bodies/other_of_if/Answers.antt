use Rattle.std.proofs.Common.{arith, ap}
use Rattle.cv_syntax_trees.specs.Tree.{size}
use Rattle.cv_syntax.specs.PoolTrees.{tree_at}
use Rattle.cv_rule_move.proofs.merge.Looks.{first_small}
use Rattle.cv_rule_move.proofs.merge.bodies.other_of_if.Goals as goal

pub size_below-requires-clause-fits : goal.size_below-requires-clause-fits
size_below-requires-clause-fits c = omega (arith, c.requires.fits, ap size c.first_of.ensures.tree, first_small (tree_at c.args.pool.now.trees c.args.rest))

pub overflow_add-otherwise : goal.overflow_add-otherwise
overflow_add-otherwise c = omega (arith, c.requires.fits, c.size_below.ensures, ap size c.first_of.ensures.tree, first_small (tree_at c.args.pool.now.trees c.args.rest))
