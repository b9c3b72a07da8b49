use Rattle.std.proofs.Common.{ap, arith, ◌∙◌}
use Rattle.cv_syntax_trees.specs.Tree.{first}
use Rattle.cv_syntax.specs.PoolTrees.{tree_at}
use Rattle.cv_rule_move.proofs.FirstPlaces.{first_small, items_small}
use Rattle.cv_rule_move.proofs.naming.naming_in_branch.Goals as goal

pub reading-requires-clause-fits : goal.reading-requires-clause-fits
reading-requires-clause-fits c =
    let trees = c.args.pool.now.trees in
    omega (arith, c.requires.fits, c.size_below.ensures, first_small (tree_at trees c.args.branch.second) (tree_at trees c.first_of-cells.result) c.first_of-cells.ensures.tree)

pub size_below-requires-2-clause-fits : goal.size_below-requires-2-clause-fits
size_below-requires-2-clause-fits c =
    let trees = c.args.pool.now.trees in
    omega (arith, c.requires.fits, first_small (tree_at trees c.args.branch.second) (tree_at trees c.first_of-cells.result) c.first_of-cells.ensures.tree)

pub overflow_add-behind-3 : goal.overflow_add-behind-3
overflow_add-behind-3 c =
    let trees = c.args.pool.now.trees in
    omega (arith, c.requires.fits, c.size_below.ensures, c.size_below-2.ensures, first_small (tree_at trees c.args.branch.second) (tree_at trees c.first_of-cells.result) c.first_of-cells.ensures.tree)

pub reading-requires-2-clause-fits : goal.reading-requires-2-clause-fits
reading-requires-2-clause-fits c =
    let trees = c.args.pool.now.trees in
    omega (
      arith,
      c.requires.fits,
      c.size_below.ensures,
      c.size_below-2.ensures,
      items_small (tree_at trees c.args.branch.second) (tree_at trees c.first_of-cells.result) (tree_at trees c.first_of-condition.result) c.first_of-cells.ensures.tree
          (c.first_of-condition.ensures.tree ∙ ap first c.second_of.ensures.tree),
    )
