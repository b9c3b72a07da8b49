use Rattle.std.proofs.Common.{◌≡◌, drop, Some}
use Rattle.std.specs.List.{list_any}
use Rattle.cv_syntax_trees.specs.Tree.{same_tree}
use Rattle.cv_syntax.specs.PoolTrees.{tree_at}
use Rattle.cv_scope.specs.Held.{cells_held}
use Rattle.cv_scope.proofs.reads.is_one_of.Given as goal

abbrev pub invariant-loop-cell : goal.invariant-loop-cell
invariant-loop-cell l =
    let p = same_tree (tree_at l.pool.trees (Some l.k)) in
    list_any p (cells_held l.pool.trees (drop l.cell-index l.cells)) ≡ list_any p (cells_held l.pool.trees l.cells)
