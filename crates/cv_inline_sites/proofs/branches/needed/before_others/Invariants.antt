use Rattle.std.proofs.Common.{◌≡◌, ◌∷◌, All, filter, length, map, not, take}
use Rattle.cv_syntax_trees.specs.Tree.{same_tree}
use Rattle.cv_inline_sites.specs.branches.Cells.{IsLiveCell, cell_tree}
use Rattle.cv_inline_sites.proofs.branches.needed.before_others.Given as goal

abbrev pub invariant-loop-cell : goal.invariant-loop-cell
invariant-loop-cell l = record {
  cells : map (cell_tree l.pool.trees) l.kept.items ≡ cell_tree l.pool.trees l.first ∷ filter (λ r. not (same_tree r (cell_tree l.pool.trees l.first))) (map (cell_tree l.pool.trees) (take l.cell-index l.rest));
  live : All (IsLiveCell (length l.pool.trees)) l.kept.items;
}
