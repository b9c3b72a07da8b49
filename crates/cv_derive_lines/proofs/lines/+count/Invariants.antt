use Rattle.std.proofs.Common.{◌≡◌, ◌+◌, ◌≤◌, length}
use Rattle.cv_pool.specs.Nodes.{ChildBelow}
use Rattle.cv_syntax.specs.PoolTrees.{tree_at}
use Rattle.cv_syntax.specs.Walks.{above}
use Rattle.cv_scene.specs.lines.Lines.{count, lines_of}
use Rattle.cv_derive_lines.proofs.lines.+count.Given as goal

abbrev pub decreases-count : goal.decreases-count
decreases-count l = above l.lines

abbrev pub invariant-lines : goal.invariant-lines
invariant-lines l = record {
  live : ChildBelow (length l.pool.trees) l.at;
  less : above l.at ≤ above l.fn.lines;
  same : l.total + count (lines_of (tree_at l.pool.trees l.at)) ≡ count (lines_of (tree_at l.pool.trees l.fn.lines));
}

abbrev pub decreases-lines : goal.decreases-lines
decreases-lines l = above l.at
