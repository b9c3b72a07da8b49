use Rattle.std.proofs.Common.{◌≡◌, ◌+◌, length}
use Rattle.cv_pool.specs.Nodes.{ChildBelow}
use Rattle.cv_syntax.specs.PoolTrees.{tree_at}
use Rattle.cv_syntax.specs.Walks.{above}
use Rattle.cv_scene.specs.lines.Lines.{lines_of, statements}
use Rattle.cv_derive_lines.proofs.ends.outer.Given as goal

abbrev pub invariant-lines : goal.invariant-lines
invariant-lines l = record {
  live : ChildBelow (length l.pool.trees) l.at;
  same : l.total + length (statements (lines_of (tree_at l.pool.trees l.at))) ≡ length (statements (lines_of (tree_at l.pool.trees l.fn.lines)));
}

abbrev pub decreases-lines : goal.decreases-lines
decreases-lines l = above l.at
