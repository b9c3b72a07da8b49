use Rattle.std.proofs.Common.{◌≡◌, ◌+◌, ◌≤◌, length}
use Rattle.cv_pool.specs.Nodes.{ChildBelow}
use Rattle.cv_syntax.specs.PoolTrees.{tree_at}
use Rattle.cv_syntax.specs.Walks.{above}
use Rattle.cv_scene.specs.lines.Lines.{count, lines_of}
use Rattle.cv_derive_lines.specs.citing.Citing.{cited_from}
use Rattle.cv_derive_lines.proofs.citing.citing.claim_in.Given as goal

abbrev pub invariant-lines : goal.invariant-lines
invariant-lines l = record {
  live : ChildBelow (length l.pool.trees) l.at;
  fits : l.start + count (lines_of (tree_at l.pool.trees l.at)) ≤ l.fn.first + count (lines_of (tree_at l.pool.trees l.fn.lines));
  same : cited_from (lines_of (tree_at l.pool.trees l.at)) l.start l.n l.l ≡ cited_from (lines_of (tree_at l.pool.trees l.fn.lines)) l.fn.first l.n l.l;
}

abbrev pub decreases-lines : goal.decreases-lines
decreases-lines l = above l.at
