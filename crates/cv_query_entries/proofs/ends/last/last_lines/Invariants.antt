use Rattle.std.proofs.Common.{◌≡◌, ◌-◌, ◌≤◌, ℕ, drop, length}
use Rattle.cv_pool.specs.Nodes.{ChildBelow}
use Rattle.cv_syntax.specs.PoolTrees.{tree_at}
use Rattle.cv_syntax.specs.Walks.{above}
use Rattle.cv_scene.specs.lines.Lines.{lines_of, statements}
use Rattle.cv_query_entries.proofs.ends.Ending.{IsAhead}
use Rattle.cv_query_entries.proofs.ends.last.last_lines.Given as goal

abbrev pub invariant-lines : goal.invariant-lines
invariant-lines l = record {
  live : ChildBelow (length l.pool.trees) l.start;
  ahead : ChildBelow (length l.pool.trees) l.ahead;
  same : (k : ℕ) → statements (lines_of (tree_at l.pool.trees l.fn.rest)) ≡ drop k (statements (lines_of (tree_at l.pool.trees l.fn.lines))) → k ≤ length (statements (lines_of (tree_at l.pool.trees l.fn.lines)))
      → IsAhead k (drop (length (statements (lines_of (tree_at l.pool.trees l.fn.lines))) - k) (statements (lines_of (tree_at l.pool.trees l.fn.lines)))) (statements (lines_of (tree_at l.pool.trees l.start))) (statements (lines_of (tree_at l.pool.trees l.ahead)));
}

abbrev pub decreases-lines : goal.decreases-lines
decreases-lines l = above l.ahead
