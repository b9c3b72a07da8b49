use Rattle.std.proofs.Common.{◌≡◌, length}
use Rattle.cv_pool.specs.Nodes.{ChildBelow}
use Rattle.cv_syntax.specs.PoolTrees.{tree_at}
use Rattle.cv_syntax.specs.Walks.{above}
use Rattle.cv_scene.specs.lines.Ends.{ends_in}
use Rattle.cv_scene.specs.lines.Lines.{Holds, lines_of, statements}
use Rattle.cv_derive_lines.proofs.ends.ends_in.Given as goal

abbrev pub invariant-lines : goal.invariant-lines
invariant-lines l = record {
  live : ChildBelow (length l.pool.trees) l.at;
  same : ends_in (statements (lines_of (tree_at l.pool.trees l.at))) (Holds (tree_at l.pool.trees l.term)) ≡ ends_in (statements (lines_of (tree_at l.pool.trees l.fn.lines))) (Holds (tree_at l.pool.trees l.fn.term));
}

abbrev pub decreases-lines : goal.decreases-lines
decreases-lines l = above l.at
