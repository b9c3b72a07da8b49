use Rattle.std.proofs.Common.{◌≡◌, length}
use Rattle.cv_pool.specs.Nodes.{ChildBelow}
use Rattle.cv_syntax.specs.PoolTrees.{tree_at}
use Rattle.cv_syntax.specs.Walks.{above}
use Rattle.cv_scene.specs.lines.Ends.{same_statements}
use Rattle.cv_scene.specs.lines.Lines.{lines_of, statements}
use Rattle.cv_derive_lines.proofs.ends.same_lines.Given as goal

abbrev pub invariant-lines : goal.invariant-lines
invariant-lines l = record {
  live : ChildBelow (length l.pool.trees) l.at;
  behind : ChildBelow (length l.pool.trees) l.behind;
  same : same_statements (statements (lines_of (tree_at l.pool.trees l.at))) (statements (lines_of (tree_at l.pool.trees l.behind))) ≡ same_statements (statements (lines_of (tree_at l.pool.trees l.fn.lines))) (statements (lines_of (tree_at l.pool.trees l.fn.targets)));
}

abbrev pub decreases-lines : goal.decreases-lines
decreases-lines l = above l.at
