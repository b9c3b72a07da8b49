use Rattle.std.proofs.Common.{◌≡◌, ◌+◌, drop, length}
use Rattle.cv_pool.specs.Nodes.{ChildBelow}
use Rattle.cv_syntax.specs.PoolTrees.{tree_at}
use Rattle.cv_scene.specs.lines.Lines.{lines_of, statements}
use Rattle.cv_query_entries.specs.terms.Parts.{left_of, part_tree}
use Rattle.cv_query_entries.specs.ends.Said.{said_equal}
use Rattle.cv_query_entries.proofs.ends.ends.behind_equations.Given as goal

abbrev pub invariant-pairs : goal.invariant-pairs
invariant-pairs l = record {
  live : ChildBelow (length l.pool.trees) l.at;
  m : ChildBelow (length l.pool.trees) l.m.node;
  n : ChildBelow (length l.pool.trees) l.n.node;
  rest : drop (length (said_equal (part_tree l.pool.trees l.left l.m) (part_tree l.pool.trees l.right l.n))) (statements (lines_of (tree_at l.pool.trees l.at))) ≡ drop (length (said_equal (part_tree l.pool.trees l.left l.fn.ms) (part_tree l.pool.trees l.right l.fn.ns))) (statements (lines_of (tree_at l.pool.trees l.fn.lines)));
  count : length (said_equal (part_tree l.pool.trees l.left l.m) (part_tree l.pool.trees l.right l.n)) + length (statements (lines_of (tree_at l.pool.trees l.fn.lines))) ≡ length (said_equal (part_tree l.pool.trees l.left l.fn.ms) (part_tree l.pool.trees l.right l.fn.ns)) + length (statements (lines_of (tree_at l.pool.trees l.at)));
}

abbrev pub decreases-pairs : goal.decreases-pairs
decreases-pairs l = left_of (length l.pool.trees) l.m
