use Rattle.std.proofs.Common.{◌≡◌, ◌≤◌, length}
use Rattle.cv_pool.specs.Nodes.{ChildBelow}
use Rattle.cv_syntax.specs.PoolTrees.{tree_at}
use Rattle.cv_syntax.specs.Walks.{above}
use Rattle.cv_query_form.specs.Tests.{some_is_marked}
use Rattle.cv_query_form.proofs.marks.+some_is_marked.Given as goal

abbrev pub decreases-some_is_marked : goal.decreases-some_is_marked
decreases-some_is_marked l = above l.right

abbrev pub invariant-parts : goal.invariant-parts
invariant-parts l = record {
  live : ChildBelow (length l.pool.trees) l.at;
  less : above l.at ≤ above l.fn.right;
  same : some_is_marked (tree_at l.pool.trees l.at) ≡ some_is_marked (tree_at l.pool.trees l.fn.right);
}

abbrev pub decreases-parts : goal.decreases-parts
decreases-parts l = above l.at
