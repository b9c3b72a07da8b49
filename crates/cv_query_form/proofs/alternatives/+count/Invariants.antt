use Rattle.std.proofs.Common.{◌≡◌, ◌+◌, ◌*◌, ◌≤◌, length}
use Rattle.cv_pool.specs.Nodes.{ChildBelow}
use Rattle.cv_syntax.specs.PoolTrees.{tree_at}
use Rattle.cv_syntax.specs.Walks.{above}
use Rattle.cv_query_form.specs.Tests.{count_of}
use Rattle.cv_query_form.proofs.alternatives.+count.Given as goal

abbrev pub decreases-count : goal.decreases-count
decreases-count l = above l.right

abbrev pub invariant-parts : goal.invariant-parts
invariant-parts l = record {
  live : ChildBelow (length l.pool.trees) l.at;
  less : above l.at ≤ above l.fn.right;
  some : 1 ≤ l.each;
  few : l.apart + l.each ≤ 64;
  same : l.apart + l.each * count_of (tree_at l.pool.trees l.at) ≡ count_of (tree_at l.pool.trees l.fn.right);
}

abbrev pub decreases-parts : goal.decreases-parts
decreases-parts l = above l.at
