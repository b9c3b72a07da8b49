use Rattle.std.proofs.Common.{◌≡◌, ◌≤◌, length}
use Rattle.cv_pool.specs.Nodes.{ChildBelow}
use Rattle.cv_syntax.specs.PoolTrees.{tree_at}
use Rattle.cv_syntax.specs.Walks.{above}
use Rattle.cv_scene.specs.Instances.{standing_for}
use Rattle.cv_match_terms.proofs.patterns.filling.+standing.Given as goal

abbrev pub decreases-standing : goal.decreases-standing
decreases-standing l = above l.body

abbrev pub invariant-body : goal.invariant-body
invariant-body l = record {
  live : ChildBelow (length l.pool.trees) l.at;
  there : ChildBelow (length l.pool.trees) l.there;
  less : above l.at ≤ above l.fn.body;
  same : standing_for l.x (tree_at l.pool.trees l.at) (tree_at l.pool.trees l.there) ≡ standing_for l.x (tree_at l.pool.trees l.fn.body) (tree_at l.pool.trees l.fn.term);
}

abbrev pub decreases-body : goal.decreases-body
decreases-body l = above l.at
