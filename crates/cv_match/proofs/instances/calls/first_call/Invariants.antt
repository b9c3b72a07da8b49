use Rattle.std.proofs.Common.{◌≡◌, ◌+◌, ◌≤◌, Some, length}
use Rattle.cv_pool.specs.Nodes.{ChildBelow}
use Rattle.cv_syntax.specs.PoolTrees.{tree_at}
use Rattle.cv_syntax.specs.Walks.{above}
use Rattle.cv_meaning.specs.contexts.Groups.{functions_of}
use Rattle.cv_scene.specs.Instances.{first_call}
use Rattle.cv_match.specs.instances.Matchings.{matching_by}
use Rattle.cv_match.proofs.instances.calls.first_call.Given as goal

abbrev pub invariant-functions : goal.invariant-functions
invariant-functions l = record {
  live : ChildBelow (length l.work.pool.trees) l.at;
  few : l.position + above l.at ≤ l.fn.bound;
  same : first_call (matching_by l.work.pool l.work.decls l.search) l.position (functions_of (tree_at l.work.pool.trees l.at)) (tree_at l.work.pool.trees (Some l.term)) ≡ first_call (matching_by l.work.pool l.work.decls l.search) 0 (functions_of (tree_at l.work.pool.trees l.fn.functions)) (tree_at l.work.pool.trees (Some l.term));
}

abbrev pub decreases-functions : goal.decreases-functions
decreases-functions l = above l.at
