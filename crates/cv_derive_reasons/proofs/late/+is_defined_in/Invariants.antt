use Rattle.std.proofs.Common.{◌≡◌, ◌≤◌, length}
use Rattle.cv_pool.specs.Nodes.{ChildBelow}
use Rattle.cv_syntax.specs.PoolTrees.{tree_at}
use Rattle.cv_syntax.specs.Walks.{above}
use Rattle.cv_scene.specs.Late.{is_defined_in}
use Rattle.cv_derive_reasons.proofs.late.+is_defined_in.Given as goal

abbrev pub decreases-is_defined_in : goal.decreases-is_defined_in
decreases-is_defined_in l = above l.tree

abbrev pub invariant-tree : goal.invariant-tree
invariant-tree l = record {
  live : ChildBelow (length l.pool.trees) l.at;
  less : above l.at ≤ above l.fn.tree;
  same : is_defined_in l.x (tree_at l.pool.trees l.at) ≡ is_defined_in l.fn.x (tree_at l.pool.trees l.fn.tree);
}

abbrev pub decreases-tree : goal.decreases-tree
decreases-tree l = above l.at
