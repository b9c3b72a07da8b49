use Rattle.std.proofs.Common.{◌≡◌, length}
use Rattle.cv_pool.specs.Nodes.{ChildBelow}
use Rattle.cv_syntax_trees.specs.Tree.{bound_names}
use Rattle.cv_syntax.specs.PoolTrees.{tree_at}
use Rattle.cv_syntax.specs.Walks.{above}
use Rattle.cv_syntax.specs.NameSets.{is_in}
use Rattle.cv_group.specs.shapes.Shapes.{are_taken, without_all}
use Rattle.cv_group.proofs.reads.take_names.Given as goal

abbrev pub invariant-binders : goal.invariant-binders
invariant-binders l = record {
  live : ChildBelow (length l.pool.trees) l.at;
  same : are_taken (is_in l.names) (bound_names (tree_at l.pool.trees l.at)) ≡ are_taken (is_in l.fn.names) (bound_names (tree_at l.pool.trees l.fn.binders));
  left : without_all (is_in l.names) (bound_names (tree_at l.pool.trees l.at)) ≡ without_all (is_in l.fn.names) (bound_names (tree_at l.pool.trees l.fn.binders));
}

abbrev pub decreases-binders : goal.decreases-binders
decreases-binders l = above l.at
