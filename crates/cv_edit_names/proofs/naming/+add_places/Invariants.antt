use Rattle.std.proofs.Common.{◌≡◌, ◌+◌, ◌≤◌, ◌++◌, length}
use Rattle.cv_pool.specs.Nodes.{ChildBelow}
use Rattle.cv_syntax_trees.specs.Tree.{size}
use Rattle.cv_syntax.specs.PoolTrees.{tree_at}
use Rattle.cv_syntax.specs.Walks.{above}
use Rattle.cv_derive_facts.specs.Definitions.{places_of}
use Rattle.cv_edit_names.proofs.naming.+add_places.Given as goal

abbrev pub decreases-add_places : goal.decreases-add_places
decreases-add_places l = above l.tree

abbrev pub invariant-chain : goal.invariant-chain
invariant-chain l = record {
  live : ChildBelow (length l.pool.trees) l.at;
  smaller : above l.at ≤ above l.fn.tree;
  place : l.here + size (tree_at l.pool.trees l.at) ≡ l.fn.place + size (tree_at l.pool.trees l.fn.tree);
  places : l.places.items ++ places_of l.x l.here (tree_at l.pool.trees l.at) ≡ l.fn.places.items ++ places_of l.x l.fn.place (tree_at l.pool.trees l.fn.tree);
}

abbrev pub decreases-chain : goal.decreases-chain
decreases-chain l = above l.at
