-- Lists of a pool, by their trees. This profile's own.
use Rattle.std.specs.Prelude.{ℕ, List, [], ◌∷◌, map, Some}
use Rattle.cv_pool.specs.KindTree.{KindTree}
use Rattle.cv_pool.specs.declared.node.NodeId.{NodeId}
use Rattle.cv_syntax.specs.PoolTrees.{tree_at}
use Rattle.cv_syntax_trees.specs.declared.head.Head.TheVariants.{Binder}
use Rattle.cv_syntax_trees.specs.Tree.{Tree, Empty, Node}

abbrev pub trees_at : List KindTree → List NodeId → List Tree
trees_at trees ns = map (λ n. tree_at trees (Some n)) ns

-- the items of a list but for those that are no tree
unfoldable pub full_items : Tree → List Tree
full_items Empty = []
full_items (Node h Empty more) = full_items more
full_items (Node h (Node k a b) more) = Node k a b ∷ full_items more

-- the names that binders of a list bind
unfoldable pub binder_names : Tree → List ℕ
binder_names Empty = []
binder_names (Node (Binder x T) a more) = x ∷ binder_names more
binder_names (Node h a more) = binder_names more
