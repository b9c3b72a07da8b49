-- The trees that items in a pool stand for.
use Rattle.std.specs.Prelude.{ℕ, List, [], ◌∷◌, Option}
use Rattle.cv_pool.specs.KindTree.{KindTree}
use Rattle.cv_pool.specs.declared.node.NodeId.{NodeId}
use Rattle.cv_syntax_trees.specs.Tree.{Tree}
use Rattle.cv_syntax.specs.PoolTrees.{tree_at}
use Rattle.cv_print_tables.specs.declared.items.Items.{Items}
use Rattle.cv_print_tables.specs.declared.items.Items.TheVariants.{Chain, Single}
use Rattle.cv_print_tables.specs.Prints.{chain_items, single_items}

abbrev pub listed : List KindTree → Items → List Tree
listed trees (Chain at) = chain_items (tree_at trees at)
listed trees (Single count at) = single_items count (tree_at trees at)

-- the node that items are in
abbrev pub items_at : Items → Option NodeId
items_at (Chain at) = at
items_at (Single count at) = at
