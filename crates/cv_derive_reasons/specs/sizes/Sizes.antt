-- Sizes of trees that are known beforehand. This profile's own.
use Rattle.std.specs.Prelude.{◌≡◌, All, IfSome, List, Some}
use Rattle.cv_pool.specs.KindTree.{KindTree}
use Rattle.cv_syntax_trees.specs.Tree.{size}
use Rattle.cv_syntax.specs.PoolTrees.{tree_at}
use Rattle.cv_derive_reasons.specs.declared.sizes.sizes.Noted.{Noted}
use Rattle.cv_derive_reasons.specs.declared.sizes.sizes.Sizes.{Sizes}

-- the size is that of the node's tree
abbrev pub IsSize : List KindTree → Noted → Type 0
IsSize trees noted = noted.size ≡ size (tree_at trees (Some noted.node))

abbrev pub AreSizes : List KindTree → Sizes → Type 0
AreSizes trees sizes = All (λ o. IfSome o (IsSize trees)) sizes.slots
