-- Sizes of trees, over their parts in postorder. This profile's own.
use Rattle.std.specs.Prelude.{◌≡◌, ℕ, ◌+◌, max, List, [], ◌∷◌}
use Rattle.cv_syntax_trees.specs.declared.head.Head.{Head}
use Rattle.cv_syntax.specs.declared.make.Make.{Make}
use Rattle.cv_syntax.specs.declared.make.Make.TheVariants.{Nothing, Over}
use Rattle.cv_syntax_trees.specs.Head.{weight}
use Rattle.cv_syntax_trees.specs.Tree.{Tree, depth as tree_depth, size}
use Rattle.cv_syntax.specs.declared.limits.games.Extent.{Extent}
use Rattle.cv_parse.specs.Weights.{capped}

-- The sizes of a tree, each as a report carries it.
pub record IsExtent (t : Tree) (extent : Extent) : Type 0 where
  pub nodes : extent.nodes ≡ capped (size t)
  pub depth : extent.depth ≡ capped (tree_depth t)

-- how many syntax nodes parts make
abbrev pub part_size : Make → ℕ
part_size Nothing = 0
part_size (Over h) = weight h

abbrev pub parts_size : List Make → ℕ
parts_size [] = 0
parts_size (m ∷ ms) = part_size m + parts_size ms

-- the depth of a tree over two others
abbrev pub depth_over : Head → ℕ → ℕ → ℕ
depth_over h a b = capped (weight h + max a b)

-- the depths of the trees that are there, the newest first, behind one more part, and behind others
abbrev pub depths_over : Head → List ℕ → List ℕ
depths_over h (b ∷ (a ∷ depths)) = depth_over h a b ∷ depths
depths_over h (b ∷ []) = depth_over h 0 b ∷ []
depths_over h [] = depth_over h 0 0 ∷ []

abbrev pub depths_behind : Make → List ℕ → List ℕ
depths_behind Nothing depths = 0 ∷ depths
depths_behind (Over h) depths = depths_over h depths

unfoldable pub depths_in : List ℕ → List Make → List ℕ
depths_in depths [] = depths
depths_in depths (m ∷ ms) = depths_in (depths_behind m depths) ms
