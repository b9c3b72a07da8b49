-- Counts as they are told: what is above the greatest number of 32 bits is told as that number. This profile's own.
use Rattle.std.specs.Prelude.{◌≡◌, ℕ, List, [], ◌∷◌, map}
use Rattle.cv_syntax.specs.declared.make.Make.{Make}
use Rattle.cv_syntax.specs.declared.make.Make.TheVariants as make
use Rattle.cv_syntax.specs.Postorder.{joined}
use Rattle.cv_syntax_trees.specs.Tree.{Tree, Empty}
use Rattle.cv_syntax.specs.limits.Limits.{told}
use Rattle.cv_inline_laws.specs.extents.Extents as extents
use Rattle.cv_inline_laws.specs.extents.Extents.{Extent, all_nodes, extent, longest_path}
use Rattle.cv_inline_measure.specs.declared.added.Added.{Added}
use Rattle.cv_inline_measure.specs.declared.measuring.Measure.{Measure}
use Rattle.cv_inline_measure.specs.declared.measuring.Measure.TheVariants.{Nodes, Path}

abbrev pub measure_in : Measure → extents.Measure
measure_in Nodes = all_nodes
measure_in Path = longest_path

-- what a body adds, as it is told
pub record IsTold (a : Added) (e : Extent) : Type 0 where
  pub own : a.own ≡ told e.own
  pub places : a.places ≡ told e.places
  pub results : a.results ≡ told e.results

-- the newest of trees, or none
abbrev pub newest : List Tree → Tree
newest [] = Empty
newest (t ∷ ts) = t

-- the same of counts
abbrev pub newest_count : List ℕ → ℕ
newest_count [] = 0
newest_count (n ∷ ns) = n

abbrev pub older_counts : List ℕ → List ℕ
older_counts [] = []
older_counts (n ∷ ns) = ns

abbrev pub counts_of : Measure → List Tree → List ℕ
counts_of m ts = map (λ (t : Tree). told (extent (measure_in m) t)) ts

-- the trees after one more part
abbrev pub with_part : Make → List Tree → List Tree
with_part make.Nothing ts = Empty ∷ ts
with_part (make.Over h) ts = joined h ts
