-- Measures of terms: how many equalities at large types they have, and how many nodes; as numbers of 64 bits what is more counts as the
-- greatest of these. This profile's own.
use Rattle.std.specs.Prelude.{ℕ, ◌-◌, ◌^◌, min, Bool}
use Rattle.cv_syntax_trees.specs.Tree.{Tree, size}
use Rattle.cv_scene.specs.Scenes.{Scene}
use Rattle.cv_settling_rules.specs.Measure.{Measure, is_less, large_equalities}
use Rattle.cv_settling.specs.declared.measure.Measure as code

abbrev pub capped : ℕ → ℕ
capped n = min n (2 ^ 64 - 1)

-- what the code has of a measure
abbrev pub told : code.Measure → Measure
told m = record { equalities = m.equations; nodes = m.nodes }

abbrev pub measure_in : Scene → Tree → Measure
measure_in s t = record { equalities = large_equalities s t; nodes = size t }

-- the second term has a lower measure
abbrev pub is_lower : Scene → (term next : Tree) → Bool
is_lower s t u = is_less (measure_in s u) (measure_in s t)
