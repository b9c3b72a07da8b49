-- Values that are chosen at random. This profile's own.
use Rattle.std.specs.Prelude.{◌≡◌, ℕ, ◌*◌, List, map, Some}
use Rattle.cv_meaning.specs.Cells.{tuples_below}
use Rattle.cv_meaning.specs.Chances.{Chance}
use Rattle.cv_meaning.specs.Interpretation.{Interpretation, Setting}
use Rattle.cv_meaning.specs.Memory.{Store}
use Rattle.cv_meaning.specs.Tapes.{Cell, New_at, Tape}
use Rattle.cv_meaning_laws.specs.adequacy.Typed.{AreBelowParameters}
use Rattle.cv_rule_fresh.specs.collisions.Chances.{copies}

-- the cells of a variable's choices below replications with these parameters
abbrev pub choices_of : Setting → (x : ℕ) → (parameters : List ℕ) → List Cell
choices_of g x ps = map (New_at x) (tuples_below (map g.interpretation.parameter_value ps))

-- Each value of the variable is that of its cell on the tape, and its indices are below the parameters.
abbrev pub AreDrawn : Setting → (x : ℕ) → (parameters : List ℕ) → Tape → Store → Type 0
AreDrawn g x ps t m = (w : List ℕ) (v : ℕ) → m x w ≡ Some v → (v ≡ t (New_at x w)) × AreBelowParameters g.interpretation ps w

-- the square of the copies below replications, in twice the size of a type
abbrev pub pairs_over : (parameters : List ℕ) → (type : ℕ) → Interpretation → Chance
pairs_over ps T i = record { good = copies i ps * copies i ps; all = 2 * i.type_size T }
