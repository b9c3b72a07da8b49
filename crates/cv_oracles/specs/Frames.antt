-- What is open in a process, the innermost first.
use Rattle.std.specs.Prelude.{Bool, true, false, if◌then◌else◌, ℕ, List, [], ◌∷◌}
use Rattle.cv_oracles.specs.declared.frames.Frame.{Frame}
use Rattle.cv_oracles.specs.declared.frames.Opening.{Opening}
use Rattle.cv_oracles.specs.declared.frames.Opening.TheVariants as opening
use Rattle.cv_oracles.specs.declared.frames.Sought.{Sought}
use Rattle.cv_oracles.specs.declared.frames.Sought.TheVariants.{Parenthesis, Test, Find}

abbrev pub is_opening : Sought → Opening → Bool
is_opening Parenthesis opening.Parenthesis = true
is_opening Test opening.If = true
is_opening Test opening.Find = true
is_opening Find opening.Find = true
is_opening s o = false

abbrev pub is_sought : Sought → Frame → Bool
is_sought s f = is_opening s f.opening

-- the first that is so, and all behind it
abbrev pub from_first : (Frame → Bool) → List Frame → List Frame
from_first is [] = []
from_first is (f ∷ fs) = if is f then f ∷ fs else from_first is fs

abbrev pub behind_first : List Frame → List Frame
behind_first [] = []
behind_first (f ∷ fs) = fs

-- the oracle of the first, or another
abbrev pub innermost : List Frame → ℕ → ℕ
innermost [] other = other
innermost (f ∷ fs) other = f.oracle
