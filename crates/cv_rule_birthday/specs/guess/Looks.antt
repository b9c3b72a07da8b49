-- What the code finds of a guess: the large type of the variable, or the condition that fails.
use Rattle.std.specs.Prelude.{◌≡◌, ℕ, List, Result, Ok, Err, Some}
use Rattle.cv_scene.specs.Scenes.{Scene}
use Rattle.cv_steps.specs.Steps.{Leads}
use Rattle.cv_edit_places.specs.Plans.{failing}
use Rattle.cv_edit_places.specs.declared.plan.Failure.{Failure}
use Rattle.cv_rule_birthday.specs.guess.Guessing.{without_guesses}
use Rattle.cv_rule_birthday.specs.guess.Row.{cost_at, guess_row}

-- the row leads to the game without the guesses, at the cost of values of this type; or this condition fails
abbrev pub IsGuessed : Scene → (x : ℕ) → (places : List ℕ) → Result ℕ Failure → Type 0
IsGuessed s x ps (Ok T) = guess_row s x ps ≡ Leads (without_guesses x ps s.game) (cost_at s ps T)
IsGuessed s x ps (Err f) = failing (guess_row s x ps) ≡ Some f
