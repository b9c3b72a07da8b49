-- What the code plans by: the type of a variable's values.
use Rattle.std.specs.Prelude.{◌≡◌, ℕ, List, Some, Result, Ok, Err}
use Rattle.cv_scene.specs.Scenes.{Scene}
use Rattle.cv_steps.specs.Steps.{Leads}
use Rattle.cv_costs.specs.Collisions.{one_for_pairs}
use Rattle.cv_costs.specs.Copies.{parameters_of}
use Rattle.cv_costs.specs.wording.Changing.{changed_at}
use Rattle.cv_edit_places.specs.Plans.{failing}
use Rattle.cv_edit_places.specs.declared.plan.Failure.{Failure}
use Rattle.cv_rule_birthday.specs.Comparing.{compared, is_one_of}
use Rattle.cv_rule_birthday.specs.Row.{birthday_row}

-- the row leads to the game with comparisons of indices, at the cost of values of this type; or this condition fails
abbrev pub IsChosen : Scene → (x : ℕ) → (places : List ℕ) → Result ℕ Failure → Type 0
IsChosen s x ps (Ok T) = birthday_row s x ps ≡ Leads (changed_at (is_one_of ps) compared 0 s.game) (one_for_pairs s.declarations (parameters_of s.game x) T)
IsChosen s x ps (Err f) = failing (birthday_row s x ps) ≡ Some f
