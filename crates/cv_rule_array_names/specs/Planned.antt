-- What is planned of the step in a scene: the first condition that fails, or the names. This profile's own.
use Rattle.std.specs.Prelude.{◌≡◌, ℕ, ◌<◌, List, length, None}
use Rattle.cv_scene.specs.Scenes.{Scene}
use Rattle.cv_steps.specs.Steps.{Leads, Zero}
use Rattle.cv_edit_names.specs.Splitting.{split_game}
use Rattle.cv_edit_places.specs.Plans.{failure_of}
use Rattle.cv_rule_array_names.specs.Row.{array_names_row, array_names_step}

-- No condition fails, and the step leads to the game where each definition has its name.
pub record AreNames (s : Scene) (x : ℕ) (names : List ℕ) (found : List ℕ) : Type 0 where
  pub same : found ≡ names
  pub met : failure_of s (array_names_step x names) ≡ None
  pub leads : array_names_row s x names ≡ Leads (split_game x names s.game) Zero
  pub some : 0 < length names
