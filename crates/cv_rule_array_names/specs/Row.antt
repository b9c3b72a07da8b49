-- The step that gives each definition of a variable its own name: the first condition that fails, with its place, or the next game.
-- This profile's own.
use Rattle.std.specs.Prelude.{ℕ, ◌||◌, not, List}
use Rattle.cv_scene.specs.Scenes.{Scene, is_queried, names}
use Rattle.cv_steps.specs.Rows.{unless, unless_at}
use Rattle.cv_steps.specs.Steps.{Leads, Row, Step, Zero}
use Rattle.cv_edit_names.specs.Cells.{first_mixed}
use Rattle.cv_rule_array_names.specs.Sites.{has_names}
use Rattle.cv_edit_names.specs.Splitting.{split_game}

abbrev pub array_names_row : Scene → (x : ℕ) → (names : List ℕ) → Row
array_names_row s x ys =
    unless (has_names s x ys) 1 0
    (unless (not (is_queried s x)) 2 0
    (unless_at 3 (first_mixed x 0 s.game) (Leads (split_game x ys s.game) Zero)))

abbrev pub array_names_step : (x : ℕ) → (names : List ℕ) → Step
array_names_step x ys = record { stands = λ s. s.known x || names x s.game; row = λ s. array_names_row s x ys }
