-- The row of the step that moves a definition: the first condition that fails, with its place, or the next game. This profile's own.
use Rattle.std.specs.Prelude.{ℕ, Option, Some, None}
use Rattle.cv_syntax_trees.specs.Tree.{Tree, second}
use Rattle.cv_scene.specs.Scenes.{Scene, part_at}
use Rattle.cv_steps.specs.Steps.{Fails, Leads, Row, Zero}
use Rattle.cv_steps.specs.Changes.{change_at}
use Rattle.cv_steps.specs.Rows.{unless, unless_at}
use Rattle.cv_rule_move.specs.Moving.{behind, defined, first_naming, has_bodies, moved}

-- that of what stands at a place, by the variable that it defines
abbrev pub move_row_by : Scene → (place : ℕ) → (definition : Tree) → Option ℕ → Row
move_row_by s p d None = Fails 1 0
move_row_by s p d (Some x) =
    unless (has_bodies (second d)) 2 0
    (unless_at 3 (first_naming x (behind p d) (second d)) (Leads (change_at s.game p moved) Zero))

abbrev pub move_row : Scene → (place : ℕ) → Row
move_row s p = move_row_by s p (part_at s.game p) (defined (part_at s.game p))
