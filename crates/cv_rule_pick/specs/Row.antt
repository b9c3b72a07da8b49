-- The step that puts the body of its only branch in place of a `find`, with terms for its index variables: its row. This profile's own.
use Rattle.std.specs.Prelude.{ℕ, ◌&&◌, not, Option, Some, None}
use Rattle.cv_syntax_trees.specs.Tree.{Tree}
use Rattle.cv_scope_rules.specs.Made.{is_own_at}
use Rattle.cv_scene.specs.Scenes.{Scene, has_place, part_at}
use Rattle.cv_steps.specs.Changes.{change_at}
use Rattle.cv_steps.specs.Rows.{unless, unless_at, unless_derived}
use Rattle.cv_steps.specs.Steps.{Fails, Leads, Row, Step, Zero}
use Rattle.cv_costs.specs.names.Naming.{first_naming, is_one_queried}
use Rattle.cv_rule_pick.specs.Picking.{Arm, are_indices_at, are_terms_at, arm_place, behind_arm, body_place, equations, first_listed, guards_with, is_inside, lesser, only_arm, own_cells, with_terms}

-- the first place where an index variable is named otherwise than at its site and at current indices in the branch, or is a cell
abbrev pub first_other : Scene → (place : ℕ) → Arm → Option ℕ
first_other s p a =
    lesser
    (first_naming (is_own_at (part_at s.game p)) (is_inside s.game (own_cells s p a) (arm_place p) (behind_arm p a)) 0 s.game)
    (first_listed (is_own_at (part_at s.game p)) 0 s.game)

-- The row of a branch, with the derivations at its body and at the `find`. An index variable that a query names stands before all
-- places: a file has no such query, but what the step keeps is said of all scenes.
abbrev pub pick_row_of : Scene → (place : ℕ) → (terms at_body at_find : Tree) → Arm → Row
pick_row_of s p ms d e a =
    unless (are_indices_at s p a.binders ms) 1 0
    (unless_derived s (body_place p a) d (equations (own_cells s p a) ms) 2 3
    (unless_derived s p e (guards_with (own_cells s p a) ms a) 4 5
    (unless (not (is_one_queried s (is_own_at (part_at s.game p)))) 6 0
    (unless_at 6 (first_other s p a)
    (Leads (change_at s.game p (λ old. with_terms (own_cells s p a) ms a.body)) Zero)))))

abbrev pub pick_row_by : Scene → (place : ℕ) → (terms at_body at_find : Tree) → Option Arm → Row
pick_row_by s p ms d e None = Fails 1 0
pick_row_by s p ms d e (Some a) = pick_row_of s p ms d e a

abbrev pub pick_row : Scene → (place : ℕ) → (terms at_body at_find : Tree) → Row
pick_row s p ms d e = pick_row_by s p ms d e (only_arm (part_at s.game p))

abbrev pub pick_step : (place : ℕ) → (terms at_body at_find : Tree) → Step
pick_step p ms d e = record { stands = λ s. has_place s p && are_terms_at s p ms; row = λ s. pick_row s p ms d e }
