-- The step `fresh`: an equality between a value that is chosen at random and a term that was known before the choice is taken to
-- be false. Blanchet, TDSC 2008, bounds by collisions how often it isn't; the conditions and their order are this profile's own.
use Rattle.std.specs.Prelude.{ℕ, nat_lt, if◌then◌else◌, Option, Some, None}
use Rattle.cv_syntax_trees.specs.Tree.{Tree}
use Rattle.cv_scene.specs.lines.Truths.{no}
use Rattle.cv_scene.specs.Scenes.{Scene, has_place}
use Rattle.cv_steps.specs.Changes.{change_at}
use Rattle.cv_steps.specs.Rows.{unless}
use Rattle.cv_steps.specs.Steps.{Fails, Leads, Row, Step}
use Rattle.cv_costs.specs.Collisions.{one_for_each}
use Rattle.cv_scene.specs.Large.{is_large}
use Rattle.cv_rule_fresh.specs.collisions.Choices.{Choice, choice_above, parameters_at}
use Rattle.cv_costs.specs.names.Reach.{is_in_scope_at}
use Rattle.cv_rule_fresh.specs.collisions.Equalities.{Equality, current_variable, equality_at}

-- the other side is in scope at a `new` of a large type, whose copies are counted
abbrev pub row_by_choice : Scene → (place : ℕ) → (other : Tree) → Option Choice → Row
row_by_choice s p other None = Fails 2 0
row_by_choice s p other (Some c) =
    unless (is_large s c.type) 2 0
    (unless (is_in_scope_at s c.place other) 3 p
    (Leads (change_at s.game p (λ old. no)) (one_for_each s.declarations (parameters_at s c.place) c.type)))

-- that of the variable, above the place in the same body
abbrev pub row_by_variable : Scene → (place : ℕ) → (other : Tree) → Option ℕ → Row
row_by_variable s p other None = Fails 1 0
row_by_variable s p other (Some x) = row_by_choice s p other (choice_above s.game x p)

-- the row by a side that reads a variable at the current indices
abbrev pub row_by_side : Scene → (place : ℕ) → (side other : Tree) → Row
row_by_side s p m other = row_by_variable s p other (current_variable s p m)

-- The first of two rows that leads to a game; where both fail, the one that fails later, or else the first.

abbrev pub later : (condition place : ℕ) → Row → Row
later c p (Leads next cost) = Leads next cost
later c p (Fails d q) = if nat_lt c d then Fails d q else Fails c p

abbrev pub either : Row → Row → Row
either (Leads next cost) row = Leads next cost
either (Fails c p) row = later c p row

-- the left side is tried first
abbrev pub fresh_row_by : Scene → (place : ℕ) → Option Equality → Row
fresh_row_by s p None = Fails 1 0
fresh_row_by s p (Some e) = either (row_by_side s p e.left e.right) (row_by_side s p e.right e.left)

abbrev pub fresh_row : Scene → (place : ℕ) → Row
fresh_row s p = fresh_row_by s p (equality_at s.game p)

abbrev pub fresh_step : (place : ℕ) → Step
fresh_step p = record { stands = λ s. has_place s p; row = λ s. fresh_row s p }
