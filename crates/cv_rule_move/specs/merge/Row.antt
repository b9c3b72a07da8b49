-- The step that puts one body in place of a construct whose bodies are all equal: its row, and for how many nodes of a pool it asks.
-- This profile's own.
use Rattle.std.specs.Prelude.{ℕ, not, List, [], ◌∷◌}
use Rattle.cv_syntax_trees.specs.Children.{is_empty}
use Rattle.cv_syntax_trees.specs.Tree.{Tree}
use Rattle.cv_scope_rules.specs.Made.{is_own_at}
use Rattle.cv_scene.specs.Scenes.{Scene, has_place, part_at}
use Rattle.cv_edit_places.specs.Changes.{need_at}
use Rattle.cv_steps.specs.Changes.{change_at}
use Rattle.cv_steps.specs.Rows.{unless, unless_at}
use Rattle.cv_steps.specs.Steps.{Fails, Leads, Row, Step, Zero}
use Rattle.cv_rule_move.specs.merge.Merging.{Body, bodies, first_other, is_beside}
use Rattle.cv_costs.specs.names.Naming.{first_naming, is_one_queried}

-- that of a construct, by its bodies. An index variable that a query names stands before all places: a file has no such query, but
-- what the step keeps is said of all scenes.
abbrev pub merge_row_by : Scene → (place : ℕ) → (construct : Tree) → List Body → Row
merge_row_by s p t [] = Fails 1 0
merge_row_by s p t (b ∷ others) =
    unless (not (is_empty b.process)) 1 0
    (unless_at 2 (first_other b.process others)
    (unless (not (is_one_queried s (is_own_at t))) 3 0
    (unless_at 3 (first_naming (is_own_at t) (is_beside p t b) 0 s.game)
    (Leads (change_at s.game p (λ old. b.process)) Zero))))

abbrev pub merge_row : Scene → (place : ℕ) → Row
merge_row s p = merge_row_by s p (part_at s.game p) (bodies p (part_at s.game p))

abbrev pub merge_step : (place : ℕ) → Step
merge_step p = record { stands = λ s. has_place s p; row = λ s. merge_row s p }

-- no node is made of a body that is there
abbrev pub need_merging : (place : ℕ) → Tree → ℕ
need_merging p = need_at p 0
