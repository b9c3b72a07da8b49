-- The step that adds a cell to a `defined` list, or drops it there, where the list has the cell of an adjacent variable or of one that is
-- defined below: its row. This profile's own.
use Rattle.std.specs.Prelude.{ℕ, Bool, false, ◌&&◌, not, if◌then◌else◌, Option, Some}
use Rattle.cv_syntax_trees.specs.Tree.{Tree, first, same_tree}
use Rattle.cv_scene.specs.Scenes.{Scene, has_place, part_at}
use Rattle.cv_scene.specs.Sights.{is_cell_at, variable_of}
use Rattle.cv_steps.specs.Changes.{change_at}
use Rattle.cv_steps.specs.Rows.{unless}
use Rattle.cv_steps.specs.Steps.{Leads, Row, Step, Zero}
use Rattle.cv_rule_codef.specs.Adjacent.{are_adjacent, is_above}
use Rattle.cv_rule_codef.specs.Lists.{lists, relisted, with_list}

-- the variables of two cells: those of adjacent definitions, or the second one's definition stands above that of the first

abbrev pub are_related : (above : Bool) → (x y : ℕ) → (game : Tree) → Bool
are_related above x y game = if above then is_above x y game else are_adjacent x y game

abbrev pub related_by : (above : Bool) → (game : Tree) → Option ℕ → Option ℕ → Bool
related_by above game (Some x) (Some y) = are_related above x y game
related_by above game x y = false

abbrev pub are_codefined : (above : Bool) → (game from to : Tree) → Bool
are_codefined above game from to = related_by above game (variable_of from) (variable_of to)

-- a cell that is added isn't in the list, and one that is dropped is
abbrev pub may_relist : (adds : Bool) → (to branch : Tree) → Bool
may_relist adds to branch = if adds then not (lists to branch) else lists to branch

abbrev pub codef_row : Scene → (place : ℕ) → (adds above : Bool) → (to from : Tree) → Row
codef_row s p adds above to from =
    unless (lists from (part_at s.game p)) 1 0
    (unless (are_codefined above s.game from to) 2 0
    (unless (may_relist adds to (part_at s.game p)) 3 0
    (Leads (change_at s.game p (with_list (relisted adds to))) Zero)))

-- both cells are typed at the place, and have one list of indices
abbrev pub stands_codef : Scene → (place : ℕ) → (to from : Tree) → Bool
stands_codef s p to from = has_place s p && (is_cell_at s p to && (is_cell_at s p from && same_tree (first to) (first from)))

abbrev pub codef_step : (place : ℕ) → (adds above : Bool) → (to from : Tree) → Step
codef_step p adds above to from = record { stands = λ s. stands_codef s p to from; row = λ s. codef_row s p adds above to from }
