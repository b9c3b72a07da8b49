-- The step that moves a definition, and for how many nodes of a pool it asks. This profile's own.
use Rattle.std.specs.Prelude.{ℕ, ◌+◌}
use Rattle.cv_syntax_trees.specs.declared.head.Head.TheVariants.{Branch, Cons, Find, If}
use Rattle.cv_syntax_trees.specs.Tree.{Tree, Empty, Node}
use Rattle.cv_scene.specs.Scenes.{has_place, part_at}
use Rattle.cv_steps.specs.Steps.{Step}
use Rattle.cv_edit_places.specs.Changes.{need_at}
use Rattle.cv_rule_move.specs.Rows.{move_row}

abbrev pub move_step : (place : ℕ) → Step
move_step p = record { stands = λ s. has_place s p; row = λ s. move_row s p }

-- a branch is made with its link, the two links of its list and its condition, and a definition
abbrev pub made_in_branches : (branches : Tree) → ℕ
made_in_branches (Node Cons (Node Branch us (Node Cons cells (Node Cons c body))) more) = made_in_branches more + 5
made_in_branches branches = 0

-- a construct is made with a definition for each body, and the links above them
abbrev pub made_in_bodies : Tree → ℕ
made_in_bodies Empty = 0
made_in_bodies (Node If c (Node Cons then_body (Node Cons else_body rest))) = 5
made_in_bodies (Node (Find l) branches otherwise) = made_in_branches branches + 2
made_in_bodies (Node h a body) = 2

-- how many nodes a definition makes that is moved
abbrev pub made_of_moved : Tree → ℕ
made_of_moved Empty = 0
made_of_moved (Node h a construct) = made_in_bodies construct

-- for how many nodes the pool is asked, those above it among them
abbrev pub need_moving : (place : ℕ) → Tree → ℕ
need_moving p game = need_at p (made_of_moved (part_at game p)) game
