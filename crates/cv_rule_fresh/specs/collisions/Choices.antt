-- The `new` of a variable above a place in the same body, and what is in scope there. Blanchet, TDSC 2008, section 2.
use Rattle.std.specs.Prelude.{ℕ, ◌+◌, ◌-◌, ◌==◌, nat_lt, if◌then◌else◌, List, map, Option, Some, None}
use Rattle.cv_syntax_trees.specs.declared.head.Head.{Head}
use Rattle.cv_syntax_trees.specs.declared.head.Head.TheVariants.{In, New}
use Rattle.cv_syntax_trees.specs.Head.{weight}
use Rattle.cv_syntax_trees.specs.Tree.{Tree, Empty, Node, first_place, second_place, size}
use Rattle.cv_scene.specs.Scenes.{Scene}
use Rattle.cv_scene.specs.Terms.{replications_at}

-- a `new` by its place, with its type
pub record Choice : Type 0 where
  pub place : ℕ
  pub type : ℕ

-- The last `new` of the variable on the way down to a place. An input begins another body.

abbrev pub choice_behind : (x : ℕ) → Option Choice → (place : ℕ) → Head → Option Choice
choice_behind x last q (In c) = None
choice_behind x last q (New y T) = if y == x then Some (record { place = q; type = T }) else last
choice_behind x last q h = last

-- in a tree that stands at a place, behind the last one above it
unfoldable pub choice_in : (x : ℕ) → (last : Option Choice) → (at : ℕ) → Tree → (place : ℕ) → Option Choice
choice_in x last q Empty p = None
choice_in x last q (Node h a b) p =
    if nat_lt p (weight h) then last
    else if nat_lt p (weight h + size a) then choice_in x last (first_place q h) a (p - weight h)
    else choice_in x (choice_behind x last q h) (second_place q h a) b (p - (weight h + size a))

abbrev pub choice_above : Tree → (x place : ℕ) → Option Choice
choice_above game x p = choice_in x None 0 game p

-- the parameters of the replications above a place, from the outermost on
abbrev pub parameters_at : Scene → (place : ℕ) → List ℕ
parameters_at s p = map (λ (r : ℕ × ℕ). r.1) (replications_at s p)
