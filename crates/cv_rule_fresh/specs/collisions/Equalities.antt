-- Equalities in the terms of a game, and a side that reads a variable at the current indices. Blanchet, TDSC 2008, section 2.
use Rattle.std.specs.Prelude.{ℕ, ◌&&◌, if◌then◌else◌, List, Option, Some, None, option_and_then}
use Rattle.cv_syntax_trees.specs.declared.head.Head.TheVariants.{Eq}
use Rattle.cv_syntax_trees.specs.Tree.{Tree, Node, same_tree}
use Rattle.cv_scope_rules.specs.Context.{cell_of}
use Rattle.cv_scope_rules.specs.Phrases.{Inputs}
use Rattle.cv_scene.specs.Scenes.{Scene, part_at}
use Rattle.cv_scene.specs.Sights.{variable_of}
use Rattle.cv_scene.specs.Terms.{has_site, replications_at}
use Rattle.cv_steps.specs.Rewriting.{has_term_at}

pub record Equality : Type 0 where
  pub left : Tree
  pub right : Tree

abbrev pub sides_of : Tree → Option Equality
sides_of (Node Eq l r) = Some (record { left = l; right = r })
sides_of t = None

-- the equality at a place of a game: in a term of a construct or in the condition of a branch, in no index and in no cell
abbrev pub equality_at : Tree → (place : ℕ) → Option Equality
equality_at game p = if has_term_at Inputs game p then sides_of (part_at game p) else None

-- the variable of the game of which this is the cell below replications
abbrev pub cell_variable : Tree → List (ℕ × ℕ) → (term : Tree) → Option ℕ
cell_variable game rs m =
    option_and_then (λ x. if has_site game x && same_tree m (cell_of rs x) then Some x else None) (variable_of m)

-- the variable that a term at a place reads at the current indices
abbrev pub current_variable : Scene → (place : ℕ) → (term : Tree) → Option ℕ
current_variable s p m = cell_variable s.game (replications_at s p) m
