-- A game without the only definition of a variable, a `let`, where each read of the variable is its term at the read's indices. Blanchet,
-- TDSC 2008, section 3.
use Rattle.std.specs.Prelude.{ℕ, Bool, false, ◌||◌, if◌then◌else◌, List, [], ◌∷◌, Option, Some, None, option_map}
use Rattle.cv_syntax_trees.specs.declared.head.Head.TheVariants.{Branch, Let}
use Rattle.cv_syntax_trees.specs.Tree.{Tree, Empty, Node}
use Rattle.cv_scope_rules.specs.Behind.{sites_of}
use Rattle.cv_scope_rules.specs.Context.{Context}
use Rattle.cv_scene.specs.Instances.{is_read_of}
use Rattle.cv_scene.specs.Scenes.{head_reads, part_at}
use Rattle.cv_scene.specs.Sights.{at_cell, variable_of}
use Rattle.cv_steps.specs.Changes.{only, without}

-- the term of a `let`
abbrev pub assigned_in : Tree → Option Tree
assigned_in (Node (Let x T) m b) = Some m
assigned_in t = None

-- what a definition assigns, and what stands behind it
pub record Assignment : Type 0 where
  pub term : Tree
  pub behind : Context

abbrev pub assignment_by : Tree → List (ℕ × Context) → Option Assignment
assignment_by game (d ∷ []) = option_map (λ m. record { term = m; behind = d.1 }) (assigned_in (part_at game d.0))
assignment_by game sites = None

-- that of a variable with one definition, a `let`
abbrev pub only_assignment : Tree → ℕ → Option Assignment
only_assignment game x = assignment_by game (sites_of game x)

-- a cell of the variable stands in a list
abbrev pub has_cell_of : ℕ → Tree → Bool
has_cell_of x Empty = false
has_cell_of x (Node h c more) = is_read_of x (variable_of c) || has_cell_of x more

-- a `defined` list of the tree names the variable
unfoldable pub is_listed : ℕ → Tree → Bool
is_listed x Empty = false
is_listed x (Node Branch us (Node h cells rest)) = has_cell_of x cells || is_listed x rest
is_listed x (Node h a b) = is_listed x a || is_listed x b

-- the tree with the term in place of each read of the variable, at the read's indices
unfoldable pub with_term : ℕ → Assignment → Tree → Tree
with_term x d Empty = Empty
with_term x d (Node h a b) = if head_reads x h then at_cell (Node h a b) d.behind d.term else Node h (with_term x d a) (with_term x d b)

abbrev pub without_assignment : ℕ → Assignment → Tree → Tree
without_assignment x d game = with_term x d (without (only x) game)
