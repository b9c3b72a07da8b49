-- Comparisons of two cells of one array, and of their indices. Blanchet, TDSC 2008, section 3: two values that are chosen at random are
-- equal only by chance.
use Rattle.std.specs.Prelude.{ℕ, Bool, false, ◌&&◌, ◌==◌, if◌then◌else◌, List, [], ◌∷◌, Option, Some, None}
use Rattle.std.specs.List.{list_any}
use Rattle.cv_syntax_trees.specs.declared.head.Head.TheVariants.{Eq}
use Rattle.cv_syntax_trees.specs.Tree.{Tree, Node, first}
use Rattle.cv_scene.specs.lines.Inferences.{equations_of}
use Rattle.cv_scene.specs.lines.Truths.{yes}
use Rattle.cv_scope_rules.specs.Context.{items}
use Rattle.cv_scope_rules.specs.Phrases.{Inputs}
use Rattle.cv_scene.specs.Instances.{is_read_of}
use Rattle.cv_scene.specs.Scenes.{part_at}
use Rattle.cv_scene.specs.Sights.{variable_of}
use Rattle.cv_scene.specs.Terms.{has_site}
use Rattle.cv_steps.specs.Rewriting.{has_term_at}

-- comparisons

-- the term is an equality of which both sides read the variable
abbrev pub is_comparison : (x : ℕ) → Tree → Bool
is_comparison x (Node Eq l r) = is_read_of x (variable_of l) && is_read_of x (variable_of r)
is_comparison x t = false

-- so it is with what stands at a place of the game, in no index and in no cell, and the variable has a site there
abbrev pub is_compared_at : Tree → (x place : ℕ) → Bool
is_compared_at game x p = has_site game x && (has_term_at Inputs game p && is_comparison x (part_at game p))

-- the first of these places where it isn't
abbrev pub first_uncompared : Tree → (x : ℕ) → (places : List ℕ) → Option ℕ
first_uncompared game x [] = None
first_uncompared game x (p ∷ ps) = if is_compared_at game x p then first_uncompared game x ps else Some p

-- the place is one of the list
abbrev pub is_one_of : List ℕ → ℕ → Bool
is_one_of ps p = list_any (λ q. q == p) ps

-- the right-nested conjunction of the equations between two lists of indices, and `true` where there are none
abbrev pub same_indices : (ms ns : List Tree) → Tree
same_indices [] ns = yes
same_indices (m ∷ ms) ns = equations_of (m ∷ ms) ns

-- a comparison of two cells becomes one of their indices
abbrev pub compared : Tree → Tree
compared (Node Eq l r) = same_indices (items (first l)) (items (first r))
compared t = t
