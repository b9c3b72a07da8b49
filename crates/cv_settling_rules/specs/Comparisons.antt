-- Equalities that hold by chance alone: of two cells of one array, of a value with what isn't it, and of one with what was known before.
-- Whether they do is for the step to tell. This profile's own.
use Rattle.std.specs.Prelude.{ℕ, Bool, true, false, ◌&&◌, ◌||◌, List, map}
use Rattle.std.specs.List.{filter}
use Rattle.cv_syntax_trees.specs.declared.head.Head.TheVariants.{Eq}
use Rattle.cv_syntax_trees.specs.Tree.{Tree, Node}
use Rattle.cv_scene.specs.Instances.{is_read_of}
use Rattle.cv_scene.specs.Sights.{variable_of}
use Rattle.cv_settling_rules.specs.Candidates.{Birthday, Candidate, Fresh, Guess}
use Rattle.cv_settling_rules.specs.Spots.{Spot, is_term, spots}
use Rattle.cv_settling_rules.specs.Variables.{variables}

abbrev pub is_read : ℕ → (term : Tree) → Bool
is_read x m = is_read_of x (variable_of m)

-- an equality both sides of which read the variable
abbrev pub compares_both : ℕ → Tree → Bool
compares_both x (Node Eq m n) = is_read x m && is_read x n
compares_both x t = false

-- one with a side that does
abbrev pub compares_one : ℕ → Tree → Bool
compares_one x (Node Eq m n) = is_read x m || is_read x n
compares_one x t = false

abbrev pub is_equality : Tree → Bool
is_equality (Node Eq m n) = true
is_equality t = false

-- the places of the terms that pass a test
abbrev pub places_of : (Tree → Bool) → (game : Tree) → List ℕ
places_of test game = map (λ (v : Spot). v.place) (filter (λ (v : Spot). is_term v.phrase && test v.tree) (spots game))

abbrev pub birthdays : (game : Tree) → List Candidate
birthdays game = map (λ x. Birthday x (places_of (compares_both x) game)) (variables game)

abbrev pub guesses : (game : Tree) → List Candidate
guesses game = map (λ x. Guess x (places_of (compares_one x) game)) (variables game)

abbrev pub freshes : (game : Tree) → List Candidate
freshes game = map Fresh (places_of is_equality game)
