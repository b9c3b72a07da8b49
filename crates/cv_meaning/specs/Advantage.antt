-- The advantage of an adversary against a query. Blanchet, CSF 2007, for correspondences; Blanchet,
-- TDSC 2008, for secrecy and for secrecy of one session.
use Rattle.std.specs.Prelude.{ℕ, Bool, true, false, List, Contains, if◌then◌else◌}
use Rattle.cv_syntax_trees.specs.declared.head.Head.TheVariants.{Secret, SecretOnce}
use Rattle.cv_syntax_trees.specs.Tree.{Tree, Node, lone}
use Rattle.cv_meaning.specs.Interpretation.{Setting}
use Rattle.cv_meaning.specs.Runs.{Events, Real, Random, Adversary}
use Rattle.cv_meaning.specs.Cells.{cells}
use Rattle.cv_meaning.specs.Experiments.{Experiment, Breaks, Guesses, mode_of, holds_on}
use Rattle.cv_meaning.specs.Chances.{Chance, chance, distance}

-- the chance that an experiment holds
unfoldable pub chance_of : Setting → Experiment → Adversary → Tree → Chance
chance_of g x a game = chance (cells g (mode_of x) a game) (holds_on g x a game)

-- how well the values of a variable are told from random ones
abbrev pub secrecy : Setting → Bool → ℕ → Adversary → Tree → Chance
secrecy g one x a game = distance (chance_of g (Guesses (Real one x)) a game) (chance_of g (Guesses (Random one x)) a game)

-- against the tree of a query
abbrev pub advantage : Setting → Tree → Adversary → Tree → Chance
advantage g (Node (Secret x) b c) a game = secrecy g false x a game
advantage g (Node (SecretOnce x) b c) a game = secrecy g true x a game
advantage g q a game = chance_of g (Breaks q) a game

-- the tree of a query of secrecy
abbrev pub secrecy_query : Bool → ℕ → Tree
secrecy_query one x = lone (if one then SecretOnce x else Secret x)

-- an experiment of one of these queries
abbrev pub IsAsked : List Tree → Experiment → Type 0
IsAsked qs (Breaks q) = Contains qs q
IsAsked qs (Guesses Events) = ⊥
IsAsked qs (Guesses (Real one x)) = Contains qs (secrecy_query one x)
IsAsked qs (Guesses (Random one x)) = Contains qs (secrecy_query one x)
