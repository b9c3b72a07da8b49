-- Terms of steps at a place of a game, and the test of a whole game. This profile's own.
use Rattle.std.specs.Prelude.{ℕ, Bool, true, false, ◌&&◌, ◌||◌, not, List, [], ◌∷◌, Option, Some, None, is_some}
use Rattle.cv_syntax_trees.specs.declared.head.Head.{Head}
use Rattle.cv_syntax_trees.specs.declared.head.Head.TheVariants.{Leaf, Read, Apply}
use Rattle.cv_syntax_trees.specs.Declarations.{Declaration}
use Rattle.cv_syntax_trees.specs.Tree.{Tree, Empty, Node}
use Rattle.cv_meaning.specs.Interpretation.{is_constant_of}
use Rattle.cv_syntax_trees.specs.declared.sites.sort.Sort.{Sort}
use Rattle.cv_syntax_trees.specs.declared.sites.sort.Sort.TheVariants.{BelowParameter}
use Rattle.cv_syntax_trees.specs.sites.Sites.{first_site, first_index}
use Rattle.cv_scope_rules.specs.typing.Signature.{Signature, Above, boolean, function_in, sort_of}
use Rattle.cv_syntax_trees.specs.sites.Sorts.{same_sort}
use Rattle.cv_scope_rules.specs.typing.Wants.{AnyTerm, bound}
use Rattle.cv_scope_rules.specs.declared.typing.precedence.Precedence.TheVariants.{First}
use Rattle.cv_scope_rules.specs.typing.Typing as typing
use Rattle.cv_scope_rules.specs.typing.Parts.{first_in, game_part, nothing_above, signature_of}
use Rattle.cv_scope_rules.specs.Context.{Context, known_at}
use Rattle.cv_scope_rules.specs.Rules.{is_index}
use Rattle.cv_scope_rules.specs.Scope.{first_scope_fault}
use Rattle.cv_scope_rules.specs.Phrases.{Phrase, Term, OneCell, Inputs, parts, both_are, is_phrase, binds_none}
use Rattle.cv_scene.specs.Scenes.{Scene}

-- names

abbrev pub has_site : Tree → ℕ → Bool
has_site game x = is_some (first_site x [] game)

abbrev pub has_index : Tree → ℕ → Bool
has_index game i = is_some (first_index i game)

abbrev pub is_function : List Declaration → ℕ → Bool
is_function ds f = is_some (function_in ds f)

-- the names that a tree may read
pub record Names : Type 0 where
  pub function : ℕ → Bool
  pub variable : ℕ → Bool
  pub index : ℕ → Bool

-- what a node names is there; a cell of a `defined` list is one of a variable
abbrev pub head_is_there : Names → Phrase → Head → Bool
head_is_there known OneCell (Leaf x) = known.variable x
head_is_there known σ (Leaf x) = known.index x || (known.function x || known.variable x)
head_is_there known σ (Read x) = known.variable x
head_is_there known σ (Apply f) = known.function f
head_is_there known σ h = true

-- so it is with each node of a phrase
unfoldable pub is_there : Names → Phrase → Tree → Bool
is_there known σ Empty = true
is_there known σ (Node h a b) = head_is_there known σ h && both_are (parts σ h) (λ τ. is_there known τ a) (λ ρ. is_there known ρ b)

-- terms at a place

abbrev pub replications_by : Option Context → List (ℕ × ℕ)
replications_by None = []
replications_by (Some Γ) = Γ.replications

-- the indices of the replications above a place with their parameters
abbrev pub replications_at : Scene → ℕ → List (ℕ × ℕ)
replications_at s p = replications_by (known_at s.game p)

abbrev pub names_under : Scene → List (ℕ × ℕ) → Names
names_under s rs = record { function = is_function s.declarations; variable = has_site s.game; index = is_index rs }

abbrev pub names_at : Scene → ℕ → Names
names_at s p = names_under s (replications_at s p)

-- the sorts of these indices, from the outermost on
abbrev pub indices_above : Above → List (ℕ × ℕ) → Above
indices_above above [] = above
indices_above above (r ∷ rs) = indices_above (bound First above r.0 (BelowParameter r.1)) rs

abbrev pub above_under : List (ℕ × ℕ) → Above
above_under rs = indices_above nothing_above rs

abbrev pub above_at : Scene → ℕ → Above
above_at s p = above_under (replications_at s p)

abbrev pub signature_in : Scene → Signature
signature_in s = signature_of s.declarations (game_part s.game)

-- a term whose names are there, and that is typed, under these indices; and at a place
abbrev pub is_term_under : Scene → List (ℕ × ℕ) → Tree → Bool
is_term_under s rs m =
    is_phrase Term m
    && (is_there (names_under s rs) Term m
    && not (is_some (typing.first_fault (signature_in s) (above_under rs) AnyTerm 0 m)))

abbrev pub is_term_at : Scene → ℕ → Tree → Bool
is_term_at s p m = is_term_under s (replications_at s p) m

abbrev pub is_sort : Option Sort → Sort → Bool
is_sort None S = false
is_sort (Some R) S = same_sort R S

abbrev pub is_bool_under : Scene → List (ℕ × ℕ) → Tree → Bool
is_bool_under s rs m = is_sort (sort_of (signature_in s) (above_under rs) m) boolean

abbrev pub is_bool_at : Scene → ℕ → Tree → Bool
is_bool_at s p m = is_bool_under s (replications_at s p) m

-- whole games

abbrev pub names_anywhere : List Declaration → Tree → Names
names_anywhere ds game = record { function = is_function ds; variable = has_site game; index = has_index game }

-- the game is in the grammar, typed and in array scope, it binds no constant, and each name that it reads is there
abbrev pub is_game : List Declaration → Tree → Bool
is_game ds game =
    is_phrase Inputs game
    && (binds_none (is_constant_of ds) game
    && (is_there (names_anywhere ds game) Inputs game
    && (not (is_some (first_in ds 0 (game_part game ∷ [])))
    && not (is_some (first_scope_fault ds game)))))
