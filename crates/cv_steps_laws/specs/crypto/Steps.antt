-- What is said of a cryptographic step: the first of its conditions that fails; and where none does, for the game that it leads to, with
-- names and labels that are drawn for it, the limits and whether it is a game. Blanchet and Pointcheval, CRYPTO 2006; the limits and the
-- numbers of the conditions are this profile's own.
use Rattle.std.specs.Prelude.{◌≡◌, ℕ, Bool, ◌&&◌, not, nat_lt, if◌then◌else◌, List, Option, Some, None}
use Rattle.cv_syntax_trees.specs.Declarations.{Declaration}
use Rattle.cv_syntax_trees.specs.Tree.{Tree, depth, size}
use Rattle.cv_meaning.specs.Queries.{queries_in}
use Rattle.cv_scene.specs.Reductions.{Reduction}
use Rattle.cv_scene.specs.Scenes.{Scene}
use Rattle.cv_scene.specs.Terms.{is_game}
use Rattle.cv_syntax.specs.limits.Limits.{most_depth, most_nodes, told}
use Rattle.cv_match_laws.specs.answers.Answers.{answer_above}
use Rattle.cv_match_laws.specs.answers.Drawn.{AreDrawnFor, next_game}
use Rattle.cv_steps_laws.specs.crypto.Conditions.{Failure, equivalence_of, failure_of}
use Rattle.cv_steps_laws.specs.crypto.Secrets.{some_asks_without_values}
use Rattle.cv_steps_laws.specs.crypto.Sorts.{has_declared_sorts}

-- The answers of a context's calls have the names from this one on. No table has so many names.
abbrev pub first_answer : ℕ
first_answer = 2147483648

abbrev pub reduction_of : Scene → (equivalence : Tree) → (key : ℕ) → Reduction
reduction_of s e x = record { scene = s; equivalence = e; key = x; answer = answer_above first_answer s.game }

-- The tree is the next game, with names and labels that are drawn for it.
pub record IsNextGame (r : Reduction) (next : Tree) : Type 0 where
  pub names : List ℕ
  pub labels : List ℕ
  pub drawn : AreDrawnFor r names labels
  pub game : next ≡ next_game r names labels

-- condition 9: it is a game of the file, whose types and parameters are declared, and no query asks there for what has no values
abbrev pub is_next : List Declaration → Tree → Bool
is_next ds next = is_game ds next && (has_declared_sorts ds next && not (some_asks_without_values next (queries_in ds)))

-- what a step comes to; sizes from the greatest number of 32 bits on are told as that number
pub data Outcome : Type 0 where
  Refused : (condition place : ℕ) → Outcome
  TooLarge : (nodes : ℕ) → Outcome
  TooDeep : (depth : ℕ) → Outcome
  Accepted : (next : Tree) → Outcome

abbrev pub outcome_with : List Declaration → (next : Tree) → Outcome
outcome_with ds next =
    if nat_lt most_nodes (size next) then TooLarge (told (size next))
    else if nat_lt most_depth (depth next) then TooDeep (told (depth next))
    else if is_next ds next then Accepted next else Refused 9 0

-- where the conditions hold
pub record IsOutcomeOf (s : Scene) (e : Tree) (x : ℕ) (o : Outcome) : Type 0 where
  pub next : Tree
  pub drawn : IsNextGame (reduction_of s e x) next
  pub outcome : o ≡ outcome_with s.declarations next

abbrev pub IsOutcomeBy : Scene → Option Tree → (key : ℕ) → Option Failure → Outcome → Type 0
IsOutcomeBy s e x (Some f) o = o ≡ Refused f.condition f.place
IsOutcomeBy s (Some e) x None o = IsOutcomeOf s e x o
IsOutcomeBy s None x None o = ⊥

-- the names that are drawn are not said, so a step may come to one of several games, which differ in these names alone
abbrev pub IsOutcome : Scene → (equivalence key : ℕ) → Outcome → Type 0
IsOutcome s e x o = IsOutcomeBy s (equivalence_of s e) x (failure_of s e x) o
