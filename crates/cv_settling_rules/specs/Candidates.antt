-- Candidates for a step that settles a game. Steps that differ in a derivation alone are one candidate. This profile's own.
use Rattle.std.specs.Prelude.{ℕ, Bool, if◌then◌else◌, List, [], ◌∷◌}
use Rattle.cv_syntax_trees.specs.Tree.{Tree}
use Rattle.cv_scene.specs.Pruning.{Part}

pub data Candidate : Type 0 where
  Prune : (place : ℕ) → Part → Candidate
  Merge : (place : ℕ) → Candidate
  Unnew Unlet : (x : ℕ) → Candidate
  Rewrite : (place : ℕ) → (term : Tree) → Candidate
  Birthday Guess : (x : ℕ) → (places : List ℕ) → Candidate
  Fresh : (place : ℕ) → Candidate

-- one item, if a test holds
abbrev pub when : {A : Type 0} → Bool → A → List A
when test item = if test then item ∷ [] else []
