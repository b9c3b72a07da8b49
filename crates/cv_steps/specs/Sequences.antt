-- Sequences of games. Blanchet, TDSC 2008.
use Rattle.std.specs.Prelude.{◌≡◌, ℕ, Bool, List, [], ◌∷◌, ◌++◌}
use Rattle.cv_syntax_trees.specs.Declarations.{Declaration}
use Rattle.cv_syntax_trees.specs.Tree.{Tree}
use Rattle.cv_scene.specs.Scenes.{Scene}
use Rattle.cv_steps.specs.Steps.{Step, Cost}
use Rattle.cv_steps.specs.Judgements.{Accepted, judgement_of}

-- a game of a file
abbrev pub scene : List Declaration → (ℕ → Bool) → Tree → Scene
scene ds known game = record { declarations = ds; known = known; game = game }

-- a step, what it costs, and the game that it leads to
pub record Passage : Type 0 where
  pub step : Step
  pub cost : Cost
  pub next : Tree

-- From the first game the passages lead to this game: each step is accepted in the game that those before it lead to.
pub data IsSequence (ds : List Declaration) (known : ℕ → Bool) (first : Tree) : List Passage → Tree → Type 0 where
  start : IsSequence ds known first [] first
  push : (before : List Passage) (game : Tree) (p : Passage) → IsSequence ds known first before game → judgement_of (scene ds known game) p.step ≡ Accepted p.next p.cost → IsSequence ds known first (before ++ p ∷ []) p.next
