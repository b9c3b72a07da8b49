-- Which indices a step binds. This profile's own.
use Rattle.std.specs.Prelude.{◌≡◌, ℕ, true}
use Rattle.cv_syntax_trees.specs.Tree.{Tree}
use Rattle.cv_scene.specs.Scenes.{Scene}
use Rattle.cv_scene.specs.Terms.{has_index}
use Rattle.cv_steps.specs.Judgements.{Accepted, judgement_of}
use Rattle.cv_steps.specs.Steps.{Cost, Step}

-- where it is accepted, none that the game has not
abbrev pub BindsNoNewIndex : Step → Type 0
BindsNoNewIndex step =
    (s : Scene) (next : Tree) (cost : Cost) → judgement_of s step ≡ Accepted next cost
    → (i : ℕ) → has_index next i ≡ true → has_index s.game i ≡ true
