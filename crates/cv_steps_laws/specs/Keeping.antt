-- What a step keeps of the declarations of a game. This profile's own.
use Rattle.std.specs.Prelude.{◌≡◌, true}
use Rattle.cv_syntax_trees.specs.Tree.{Tree}
use Rattle.cv_scope_rules.specs.Phrases.{Inputs, is_phrase}
use Rattle.cv_typing_runs.specs.Games.{HasDeclaredSorts}
use Rattle.cv_scene.specs.Scenes.{Scene}
use Rattle.cv_steps.specs.Judgements.{Accepted, judgement_of}
use Rattle.cv_steps.specs.Steps.{Cost, Step}

-- where the types and parameters of a game are declared, so are those of the next
abbrev pub KeepsDeclaredSorts : Step → Type 0
KeepsDeclaredSorts step =
    (s : Scene) (next : Tree) (cost : Cost) → is_phrase Inputs s.game ≡ true → HasDeclaredSorts s.declarations s.game
    → judgement_of s step ≡ Accepted next cost → HasDeclaredSorts s.declarations next
