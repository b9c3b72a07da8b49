-- The names that are drawn along a trail: by each cryptographic step those of its next game; where steps are found, by each `SArename` those
-- that it gives; and by every other step none. This profile's own.
use Rattle.std.specs.Prelude.{◌≡◌, ℕ, Bool, List, [], ◌∷◌, Option, Some, None}
use Rattle.cv_syntax_trees.specs.Declarations.{Declaration}
use Rattle.cv_syntax_trees.specs.Tree.{Tree}
use Rattle.cv_kernel_crypto.specs.Applied.{DrawsNext}
use Rattle.cv_rule_array_names.specs.Drawings.{DrawsBefore}
use Rattle.cv_scene.specs.Scenes.{Scene}
use Rattle.cv_script.specs.Views.{StepItems, items_of_step}
use Rattle.cv_script.specs.Views as items
use Rattle.cv_steps.specs.Sequences.{scene}
use Rattle.cv_kernel.specs.Closings.{closing_in}
use Rattle.cv_kernel.specs.Proofs.{Transition, game_behind}

-- the table of names goes from the one to the other by a step that leads to this game
abbrev pub Draws : (found : Bool) → (before after : List (List ℕ)) → (own : ℕ) → Scene → Option StepItems → (next : Tree) → Type 0
Draws found before after own s (Some (items.Crypto e x)) next = DrawsNext before after own s e x next
Draws found before after own s other next = DrawsBefore found before after own s.game other

-- a step that closes a query stays in its game
abbrev pub game_after : Option Tree → (game : Tree) → Tree
game_after None game = game
game_after (Some next) game = next

-- the table goes so by steps, each with the game that it leads to, from a game on
abbrev pub DrawsAlong : (found : Bool) → List Declaration → (known : ℕ → Bool) → (own : ℕ) → (game : Tree) → List (Tree × Option Tree) → (before after : List (List ℕ)) → Type 0
DrawsAlong found ds known own game [] before after = after ≡ before
DrawsAlong found ds known own game (t ∷ ts) before after =
    (middle : List (List ℕ)) × Draws found before middle own (scene ds known game) (items_of_step t.0) (game_after t.1 game) × DrawsAlong found ds known own (game_after t.1 game) ts middle after

-- the step of a transition, with the game of its own that it leads to
abbrev pub told : Transition → Tree × Option Tree
told t = (t.step, game_behind (closing_in t.step) t.next)
