-- A game with an equivalence, a key and the answers of calls: its names that its context has with the same values. This profile's own.
use Rattle.std.specs.Prelude.{ℕ, Bool, ◌&&◌, not, ◌==◌, List, length}
use Rattle.std.specs.List.{list_any}
use Rattle.cv_syntax_trees.specs.Tree.{Tree}
use Rattle.cv_meaning.specs.Candidates.{below}
use Rattle.cv_meaning.specs.Interpretation.{Interpretation, Setting, setting_of, setting_with}
use Rattle.cv_meaning.specs.contexts.Finds.{Oracles}
use Rattle.cv_meaning.specs.contexts.Groups.{Left}
use Rattle.cv_meaning.specs.contexts.Sides.{Context, oracles_of, side_from}
use Rattle.cv_scene.specs.Scenes.{Scene}
use Rattle.cv_scene.specs.Instances.{Matching}
use Rattle.cv_scene.specs.Sites.{Site, sites_of}
use Rattle.cv_scene.specs.Contexts.{context_of, is_coin_variable, matching_of}

pub record Reduction : Type 0 where
  pub scene : Scene
  pub equivalence : Tree
  pub key : ℕ
  pub answer : ℕ → ℕ

abbrev pub matching : Reduction → Matching
matching r = matching_of r.scene r.equivalence r.key

abbrev pub sites : Reduction → List Site
sites r = sites_of (matching r)

abbrev pub is_coin : Reduction → ℕ → Bool
is_coin r y = is_coin_variable (sites r) y

abbrev pub is_answer : Reduction → ℕ → Bool
is_answer r x = list_any (λ k. r.answer k == x) (below (length (sites r)))

-- the name is not the key's, no coin's and no answer's
abbrev pub is_plain : Reduction → ℕ → Bool
is_plain r x = not (x == r.key) && (not (is_coin r x) && not (is_answer r x))

-- the context of the game
abbrev pub context_of_game : Reduction → Context
context_of_game r = context_of r.scene r.equivalence r.key r.answer

-- the settings of the game, and of its context with the left side

abbrev pub in_game : Reduction → Interpretation → Setting
in_game r i = setting_of r.scene.declarations i

abbrev pub oracles : Reduction → Interpretation → Oracles
oracles r i = oracles_of (in_game r i) (context_of_game r) Left

abbrev pub in_context : Reduction → Interpretation → Setting
in_context r i = setting_with r.scene.declarations i (side_from (oracles r i))
