-- What a game without refusals has, and terms in it: their sites are sites of the game. This profile's own.
use Rattle.std.specs.Prelude.{◌≡◌, ℕ, ◌+◌, ◌<◌, true, false, List, length, slice_get, Some, None}
use Rattle.cv_syntax_trees.specs.Tree.{Tree, first}
use Rattle.cv_scope_rules.specs.Phrases.{IsWellFormed}
use Rattle.cv_scope_rules.specs.declared.position.Position.TheVariants.{Anywhere}
use Rattle.cv_scene.specs.Scenes.{names}
use Rattle.cv_scene.specs.Refusals.{first_argument_use, first_coin_use, first_use, uses}
use Rattle.cv_scene.specs.Sites.{Site, sites_in}
use Rattle.cv_scene.specs.Contexts.{AreAnswers}
use Rattle.cv_scene.specs.LeftTerms.{HasLeftTerms}
use Rattle.cv_scene.specs.Reductions.{Reduction, is_coin, matching, sites}
use Rattle.cv_match_laws.specs.instances.Uses.{uses_outside}

-- coins are their sites' own, no argument reads the key, and the answers are names of their own
pub record HasOwnSites (r : Reduction) : Type 0 where
  pub left : HasLeftTerms r.scene.declarations (matching r).group
  pub formed : IsWellFormed r.scene.declarations r.scene.game
  pub coins : first_coin_use (matching r) (sites r) ≡ None
  pub arguments : first_argument_use (matching r) (sites r) ≡ None
  pub answers : AreAnswers r.scene (length (sites r)) r.answer

-- Terms at a place below replications, whose sites are those of the game from a number on: they use the key and coins in sites
-- alone and have no answer, and at each site the key is not used in the indices of its own read.
pub record AreTermsOf (r : Reduction) (rs : List (ℕ × ℕ)) (number place : ℕ) (t : Tree) : Type 0 where
  pub key : first_use (matching r) Anywhere place t ≡ None
  pub coins : (y : ℕ) → is_coin r y ≡ true → uses_outside (matching r) Anywhere y t ≡ 0
  pub answers : (k : ℕ) → k < length (sites r) → names (r.answer k) t ≡ false
  pub sites : (k : ℕ) (s : Site) → slice_get (sites_in (matching r) Anywhere rs place t) k ≡ Some s → slice_get (sites r) (number + k) ≡ Some s
  pub indices : (k : ℕ) (s : Site) → slice_get (sites_in (matching r) Anywhere rs place t) k ≡ Some s → uses r.key (first s.call.instance.key) ≡ 0
