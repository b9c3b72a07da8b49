-- What the names of a reduction's game are in a text, and what gives the call of each site its text. This profile's own.
use Rattle.std.specs.Prelude.{◌≡◌, ℕ, true, false, not, List, length, if◌then◌else◌, Option, Some, None}
use Rattle.cv_syntax_trees.specs.Tree.{chain, first, reads_only}
use Rattle.cv_scope_rules.specs.Context.{items}
use Rattle.cv_scope_rules.specs.Phrases.{HasConstantsOf}
use Rattle.cv_scene.specs.Scenes.{names}
use Rattle.cv_scene.specs.Terms.{has_index}
use Rattle.cv_scene.specs.Sites.{Site}
use Rattle.cv_scene.specs.Refusals.{new_of}
use Rattle.cv_scene.specs.Reductions.{Reduction, is_plain}
use Rattle.cv_meaning.specs.contexts.KeyTerms.{AreFineKeyTerms}
use Rattle.cv_meaning.specs.contexts.Inlined.{is_index_of}
use Rattle.cv_meaning.specs.contexts.Roles.{Gone, Plain, Replication, Role}
use Rattle.cv_inline_laws.specs.runs.Contexts.{ordinary_in}
use Rattle.cv_inline_laws.specs.runs.Texts.{Text, plain_in}
use Rattle.cv_context_runs.specs.visits.CallTexts.{AreOwnIndices}
use Rattle.cv_context_runs.specs.visits.Fine.{HasRolesOf}

-- a site: the indices above it are no drawn names; the key is read at indices and variables of the game, as many as the key has; the
-- arguments read the game's names
pub record HasSiteText (T : Text) (s : Site) : Type 0 where
  pub indices : AreOwnIndices T s.replications
  pub key_terms : AreFineKeyTerms (is_index_of s.replications) (plain_in T) (first s.call.instance.key)
  pub no_constants : reads_only (λ x. not (T.g.is_constant x)) (first s.call.instance.key) ≡ true
  pub key_length : length (items (first s.call.instance.key)) ≡ T.key_length
  pub arguments : reads_only (ordinary_in T) (chain s.call.instance.arguments) ≡ true

-- what a name of the game is: an index, a variable or constant that stays, or one of the key, coins and answers
abbrev pub role_in_game : Reduction → ℕ → Role
role_in_game r x = if has_index r.scene.game x then Replication else if is_plain r x then Plain else Gone

-- the number of replications above the one `new` of a variable
abbrev pub indices_of : Option (ℕ × List (ℕ × ℕ)) → ℕ
indices_of None = 0
indices_of (Some definition) = length definition.1

-- the names of the reduction's game in the text: its constants are those of the file, drawn names are none of its names, its names
-- have their roles, and the key has as many indices as its `new`
pub record IsTextOfGame (T : Text) (r : Reduction) : Type 0 where
  pub constants : HasConstantsOf r.scene.declarations T.g
  pub drawn : (y : ℕ) → T.drawn y ≡ true → names y r.scene.game ≡ false
  pub roles : HasRolesOf T r r.scene.game
  pub indices : (i : ℕ) → has_index r.scene.game i ≡ true → T.role i ≡ Replication
  pub key_length : T.key_length ≡ indices_of (new_of r.scene.game r.key)
