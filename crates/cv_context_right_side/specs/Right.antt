-- What gives each call of a game's context its text, where names are drawn for the next game. This profile's own.
use Rattle.std.specs.Prelude.{◌≡◌, ◌==◌, ℕ, ◌<◌, true, false, List, length, slice_get, Some}
use Rattle.std.specs.List.{AllByRecursion, list_any}
use Rattle.cv_syntax_trees.specs.Declarations.{Declaration}
use Rattle.cv_syntax_trees.specs.Tree.{Tree, second}
use Rattle.cv_meaning.specs.Interpretation.{is_constant_of}
use Rattle.cv_meaning.specs.Tapes.{blank}
use Rattle.cv_meaning.specs.contexts.Groups.{Right, side_group}
use Rattle.cv_group_rules.specs.Symbols.{symbols_of}
use Rattle.cv_group_rules.specs.Faults.{IsAccepted}
use Rattle.cv_scope_rules.specs.Phrases.{IsWellFormedContext, binds_none}
use Rattle.cv_typing_runs.specs.Games.{HasArguments}
use Rattle.cv_scene.specs.Apt.{IsAptGame, IsSiteApt}
use Rattle.cv_scene.specs.Contexts.{AreAnswers}
use Rattle.cv_scene.specs.LeftTerms.{HasLeftTerms}
use Rattle.cv_scene.specs.Reductions.{Reduction, context_of_game, matching, sites}
use Rattle.cv_scene.specs.Scenes.{KnowsQueries, is_queried}
use Rattle.cv_scene.specs.Sites.{Site}
use Rattle.cv_scene.specs.Terms.{has_index}
use Rattle.cv_match_laws.specs.answers.Answers.{KnowsConstants}
use Rattle.cv_context_left_side.specs.refusals.Reducible.{IsReducible}
use Rattle.cv_meaning.specs.contexts.Inlined.{is_own}
use Rattle.cv_meaning.specs.contexts.Roles.{Gone}
use Rattle.cv_inline.specs.NextGame.{Calling, callings_of}
use Rattle.cv_inline_laws.specs.draws.DrawnNames.{role_in}
use Rattle.cv_context_runs.specs.visits.Fine.{HasRolesOf, has_free_indices, has_label}
use Rattle.cv_inline_names_laws.specs.accepted.RightBodies.{is_right_side}
use Rattle.cv_inline_names_laws.specs.cells.Layout.{IsContextText, IsRightFunction}
use Rattle.cv_inline_names_laws.specs.drawn.Named.{NamedContext, names_of, text_of}
use Rattle.cv_inline_names_laws.specs.covered.Covered.{names_stand_bare}
use Rattle.cv_context_right_side.specs.texts.SiteTexts.{HasSiteText}

-- the equivalence is accepted and in the grammar of files, and its right side binds no constant
pub record HasRightForm (ds : List Declaration) (c : NamedContext) : Type 0 where
  pub accepted : IsAccepted (symbols_of ds) c.context.equivalence
  pub side : is_right_side (second c.context.equivalence) ≡ true
  pub functions : AllByRecursion IsRightFunction (side_group Right c.context.equivalence).functions
  pub bare : names_stand_bare (second c.context.equivalence) ≡ true
  pub own : AllByRecursion (λ (k : Calling). (x : ℕ) → c.constant x ≡ true → is_own k.caller x ≡ false) (callings_of c.context)

-- what the grammar of files and its rules of names give of the right side of an equivalence
pub record IsRightOfFile (ds : List Declaration) (e : Tree) : Type 0 where
  pub side : is_right_side (second e) ≡ true
  pub functions : AllByRecursion IsRightFunction (side_group Right e).functions
  pub bare : names_stand_bare (second e) ≡ true
  pub free : binds_none (is_constant_of ds) (second e) ≡ true

-- what an accepted file and a cryptographic step give: besides, the file knows its constants and the names for which its queries ask,
-- no query asks for an index of the game, and the answers serve however many calls there are
pub record IsStepOfFile (r : Reduction) : Type 0 where
  pub reducible : IsReducible r
  pub arguments : HasArguments r.scene.declarations
  pub right : IsRightOfFile r.scene.declarations r.equivalence
  pub constants : KnowsConstants r.scene
  pub queries : KnowsQueries r.scene
  pub unasked : (x : ℕ) → is_queried r.scene x ≡ true → has_index r.scene.game x ≡ false
  pub answers : (sites : ℕ) → AreAnswers r.scene sites r.answer

-- the context with drawn names is that of the game, with its key, answers and constants; its sites have texts
pub record IsNamedFor (r : Reduction) (c : NamedContext) : Type 0 where
  pub context : c.context ≡ context_of_game r
  pub key : c.key ≡ r.key
  pub answers : (l : ℕ) → l < length (sites r) → c.answer l ≡ r.answer l
  pub constant_there : (x : ℕ) → is_constant_of r.scene.declarations x ≡ true → c.constant x ≡ true
  pub key_constant : c.g.is_constant c.key ≡ false
  pub gone : role_in (names_of c) c.key ≡ Gone
  pub form : HasRightForm r.scene.declarations c
  pub apt : IsAptGame r
  pub left : HasLeftTerms r.scene.declarations (matching r).group
  pub sites_apt : (l : ℕ) (s : Site) → slice_get (sites r) l ≡ Some s → IsSiteApt r s.replications l s
  pub texts : (l : ℕ) (s : Site) → slice_get (sites r) l ≡ Some s → HasSiteText (text_of c blank blank) s

-- besides, the context is in scope and its names have one type each, the game's names have their roles, its labels are not drawn, and
-- no instance stands in an index
pub record IsRightGame (r : Reduction) (c : NamedContext) (types : ℕ → ℕ) : Type 0 where
  pub named : IsNamedFor r c
  pub formed : IsWellFormedContext r.scene.declarations (context_of_game r).game
  pub roles : HasRolesOf (text_of c blank blank) r r.scene.game
  pub labels : (l : ℕ) → has_label l r.scene.game ≡ true → list_any (λ k. k == l) c.labels ≡ false
  pub free : has_free_indices (matching r) r.scene.game ≡ true
  pub typed : IsContextText (text_of c blank blank) types c.context.game
