-- Well-formed games that typing accepts.
use Rattle.std.proofs.Common.{◌≡◌, List, [], refl, inr, Option, Some, None}
use Rattle.std.specs.List.{All, AllByRecursion}
use Rattle.std.proofs.lemmas.List.Elements.{All-weaker}
use Rattle.cv_syntax_trees.specs.Declarations.{Declaration}
use Rattle.cv_syntax_trees.specs.Tree.{Tree}
use Rattle.cv_meaning.specs.Cells.{cells}
use Rattle.cv_meaning.specs.Experiments.{run}
use Rattle.cv_meaning.specs.Interpretation.{Interpretation, setting_of}
use Rattle.cv_meaning.specs.Runs.{Adversary, Mode}
use Rattle.cv_meaning.specs.Satisfies.{Satisfies}
use Rattle.cv_meaning.specs.Side.{no_side}
use Rattle.cv_meaning.specs.Tapes.{blank}
use Rattle.cv_meaning_laws.specs.adequacy.Counted.{tapes_of}
use Rattle.cv_meaning_laws.specs.adequacy.Typed.{HasTypedRestrictions, IsTyped as MeansTyped, IsTypedStore, IsTypedTape}
use Rattle.cv_meaning_laws.proofs.adequacy.TypedRuns.{games_keep, run_typed}
use Rattle.cv_meaning_laws.proofs.adequacy.TypedTapes.{tapes_typed}
use Rattle.cv_meaning_laws.proofs.adequacy.Worked.{leaves}
use Rattle.cv_scope_rules.specs.Sites.{sites_from}
use Rattle.cv_scope_rules.specs.Scope.{names_of}
use Rattle.cv_scope_rules.specs.Standing.{at_root}
use Rattle.cv_scope_rules.specs.Phrases.{Inputs, IsWellFormed}
use Rattle.cv_scope_rules.specs.declared.typing.form.Form.TheVariants.{InProcess}
use Rattle.cv_scope_rules.specs.typing.Parts.{IsTypedGame, nothing_above}
use Rattle.cv_syntax_trees.specs.sites.Sites.{Variable, first_of, first_site}
use Rattle.cv_scope_rules.specs.typing.Wants.{Run}
use Rattle.cv_typing_runs.specs.Games.{HasArguments, HasConstants, HasNamedFunctionsAndCells, HasDeclaredSorts, HasKnownNames, context_of, has_site}
use Rattle.cv_typing_runs.proofs.InScope.{in_scope_known}
use Rattle.cv_typing_runs.proofs.Known.{names_known}
use Rattle.cv_typing_runs.proofs.Models.{is_model}
use Rattle.cv_typing_runs.proofs.SameSites.{Agrees, sites_agree}
use Rattle.cv_typing_runs.proofs.Typing.{game_means, restrictions_typed}

pub first_nothing : (o : Option Variable) → o ≡ first_of o None
first_nothing None = refl
first_nothing (Some v) = refl

same_sites : (ds : List Declaration) (game : Tree) → IsWellFormed ds game → AllByRecursion (Agrees (λ x. first_site x [] game)) (sites_from [] 0 game)
same_sites ds game w = sites_agree (λ x. first_site x [] game) (names_of ds game) Inputs at_root [] game refl w.phrase w.scoped tt (λ x. inr (None, first_nothing (first_site x [] game)))

pub typed : (ds : List Declaration) (game : Tree) → HasArguments ds → IsWellFormed ds game → IsTypedGame ds game → HasKnownNames ds game → MeansTyped (context_of ds game) [] game
typed ds game g w t k = game_means ds game g w.constants t w.phrase (names_known ds (has_site game) [] game k) (same_sites ds game w)

pub restrictions : (ds : List Declaration) (game : Tree) → IsTypedGame ds game → HasTypedRestrictions (context_of ds game) game
restrictions ds game t = restrictions_typed ds game nothing_above (Run InProcess) game t

pub typed_runs : (ds : List Declaration) (game : Tree) → HasArguments ds → IsWellFormed ds game → IsTypedGame ds game → HasKnownNames ds game → HasDeclaredSorts ds game → (i : Interpretation) → Satisfies ds i → (m : Mode) (a : Adversary) → All (λ t. IsTypedStore (context_of ds game) i (run (setting_of ds i) m a game t).memory.store) (tapes_of (cells (setting_of ds i) m a game) blank)
typed_runs ds game g w t k d i s m a =
    let model = is_model ds game i s d in
    All-weaker (IsTypedTape (context_of ds game) i) _ (λ u h. run_typed (context_of ds game) i no_side model game (typed ds game g w t k) m a u h (games_keep (context_of ds game) i u (λ l. refl))) (tapes_of (cells (setting_of ds i) m a game) blank) (tapes_typed (context_of ds game) i no_side model leaves game (restrictions ds game t) m a)

pub known : (ds : List Declaration) (game : Tree) → HasConstants ds → IsWellFormed ds game → HasNamedFunctionsAndCells ds game → HasKnownNames ds game
known ds game c w n = in_scope_known ds game c w.scoped n (same_sites ds game w)
