-- An accepted step that puts an assignment's term in place of its variable keeps chances.
use Rattle.std.proofs.Common.{◌≡◌, ℕ, true, false, List, [], ◌∷◌, refl, sym, subst}
use Rattle.std.proofs.lemmas.List.Elements.{All-nil, All-cons}
use Rattle.std.specs.List.{All, AllByRecursion}
use Rattle.cv_syntax_trees.specs.Declarations.{Declaration}
use Rattle.cv_syntax_trees.specs.Tree.{Tree}
use Rattle.cv_meaning.specs.Advantage.{chance_of}
use Rattle.cv_meaning.specs.Chances.{Same}
use Rattle.cv_meaning.specs.Experiments.{coins_on, mode_of, visits_of_run}
use Rattle.cv_meaning.specs.Interpretation.{Setting, setting_of}
use Rattle.cv_meaning.specs.Runs.{Adversary, Mode}
use Rattle.cv_meaning.specs.Tapes.{Tape}
use Rattle.cv_meaning_chances.proofs.rewording.SameCells.{reworded_chances}
use Rattle.cv_meaning_chances.proofs.unread.Chances.{chance_without}
use Rattle.cv_scope_rules.specs.Phrases.{HasConstantsOf, Inputs, IsWellFormed, IsWellFormedContext, is_phrase}
use Rattle.cv_scope_rules.specs.Scope.{is_variable}
use Rattle.cv_scope_runs.specs.Promises.{CandidatesHold, PlaceHolds}
use Rattle.cv_scope_runs.proofs.FactsRuns.{all_candidates_hold, all_places_hold, well_game}
use Rattle.cv_scope_runs.proofs.Games.{Game}
use Rattle.cv_scope_runs.proofs.Plain.{game_context}
use Rattle.cv_scope_runs.proofs.Standing.{root}
use Rattle.cv_scene.specs.Scenes.{Scene, is_queried}
use Rattle.cv_steps.specs.Changes.{only, without}
use Rattle.cv_steps.specs.Chances.{KeepsChances}
use Rattle.cv_steps.specs.Rows.{unlet_row}
use Rattle.cv_steps.specs.Steps.{Cost, Leads}
use Rattle.cv_steps.specs.Unletting.{Assignment, is_listed, with_term, without_assignment}
use Rattle.cv_steps.proofs.Testable.{game_no_calls, game_testable, local}
use Rattle.cv_steps_laws.proofs.Gone.{dropped_game}
use Rattle.cv_steps_laws.proofs.Unletted.{unlet_leads}
use Rattle.cv_steps_laws.proofs.Unnamed.{asked_untested, dropped_phrase, dropped_undrawn}
use Rattle.cv_steps_derivations.proofs.unletting.Puts.{IsPut, puts}
use Rattle.cv_steps_derivations.proofs.unletting.Reworded.{Holds, game_reworded}
use Rattle.cv_steps_derivations.proofs.unletting.Sites.{OneDefinition, only_definition}
use Rattle.cv_syntax_trees.proofs.lists.Each.{AllByRecursion_both}

every : {A : Type 0} (P : A → Type 0) → ((y : A) → P y) → (ys : List A) → All P ys
every P k [] = All-nil P
every P k (y ∷ ys) = All-cons P y ys (k y) (every P k ys)

module _ (g : Setting) (game : Tree) (x : ℕ) (d : Assignment) (fine : Game g (is_variable game) game) (well : is_phrase Inputs game ≡ true) (one : OneDefinition game x d) (free : is_listed x game ≡ false) where
  visits_hold : (ds : List Declaration) → HasConstantsOf ds g → IsWellFormedContext ds game → (m : Mode) (a : Adversary) (t : Tape) → AllByRecursion (Holds g game x d fine well one free) (visits_of_run g m a game t)
  unfolding visits_of_run
  visits_hold ds c w m a t =
      AllByRecursion_both (PlaceHolds g game) (CandidatesHold g game) (Holds g game x d fine well one free) (λ v y z. (y, z)) _
      (all_places_hold ds g m (a.next (coins_on t 0 a.coins)) t a.moves game c w)
      (all_candidates_hold ds g m (a.next (coins_on t 0 a.coins)) t a.moves game c w)

module _ (s : Scene) (x : ℕ) (d : Assignment) (w : IsWellFormed s.declarations s.game) (one : OneDefinition s.game x d) (free : is_listed x s.game ≡ false) (unasked : is_queried s x ≡ false) where
  keeps : KeepsChances s.declarations s.game (without_assignment x d s.game)
  keeps i sat e asked a =
      let g : Setting = setting_of s.declarations i in
      let context : IsWellFormedContext s.declarations s.game = game_context s.declarations s.game w in
      let fine : Game g (is_variable s.game) s.game = well_game s.declarations g s.game refl context in
      let put : Tree = with_term x d s.game in
      let z : IsPut g s.game x d fine w.phrase one free Inputs s.game = puts g s.game x d fine w.phrase one free Inputs s.game root in
      let less : Tree = without (only x) put in
      let phrase : is_phrase Inputs less ≡ true = dropped_phrase (only x) Inputs put z.phrase in
      subst (λ c. Same c (chance_of g e a (without_assignment x d s.game)))
      (sym (reworded_chances g (λ t. Holds g s.game x d fine w.phrase one free) e a s.game put (λ t. game_reworded g s.game x d fine w.phrase one free)
      (every (λ t. AllByRecursion (Holds g s.game x d fine w.phrase one free) (visits_of_run g (mode_of e) a s.game t)) (visits_hold g s.game x d fine w.phrase one free s.declarations refl context (mode_of e) a) _)))
      (subst (λ t. Same (chance_of g e a put) (chance_of g e a t)) z.dropped
      (chance_without g e a (only x) put less local (game_testable (mode_of e) less phrase) (game_no_calls less phrase) (dropped_undrawn (only x) put)
      (dropped_game (only x) put z.phrase z.unread) (asked_untested s x e asked unasked)))

pub unlets : (s : Scene) (x : ℕ) (next : Tree) (cost : Cost) → IsWellFormed s.declarations s.game → unlet_row s x ≡ Leads next cost → KeepsChances s.declarations s.game next
unlets s x next cost w e =
    let r = unlet_leads s x next cost e in
    subst (KeepsChances s.declarations s.game) r.leads (keeps s x r.assignment w (only_definition s.game x r.assignment r.defined) r.unlisted r.unqueried)
