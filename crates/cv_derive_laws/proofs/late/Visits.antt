-- At each visit, for each variable and each place.
use Rattle.std.proofs.Common.{◌≡◌, ℕ, ◌+◌, true, List, [], ◌∷◌, ◌++◌, Option, Some, None, refl, sym, ◌∙◌, append-nil}
use Rattle.std.specs.List.{AllByRecursion}
use Rattle.cv_syntax_trees.specs.Declarations.{Declaration}
use Rattle.cv_syntax_trees.specs.Tree.{Tree}
use Rattle.cv_meaning.specs.Experiments.{coins_on, visits_of_run}
use Rattle.cv_meaning.specs.Interpretation.{Setting}
use Rattle.cv_meaning.specs.Memory.{tuple}
use Rattle.cv_meaning.specs.Runs.{Adversary, Mode}
use Rattle.cv_meaning.specs.Serving.{Visit}
use Rattle.cv_meaning.specs.Tapes.{Tape}
use Rattle.cv_scope_rules.specs.Phrases.{HasConstantsOf, IsWellFormedContext}
use Rattle.cv_scope_rules.specs.Scope.{is_variable}
use Rattle.cv_scope_runs.proofs.FactsRuns.{well_game}
use Rattle.cv_scope_runs.proofs.Games.{Game, stands_phrase}
use Rattle.cv_scope_runs.proofs.ServeRuns.{VisitHolds, game_holds}
use Rattle.cv_syntax_trees.proofs.lists.Each.{AllByRecursion_weaker}
use Rattle.cv_scene.specs.Late.{is_late}
use Rattle.cv_derive_laws.specs.late.Unassigned.{IsWellVisited, LateAreUnassigned}
use Rattle.cv_derive_laws.proofs.late.Runs.{VisitLate, visits_late}

-- what holds of each item for each value holds for each value of each item
each_value : {A B : Type 0} (P : B → A → Type 0) (xs : List A) → ((y : B) → AllByRecursion (P y) xs) → AllByRecursion (λ x. (y : B) → P y x) xs
each_value P [] h = tt
each_value P (x ∷ xs) h = (λ y. (h y).0, each_value P xs (λ y. (h y).1))

module _ (g : Setting) (m : Mode) (a : Adversary) (game : Tree) (t : Tape) where
  -- a variable that comes later than a place
  abbrev Later : Type 0
  Later = (q : ℕ × ℕ) × (is_late q.0 game q.1 ≡ true)

  unassigned : (v : Visit) → ((q : Later) → VisitLate q.0.0 q.0.1 v) → LateAreUnassigned game v
  unassigned v h d x rest l e =
      let k = h ((x, v.place + rest), e) d rest refl l in
      record { tree = k.0; unassigned = λ u more i. none u more i (v.before.memory.store x u) refl (k.1 u) }
    where
      none : (u more : List ℕ) → u ++ more ≡ tuple v.before.indices → (o : Option ℕ) → v.before.memory.store x u ≡ o → ((z : ℕ) → v.before.memory.store x u ≡ Some z → (k w : List ℕ) → u ++ k ≡ tuple v.before.indices ++ w → ⊥) → v.before.memory.store x u ≡ None
      none u more i None e f = e
      none u more i (Some z) e f = absurd (f z e more [] (i ∙ sym (append-nil (tuple v.before.indices))))

  pub all_unassigned : (ds : List Declaration) → IsWellFormedContext ds game → AllByRecursion (LateAreUnassigned game) (visits_of_run g m a game t)
  unfolding visits_of_run
  all_unassigned ds w =
      AllByRecursion_weaker (λ v. (q : Later) → VisitLate q.0.0 q.0.1 v) (LateAreUnassigned game) unassigned _
      (each_value (λ (q : Later) v. VisitLate q.0.0 q.0.1 v) _ (λ q. visits_late q.0.0 q.0.1 g m (a.next (coins_on t 0 a.coins)) t a.moves game w.phrase q.1))

  pub all_well_visited : (ds : List Declaration) → HasConstantsOf ds g → IsWellFormedContext ds game → AllByRecursion IsWellVisited (visits_of_run g m a game t)
  unfolding visits_of_run
  all_well_visited ds e w =
      let fine : Game g (is_variable game) game = well_game ds g game e w in
      AllByRecursion_weaker (VisitHolds g (is_variable game) game fine) IsWellVisited (λ v h. record { found = h.matches.found; phrase = h.phrase; is = stands_phrase g (is_variable game) game fine h.stands }) _
      (game_holds g (is_variable game) game fine m (a.next (coins_on t 0 a.coins)) t a.moves).passes.visits
