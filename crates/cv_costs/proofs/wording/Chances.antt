-- On each tape on which the fact holds at each visit an experiment holds in both games or in none.
use Rattle.std.proofs.Common.{◌≡◌, ℕ, zero, suc, ◌+◌, ◌-◌, ◌*◌, ◌≤◌, ◌<◌, Bool, true, false, List, refl, sym, subst, arith}
use Rattle.std.specs.List.{AllByRecursion}
use Rattle.cv_syntax_trees.proofs.lists.Each.{AllByRecursion_both}
use Rattle.cv_syntax_trees.specs.Declarations.{Declaration}
use Rattle.cv_syntax_trees.specs.Tree.{Tree}
use Rattle.cv_meaning.specs.Advantage.{chance_of}
use Rattle.cv_meaning.specs.Cells.{cells}
use Rattle.cv_meaning.specs.Chances.{AtMost, Chance, chance, distance}
use Rattle.cv_meaning.specs.Experiments.{Experiment, coins_on, holds_on, mode_of, visits_of_run}
use Rattle.cv_meaning.specs.Interpretation.{Setting}
use Rattle.cv_meaning.specs.Memory.{Store}
use Rattle.cv_meaning.specs.Runs.{Adversary, Mode}
use Rattle.cv_meaning.specs.Serving.{Visit}
use Rattle.cv_meaning.specs.Tapes.{Cell, Tape, total}
use Rattle.cv_meaning_laws.proofs.Listed.{cells_distinct}
use Rattle.cv_meaning_runs.specs.Replacement.{Process}
use Rattle.cv_meaning_chances.specs.Tests.{IsWithin}
use Rattle.cv_meaning_chances.specs.rewording.Rewording.{IsReworded}
use Rattle.cv_meaning_chances.proofs.FractionLaws.{at_most_trans}
use Rattle.cv_meaning_chances.proofs.Unions.{distance_agree_off}
use Rattle.cv_meaning_chances.proofs.rewording.Alike.{holds_reworded}
use Rattle.cv_meaning_chances.proofs.rewording.SameCells.{same_cells}
use Rattle.cv_scope_rules.specs.Made.{OwnUnassigned}
use Rattle.cv_scope_rules.specs.Phrases.{HasConstantsOf, IsWellFormed, IsWellFormedContext}
use Rattle.cv_scope_rules.specs.Scope.{is_variable}
use Rattle.cv_scope_runs.proofs.ConsultedOnce.{all_own_unassigned}
use Rattle.cv_scope_runs.proofs.FactsRuns.{well_game}
use Rattle.cv_scope_runs.proofs.Games.{Game}
use Rattle.cv_scope_runs.proofs.Plain.{game_context}
use Rattle.cv_scope_runs.proofs.ServeRuns.{VisitHolds, game_holds}
use Rattle.cv_scene.specs.Scenes.{has_news_alone}
use Rattle.cv_costs.specs.wording.Changing.{AreTermsAt, KeepsStill, changed_at}
use Rattle.cv_costs.specs.wording.Facts.{HoldsIn, IsOfArray, KeepsValues}
use Rattle.cv_costs.proofs.wording.Reworded.{Expected, game_reworded}

module _ (ds : List Declaration) (g : Setting) (game : Tree) (y : ℕ) (places : ℕ → Bool) (change : Tree → Tree) (constants : HasConstantsOf ds g) (well : IsWellFormed ds game) (news : has_news_alone y game ≡ true) (terms : AreTermsAt places game) (stills : KeepsStill change) where
  abbrev next : Tree
  next = changed_at places change 0 game

  context : IsWellFormedContext ds game
  context = game_context ds game well

  fine : Game g (is_variable game) game
  fine = well_game ds g game constants context

  -- on one tape
  module _ (P : Store → Type 0) (array : IsOfArray y P) (keeps : KeepsValues g game places change P) where
    abbrev Meets : Visit → Type 0
    Meets v = Expected g game fine y places change P array keeps stills v

    changed_reworded : IsReworded g Meets Process 0 game next
    changed_reworded = game_reworded g game fine y places change P array keeps stills well.phrase news terms

    visits_meet : (m : Mode) (a : Adversary) (t : Tape) → AllByRecursion (HoldsIn P) (visits_of_run g m a game t) → AllByRecursion Meets (visits_of_run g m a game t)
    unfolding visits_of_run
    visits_meet m a t h =
        let vs : List Visit = visits_of_run g m a game t in
        AllByRecursion_both (HoldsIn P) (λ v. OwnUnassigned v × VisitHolds g (is_variable game) game fine v) Meets (λ v q r. (q, r.0, r.1)) vs h
        (AllByRecursion_both OwnUnassigned (VisitHolds g (is_variable game) game fine) (λ v. OwnUnassigned v × VisitHolds g (is_variable game) game fine v) (λ v q r. (q, r)) vs
        (all_own_unassigned ds g m (a.next (coins_on t 0 a.coins)) t a.moves game context) (game_holds g (is_variable game) game fine m (a.next (coins_on t 0 a.coins)) t a.moves).passes.visits)

    pub same_test : (x : Experiment) (a : Adversary) (t : Tape) → AllByRecursion (HoldsIn P) (visits_of_run g (mode_of x) a game t) → holds_on g x a game t ≡ holds_on g x a next t
    same_test x a t h = holds_reworded g Meets x a game next t changed_reworded (visits_meet (mode_of x) a t h)

  pub same_listed : (m : Mode) (a : Adversary) → cells g m a game ≡ cells g m a next
  same_listed m a =
      let none : Store → Type 0 = λ n. ⊥ in
      let array : IsOfArray y none = λ n o e h. h in
      let keeps : KeepsValues g game places change none = λ p e Γ k at n i f r h. absurd h in
      same_cells g (Meets none array keeps) game next (changed_reworded none array keeps) m a

  -- chances without tapes are at no distance
  nothing_apart : (p q r : Chance) → p.all ≡ 0 → q.all ≡ 0 → AtMost (distance p q) r
  nothing_apart p q r e f = go p.all q.all e f
    where
      go : (a b : ℕ) → a ≡ 0 → b ≡ 0 → ((p.good * b - q.good * a) + (q.good * a - p.good * b)) * r.all ≤ r.good * (a * b)
      go zero zero e f =
          let d : (p.good * 0 - q.good * 0) + (q.good * 0 - p.good * 0) ≡ 0 = omega arith in
          subst (λ z. z * r.all ≤ r.good * (0 * 0)) (sym d) (omega arith)
      go (suc a) b e f = absurd (omega arith)
      go zero (suc b) e f = absurd (omega arith)

  pub distance_within : (P : Tape → Store → Type 0) (x : Experiment) (a : Adversary) (bad : Tape → Bool) (bound : Chance) → ((t : Tape) → IsOfArray y (P t)) → ((t : Tape) → KeepsValues g game places change (P t))
      → ((t : Tape) → IsWithin (cells g (mode_of x) a game) t → bad t ≡ false → AllByRecursion (HoldsIn (P t)) (visits_of_run g (mode_of x) a game t)) → AtMost (chance (cells g (mode_of x) a game) bad) bound
      → AtMost (distance (chance_of g x a game) (chance_of g x a next)) bound
  unfolding chance_of
  distance_within P x a bad bound array keeps h l =
      subst (λ ds. AtMost (distance (chance cs (holds_on g x a game)) (chance ds (holds_on g x a next))) bound) (same_listed (mode_of x) a) (go (total cs) refl)
    where
      cs : List (Cell × ℕ)
      cs = cells g (mode_of x) a game

      p : Chance
      p = chance cs (holds_on g x a game)

      q : Chance
      q = chance cs (holds_on g x a next)

      off : AtMost (distance p q) (chance cs bad)
      off = distance_agree_off cs (holds_on g x a game) (holds_on g x a next) bad (cells_distinct g (mode_of x) a game) (λ t w e. same_test (P t) (array t) (keeps t) x a t (h t w e))

      go : (n : ℕ) → total cs ≡ n → AtMost (distance p q) bound
      go zero e = nothing_apart p q bound e e
      go (suc n) e = at_most_trans (distance p q) (chance cs bad) bound (let z : 0 < total cs = omega arith in z) off l
