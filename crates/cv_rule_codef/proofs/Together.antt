-- At each visited `find`, one of two adjacent variables is assigned wherever the other is.
use Rattle.std.proofs.Common.{◌≡◌, ℕ, ◌||◌, not, ◌==◌, Bool, true, false, List, ◌⊎◌, inl, inr, refl, eqb-true}
use Rattle.std.proofs.lemmas.Bool.{and_parts}
use Rattle.std.specs.List.{AllByRecursion}
use Rattle.cv_syntax_trees.specs.declared.head.Head.TheVariants.{Find}
use Rattle.cv_syntax_trees.specs.Declarations.{Declaration}
use Rattle.cv_syntax_trees.specs.Tree.{Tree, Node}
use Rattle.cv_meaning.specs.Experiments.{coins_on, visits_of_run}
use Rattle.cv_meaning.specs.Interpretation.{Setting}
use Rattle.cv_meaning.specs.Runs.{Adversary, Mode}
use Rattle.cv_meaning.specs.Serving.{Visit}
use Rattle.cv_meaning.specs.Tapes.{Tape}
use Rattle.cv_scope_rules.specs.Phrases.{HasConstantsOf, IsWellFormed}
use Rattle.cv_scope_rules.specs.Scope.{is_variable}
use Rattle.cv_scope_runs.proofs.FactsRuns.{well_game}
use Rattle.cv_scope_runs.proofs.Games.{Game}
use Rattle.cv_scope_runs.proofs.Plain.{game_context}
use Rattle.cv_scope_runs.proofs.ServeRuns.{VisitHolds, game_holds}
use Rattle.cv_syntax_trees.proofs.lists.Each.{AllByRecursion_both, AllByRecursion_weaker}
use Rattle.cv_rule_codef.specs.Adjacent.{are_adjacent, are_joined, is_above, sites, stands_above}
use Rattle.cv_rule_codef.specs.Row.{are_related}
use Rattle.cv_rule_codef.specs.Standing.{AreAssignedTogether, AssignsAfter, AssignsAfterAt}
use Rattle.cv_rule_codef.proofs.Following.{IsFollowed, followed_at_finds}
use Rattle.cv_rule_codef.proofs.Known.{above_there, known_there}
use Rattle.cv_rule_codef.proofs.Sites.{joined_either}

module _ (ds : List Declaration) (g : Setting) (game : Tree) (constants : HasConstantsOf ds g) (w : IsWellFormed ds game) (m : Mode) (a : Adversary) (t : Tape) where
  abbrev fine : Game g (is_variable game) game
  fine = well_game ds g game constants (game_context ds game w)

  abbrev visited : List Visit
  visited = visits_of_run g m a game t

  holds : AllByRecursion (VisitHolds g (is_variable game) game fine) visited
  unfolding visits_of_run
  holds = (game_holds g (is_variable game) game fine m (a.next (coins_on t 0 a.coins)) t a.moves).passes.visits

  module _ (x y : ℕ) (n : sites x game ≡ 1) where
    known_at_find : are_joined y x game ≡ true → (v : Visit) → VisitHolds g (is_variable game) game fine v → AssignsAfter x y v
    known_at_find e v h = go v.tree
      where
        go : (b : Tree) → AssignsAfterAt x y b v.before
        go (Node (Find l) c d) = known_there g (is_variable game) game fine y x w.phrase n e v.before.memory.store v.before.memory.events h.stores
        go b = tt

    known_first : are_joined y x game ≡ true → AllByRecursion (AssignsAfter x y) visited
    known_first e = AllByRecursion_weaker (VisitHolds g (is_variable game) game fine) (AssignsAfter x y) (known_at_find e) visited holds

    followed : (are_joined y x game ≡ true) ⊎ IsFollowed x y game → AllByRecursion (AssignsAfter x y) visited
    followed (inl e) = known_first e
    followed (inr f) = followed_at_finds x y g t game m a f

    after : (are_joined x y game || are_joined y x game) ≡ true → AllByRecursion (AssignsAfter x y) visited
    after e = go (are_joined x y game) refl e
      where
        go : (v : Bool) → are_joined x y game ≡ v → (v || are_joined y x game) ≡ true → AllByRecursion (AssignsAfter x y) visited
        go true i k = followed (joined_either x y game n i)
        go false i k = known_first k

  pub assigned_after : (x y : ℕ) → are_adjacent x y game ≡ true → AllByRecursion (AssignsAfter x y) visited
  assigned_after x y e =
      let p = and_parts (not (x == y)) _ e in
      let q = and_parts (sites x game == 1) _ p.1 in
      let r = and_parts (sites y game == 1) _ q.1 in
      after x y (eqb-true (sites x game) 1 q.0) r.1

  above_at_find : (x y : ℕ) → sites x game ≡ 1 → stands_above x y game ≡ true → (v : Visit) → VisitHolds g (is_variable game) game fine v → AssignsAfter x y v
  above_at_find x y n e v h = go v.tree
    where
      go : (b : Tree) → AssignsAfterAt x y b v.before
      go (Node (Find l) c d) = above_there g (is_variable game) game fine y x w.phrase n e v.before.memory.store v.before.memory.events h.stores
      go b = tt

  pub assigned_above : (x y : ℕ) → is_above x y game ≡ true → AllByRecursion (AssignsAfter x y) visited
  assigned_above x y e =
      let p = and_parts (not (x == y)) _ e in
      let q = and_parts (sites x game == 1) _ p.1 in
      let r = and_parts (sites y game == 1) _ q.1 in
      AllByRecursion_weaker (VisitHolds g (is_variable game) game fine) (AssignsAfter x y) (above_at_find x y (eqb-true (sites x game) 1 q.0) r.1) visited holds

  pub assigned_related : (above : Bool) (x y : ℕ) → are_related above x y game ≡ true → AllByRecursion (AssignsAfter x y) visited
  assigned_related true x y e = assigned_above x y e
  assigned_related false x y e = assigned_after x y e

  other_way : (v w : Bool) → (v || w) ≡ true → (w || v) ≡ true
  other_way true true e = refl
  other_way true false e = refl
  other_way false w e = e1 w e
    where
      e1 : (w : Bool) → w ≡ true → (w || false) ≡ true
      e1 true f = refl
      e1 false f = f

  assigned_before : (x y : ℕ) → are_adjacent x y game ≡ true → AllByRecursion (AssignsAfter y x) visited
  assigned_before x y e =
      let p = and_parts (not (x == y)) _ e in
      let q = and_parts (sites x game == 1) _ p.1 in
      let r = and_parts (sites y game == 1) _ q.1 in
      after y x (eqb-true (sites y game) 1 r.0) (other_way (are_joined x y game) (are_joined y x game) r.1)

  pub together : (x y : ℕ) → are_adjacent x y game ≡ true → AllByRecursion (AreAssignedTogether x y) visited
  together x y e = AllByRecursion_both (AssignsAfter x y) (AssignsAfter y x) (AreAssignedTogether x y) (λ v i j. (i, j)) visited (assigned_after x y e) (assigned_before x y e)
