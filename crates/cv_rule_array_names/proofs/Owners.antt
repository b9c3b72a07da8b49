-- Which name each copy of the variable has in a run: that of the definition that the run visits there.
use Rattle.std.proofs.Common.{◌≡◌, ℕ, ◌==◌, ◌&&◌, Bool, true, false, cond, List, [], ◌∷◌, Option, refl, sym, ap, ap₂, ◌∙◌, eq-eqb, eqb-true}
use Rattle.std.proofs.lemmas.Bool.{and_parts, both_ways, or_left, or_parts}
use Rattle.std.specs.List.{AllByRecursion}
use Rattle.cv_syntax_trees.proofs.lists.Each.{AllByRecursion_both}
use Rattle.cv_syntax_trees.specs.Declarations.{Declaration}
use Rattle.cv_syntax_trees.specs.Tree.{Tree, Empty, Node}
use Rattle.cv_meaning.specs.Experiments.{Experiment, coins_on, holds_on, mode_of, visits_of_run}
use Rattle.cv_meaning.specs.Interpretation.{Setting}
use Rattle.cv_meaning.specs.Memory.{Store, tuple}
use Rattle.cv_meaning.specs.Runs.{Adversary, Answer, Mode, Move, run_from, run_visits, start}
use Rattle.cv_meaning.specs.Serving.{Visit}
use Rattle.cv_meaning.specs.Tapes.{Cell, Coin, Find_at, Key_at, Made_at, New_at, Picked_at, Tape, Test_at}
use Rattle.cv_meaning_laws.proofs.Counts.{same_tuple_exact, same_tuple_refl}
use Rattle.cv_scope_rules.specs.Branches.{Pairs}
use Rattle.cv_scope_rules.specs.Made.{AssignsNew, MakeApart, OwnUnassigned, made_at}
use Rattle.cv_scope_rules.specs.Context.{Context}
use Rattle.cv_scope_rules.specs.Phrases.{HasConstantsOf, IsWellFormed, IsWellFormedContext, Phrase}
use Rattle.cv_scope_rules.specs.Scope.{is_variable}
use Rattle.cv_scope_rules.specs.Sites.{Variable}
use Rattle.cv_scope_runs.specs.Promises.{GrowsTo}
use Rattle.cv_scope_runs.proofs.ConsultedOnce.{all_assign_new, all_made_once, all_own_unassigned}
use Rattle.cv_scope_runs.proofs.Contexts.{index_none, not_constant, variable_none}
use Rattle.cv_scope_runs.proofs.FactsRuns.{well_game}
use Rattle.cv_scope_runs.proofs.Games.{Game}
use Rattle.cv_scope_runs.proofs.Plain.{game_context, game_plain, plain_no_calls}
use Rattle.cv_scope_runs.proofs.ServeRuns.{VisitHolds, game_holds}
use Rattle.cv_scope_runs.proofs.Standing.{Stands}
use Rattle.cv_edit_names.specs.Naming.{Naming, name_at}
use Rattle.cv_rule_array_names.specs.Owners.{exchanged_cell, makes_at, owner_in}
use Rattle.cv_edit_names.specs.Splitting.{nothing_around, split_in}
use Rattle.cv_rule_array_names.proofs.Aligned.{AreTapes, is_moved}
use Rattle.cv_rule_array_names.proofs.Finds.{IsSplitting}
use Rattle.cv_rule_array_names.proofs.Places.{no_new_index}
use Rattle.cv_rule_array_names.proofs.Points.{IsExpected}
use Rattle.cv_rule_array_names.proofs.Runs.{IsOther, holds_split}
use Rattle.cv_rule_array_names.proofs.Stores.{is_name}
use Rattle.cv_rule_array_names.proofs.Values.{AreVariables, Unread}

pub name_apart : (ys : List ℕ) (y z : ℕ) → is_name ys y ≡ true → is_name ys z ≡ false → (z == y) ≡ false
name_apart ys y z e f = go (z == y) refl
  where
    go : (b : Bool) → (z == y) ≡ b → (z == y) ≡ false
    go true i = absurd (both_ways (is_name ys z) f (ap (is_name ys) (eqb-true z y i) ∙ e))
    go false i = i

pub exchanged_tapes : (x : ℕ) (ys : List ℕ) (o : List ℕ → ℕ) → ((w : List ℕ) → is_name ys (o w) ≡ true) → is_name ys x ≡ false → (t : Tape) → AreTapes x ys o t (λ c. t (exchanged_cell x o c))
exchanged_tapes x ys o owns old t = record {
  owned = λ w.
      let apart : (o w == x) ≡ false = sym_apart (o w) (name_apart ys (o w) x (owns w) old) in
      sym (ap (λ b. t (cond b (New_at (o w) w) (cond (o w == o w) (New_at x w) (New_at (o w) w)))) apart ∙ ap (λ b. t (cond b (New_at x w) (New_at (o w) w))) (eq-eqb (o w) (o w) refl));
  others = λ c e. other c e;
}
  where
    sym_apart : (y : ℕ) → (x == y) ≡ false → (y == x) ≡ false
    sym_apart y e = go (y == x) refl
      where
        go : (b : Bool) → (y == x) ≡ b → (y == x) ≡ false
        go true i = absurd (both_ways (x == y) e (eq-eqb x y (sym (eqb-true y x i))))
        go false i = i

    new : (z : ℕ) (w : List ℕ) → ((z == x) ≡ false) × (is_name ys z ≡ false) → t (New_at z w) ≡ t (exchanged_cell x o (New_at z w))
    new z w e = sym (ap (λ b. t (cond b (New_at (o w) w) (cond (z == o w) (New_at x w) (New_at z w)))) e.0 ∙ ap (λ b. t (cond b (New_at x w) (New_at z w))) (name_apart ys (o w) z (owns w) e.1))

    other : (c : Cell) → is_moved x ys c ≡ false → t c ≡ t (exchanged_cell x o c)
    other (New_at z w) e = new z w (or_parts (z == x) _ e)
    other (Find_at z w) e = refl
    other (Test_at w) e = refl
    other (Key_at w) e = refl
    other (Made_at z w k) e = refl
    other (Picked_at z w k) e = refl
    other (Coin k) e = refl

module _ (g : Setting) (variable : ℕ → Bool) (game : Tree) (fine : Game g variable game) (n : Naming) (p : IsSplitting game n) where
  abbrev x : ℕ
  x = n.variable

  one_named : is_name n.names p.one ≡ true
  one_named = ap (λ ys. is_name ys p.one) p.names ∙ or_left (p.one == p.one) (is_name p.more p.one) (eq-eqb p.one p.one refl)

  site_tree : (q : ℕ) (σ : Phrase) (Γ : Context) (t : Tree) → Stands game q σ Γ t → made_at t (Variable x) ≡ true → is_name n.names (name_at n q) ≡ true
  site_tree q σ Γ Empty st e = absurd (both_ways false refl e)
  site_tree q σ Γ (Node h a b) st e = p.sites q σ Γ h a b st e

  pub owner_named : (vs : List Visit) → AllByRecursion (VisitHolds g variable game fine) vs → (w : List ℕ) → is_name n.names (owner_in n p.one vs w) ≡ true
  unfolding owner_in
  owner_named [] h w = one_named
  owner_named (v ∷ vs) h w = go (makes_at x v w) refl (owner_named vs h.1 w)
    where
      go : (b : Bool) → makes_at x v w ≡ b → is_name n.names (owner_in n p.one vs w) ≡ true → is_name n.names (cond b (name_at n v.place) (owner_in n p.one vs w)) ≡ true
      go true i ih = site_tree v.place h.0.phrase h.0.above v.tree h.0.stands (and_parts (made_at v.tree (Variable x)) _ i).0
      go false i ih = ih

  abbrev Owned : List Visit → Visit → Type 0
  Owned vs v = made_at v.tree (Variable x) ≡ true → owner_in n p.one vs (tuple v.before.indices) ≡ name_at n v.place

  all_owned : (vs : List Visit) → Pairs MakeApart vs → AllByRecursion (Owned vs) vs
  unfolding owner_in
  all_owned [] h = tt
  all_owned (v ∷ vs) h = (
    λ e. ap (λ b. cond b (name_at n v.place) (owner_in n p.one vs (tuple v.before.indices))) (ap₂ (λ c d. c && d) e (same_tuple_refl (tuple v.before.indices))),
    AllByRecursion_both (MakeApart v) (Owned vs) (Owned (v ∷ vs)) later vs h.0 (all_owned vs h.1),
  )
    where
      later : (u : Visit) → MakeApart v u → Owned vs u → Owned (v ∷ vs) u
      later u apart owned e = go (makes_at x v (tuple u.before.indices)) refl
        where
          go : (b : Bool) → makes_at x v (tuple u.before.indices) ≡ b → cond b (name_at n v.place) (owner_in n p.one vs (tuple u.before.indices)) ≡ name_at n u.place
          go true i =
              let r = and_parts (made_at v.tree (Variable x)) _ i in
              absurd (apart (Variable x) r.0 e (same_tuple_exact (tuple v.before.indices) (tuple u.before.indices) r.1))
          go false i = owned e

  variables_of : (known : variable x ≡ true) → ((y : ℕ) → is_name n.names y ≡ true → g.is_constant y ≡ false) → (v : Visit) → VisitHolds g variable game fine v → AreVariables g x n.names v.before.indices
  variables_of known new v h = record {
    no_index = variable_none g variable h.above.replications v.before.indices h.matches x known;
    no_indices = λ y e. index_none g v.before.indices h.above.replications y h.matches.named (no_new_index n.names game p.free y e h.stands);
    no_constant = not_constant g variable fine.apart x known;
    no_constants = new;
  }

-- the runs of a well-formed game
module _ (ds : List Declaration) (g : Setting) (game : Tree) (same : HasConstantsOf ds g) (well : IsWellFormed ds game) (n : Naming) (p : IsSplitting game n) (known : is_variable game n.variable ≡ true) (new : (y : ℕ) → is_name n.names y ≡ true → g.is_constant y ≡ false) (old : is_name n.names n.variable ≡ false) where
  context : IsWellFormedContext ds game
  context = game_context ds game well

  pub fine : Game g (is_variable game) game
  fine = well_game ds g game same context

  module _ (m : Mode) (a : Adversary) (t : Tape) where
    abbrev pub strategy : List Answer → Option Move
    strategy = a.next (coins_on t 0 a.coins)

    abbrev pub the_visits : List Visit
    the_visits = run_visits g m strategy t a.moves (start g game)

    abbrev pub owner : List ℕ → ℕ
    owner w = owner_in n p.one (run_visits g m (a.next (coins_on t 0 a.coins)) t a.moves (start g game)) w

    abbrev pub the_end : Store
    the_end = (run_from g m strategy t a.moves (start g game)).memory.store

    abbrev Holding : Visit → Type 0
    Holding v = VisitHolds g (is_variable game) game fine v

    abbrev Grows : Visit → Type 0
    Grows v = GrowsTo v.before.memory (run_from g m strategy t a.moves (start g game)).memory

    holding : AllByRecursion Holding the_visits
    holding = (game_holds g (is_variable game) game fine m strategy t a.moves).passes.visits

    pub owner_is_named : (w : List ℕ) → is_name n.names (owner w) ≡ true
    owner_is_named w = owner_named g (is_variable game) game fine n p the_visits holding w

    pub visits_expected : AllByRecursion (IsExpected g (is_variable game) game fine n p owner the_end) the_visits
    visits_expected =
        AllByRecursion_both Holding (λ v. Grows v × AssignsNew v × OwnUnassigned v × Owned g (is_variable game) game fine n p the_visits v) (IsExpected g (is_variable game) game fine n p owner the_end)
        (λ v h r. record { holds = h; new = r.1; own = r.2; kept = r.0.store; owned = r.3; vars = variables_of g (is_variable game) game fine n p known new v h }) the_visits holding
        (AllByRecursion_both Grows (λ v. AssignsNew v × OwnUnassigned v × Owned g (is_variable game) game fine n p the_visits v) (λ v. Grows v × AssignsNew v × OwnUnassigned v × Owned g (is_variable game) game fine n p the_visits v) (λ v h r. (h, r.0, r.1, r.2)) the_visits
        (game_holds g (is_variable game) game fine m strategy t a.moves).passes.before
        (AllByRecursion_both AssignsNew (λ v. OwnUnassigned v × Owned g (is_variable game) game fine n p the_visits v) (λ v. AssignsNew v × OwnUnassigned v × Owned g (is_variable game) game fine n p the_visits v) (λ v h r. (h, r.0, r.1)) the_visits
        (all_assign_new ds g m strategy t a.moves game context)
        (AllByRecursion_both OwnUnassigned (Owned g (is_variable game) game fine n p the_visits) (λ v. OwnUnassigned v × Owned g (is_variable game) game fine n p the_visits v) (λ v h r. (h, r)) the_visits
        (all_own_unassigned ds g m strategy t a.moves game context) (all_owned g (is_variable game) game fine n p the_visits (all_made_once ds g m strategy t a.moves game context)))))

  -- the second run reads the tape with the cells of owners in the places of the variable's
  pub holds_exchanged : (e : Experiment) (a : Adversary) → IsOther n.variable n.names (mode_of e) → Unread n.variable (split_in n nothing_around 0 game) → (t : Tape)
      → holds_on g e a game t ≡ holds_on g e a (split_in n nothing_around 0 game) (λ c. t (exchanged_cell n.variable (owner (mode_of e) a t) c))
  unfolding visits_of_run
  holds_exchanged e a other unread t =
      holds_split g (is_variable game) game fine (plain_no_calls game (game_plain ds game well)) n p (owner (mode_of e) a t) (owner_is_named (mode_of e) a t) (the_end (mode_of e) a t) t (λ c. t (exchanged_cell n.variable (owner (mode_of e) a t) c))
      (exchanged_tapes n.variable n.names (owner (mode_of e) a t) (owner_is_named (mode_of e) a t) old t) e a other unread (visits_expected (mode_of e) a t)
