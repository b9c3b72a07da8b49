-- What a well-formed game promises at its places.
use Rattle.std.proofs.Common.{◌≡◌, ℕ, Bool, true, List, [], ◌∷◌, inl, inr, Option, Some, None, refl, sym, ap, subst, ◌∙◌, append-nil}
use Rattle.std.proofs.lemmas.Bool.{both_ways, and_parts}
use Rattle.std.specs.List.{AllByRecursion}
use Rattle.cv_syntax_trees.specs.declared.head.Head.TheVariants.{Out, Event, Let, If, Find, Branch, Cons, Call}
use Rattle.cv_syntax_trees.specs.Declarations.{Declaration}
use Rattle.cv_syntax_trees.specs.Tree.{Tree, Empty, Node, first, second, first_place, second_place}
use Rattle.cv_meaning.specs.Tapes.{Tape}
use Rattle.cv_meaning.specs.Interpretation.{Setting}
use Rattle.cv_meaning.specs.Memory.{Memory, Store, Indices, Happened, Local, tuple}
use Rattle.cv_meaning.specs.Binders.{fits, bound_to}
use Rattle.cv_meaning.specs.Candidates.{are_assigned}
use Rattle.cv_meaning.specs.Inputs.{Input}
use Rattle.cv_meaning.specs.Serving.{Visit}
use Rattle.cv_meaning.specs.Runs.{Mode, Answer, Move, run_visits, run_from, start}
use Rattle.cv_scope_rules.specs.Context.{Context, known_at, nothing_known}
use Rattle.cv_scope_rules.specs.Sites.{SiteName, Variable}
use Rattle.cv_scope_rules.specs.Scope.{is_variable}
use Rattle.cv_scope_rules.specs.Branches.{Pairs}
use Rattle.cv_scope_rules.proofs.Apart.{game_branches}
use Rattle.cv_scope_rules.specs.declared.position.Position.TheVariants.{Anywhere}
use Rattle.cv_scope_rules.specs.Phrases.{Phrase, Inputs, Body, Branches, Arm, Message, Binders, Cells, is_oracle_phrase, binds_none, IsWellFormedContext, HasConstantsOf}
use Rattle.cv_scope_runs.specs.Reads.{IsKept, TermsAssigned, ReadsAssigned, VisitReadsAssigned, BranchAssigned, BranchesAssigned}
use Rattle.cv_scope_rules.specs.Made.{is_bound}
use Rattle.cv_scope_runs.specs.Indexed.{HasValuesBelow, StateHasValuesBelow, VisitHasValuesBelow, head_indexes, is_index_below}
use Rattle.cv_scope_runs.specs.Promises.{GrowsToEnd, VisitsGrow, ContextHolds, HoldsFrom, PlaceHolds, InputHolds, in_list, in_condition, in_body, TuplesHold, BranchesHold, FindHolds, CandidatesHold, after_site, IsDefinition, HoldsAt, CellsHold, OneDefinitionHolds, VisitCellsHold}
use Rattle.cv_scope_runs.proofs.Asked.{Asked, AreDistinct, game_asked}
use Rattle.cv_scope_runs.proofs.OnceRuns.{Has}
use Rattle.cv_scope_runs.proofs.OnceGames.{MakesName}
use Rattle.cv_scope_runs.proofs.FreshRuns.{IsClear, visits_clear}
use Rattle.cv_scope_runs.proofs.TermsLater.{readable_assigned, all_readable_assigned}
use Rattle.cv_scope_runs.proofs.Contexts.{Matches, CellHolds, FactHolds, EventHolds, Holds, bound_later}
use Rattle.cv_scope_runs.proofs.Candidates.{OnlyVariables, bound_values, list_cells, list_read}
use Rattle.cv_scope_runs.proofs.Standing.{Stands, root, in_first, in_second, stands_known, stands_definition}
use Rattle.cv_scope_runs.proofs.Games.{Game, variable_site, stands_phrase, stands_asked, stands_variable}
use Rattle.cv_scope_rules.proofs.Unbound.{no_variable}
use Rattle.cv_scope_runs.proofs.PathRuns.{term_reads, terms_read, later_holds, only_variables, SiteHolds, StoreHolds, InputReady, GuardsShape, shape, guards_shape, own_ready, guarded_holds, branch_holds}
use Rattle.cv_scope_runs.proofs.ServeRuns.{VisitHolds, Moves, game_holds}
use Rattle.cv_syntax_trees.proofs.lists.Each.{AllByRecursion_weaker, AllByRecursion_both}

module _ (g : Setting) (variable : ℕ → Bool) (game : Tree) (fine : Game g variable game) where
  holds_plain : (Γ : Context) (at : Indices) (x : Memory) → Matches g variable Γ.replications at → Holds g variable Γ at x.store x.events → ContextHolds g Γ at x
  holds_plain Γ at x k h = record {
    indices = k.named;
    cells = AllByRecursion_weaker (CellHolds g variable at x.store) _ (λ c z. z.assigned) Γ.cells h.cells;
    facts = AllByRecursion_weaker (FactHolds g variable at x.store) _ (λ f z. z.true) Γ.facts h.facts;
    events = AllByRecursion_weaker (EventHolds g variable at x.store x.events) _ (λ e z. z.recorded) Γ.events h.events;
  }

  holds_from : (Γ : Context) (at : Indices) (x : Memory) → Matches g variable Γ.replications at → Holds g variable Γ at x.store x.events → HoldsFrom g Γ at x
  holds_from Γ at x k h y w = holds_plain Γ at y k (later_holds g variable game fine Γ at x.store x.events y.store y.events w.store w.events h)

  place_holds : (v : Visit) → VisitHolds g variable game fine v → PlaceHolds g game v
  place_holds v h i = (h.above, stands_known game v.place h.phrase h.above v.tree i h.stands, holds_from h.above v.before.indices v.before.memory h.matches h.holds)

  cells_hold : (x : Memory) → StoreHolds g variable game fine x.store x.events → CellsHold g game x
  cells_hold x s y u v e =
      let h : SiteHolds g variable game fine y u v x.store x.events = s y u v e in
      let Δ : Context = after_site h.head h.one h.two h.above in
      ((h.place, Δ), stands_definition game y h.place h.phrase h.above h.head h.one h.two h.stands h.defines, (h.indices, h.at, holds_from Δ h.indices x h.matches h.holds))

  input_holds : (x : Memory) (i : Input) → InputReady g variable game fine x.store x.events i → InputHolds g game x i
  input_holds x i h = (h.above, stands_known game i.place Inputs h.above i.tree h.node h.stands, holds_from h.above i.indices x h.matches h.holds)

  -- the candidates of a find

  data ArmShape : Tree → Type 0 where
    arm : (us cells c body : Tree) → ArmShape (Node Branch us (Node Cons cells (Node Cons c body)))

  arm_shape : (b : Tree) → is_oracle_phrase Arm b ≡ true → ArmShape b
  unfolding is_oracle_phrase
  arm_shape Empty f = absurd (both_ways _ refl f)
  arm_shape (Node Branch us rest) f = go rest (guards_shape g variable game fine rest (and_parts (is_oracle_phrase Binders us) _ f).1)
    where
      go : (rest : Tree) → GuardsShape g variable game fine rest → ArmShape (Node Branch us rest)
      go _ (shape cells c body) = arm us cells c body
  arm_shape (Node h us rest) f = absurd (both_ways _ refl f)

  record BranchFine (Γ : Context) (at : Indices) (x : Memory) (branch : Tree) : Type 0 where
    kept : TuplesHold g Γ at x branch
    read : BranchAssigned g at x.store branch

  branch_fine : (p : ℕ) (Γ : Context) (at : Indices) (x : Memory) (branch : Tree) → OnlyVariables g variable x.store → ArmShape branch → Stands game p Arm Γ branch → Matches g variable Γ.replications at → Holds g variable Γ at x.store x.events
      → ((y : ℕ) → is_bound (first branch) y ≡ true → x.store y (tuple at) ≡ None) → BranchFine Γ at x branch
  branch_fine p Γ at x _ o (arm us cells c body) st k h free = record {
    kept = λ u e. record {
      own = bound_values g variable fine.apart Γ.replications at k g.interpretation.parameter_value m (with_own u) us u distinct (stands_variable g variable game fine st) free e (λ y w v i. i);
      list = holds_plain Γ1 at (record x { store = with_own u }) k (ready u e);
      condition = λ i. holds_plain Γ2 at (record x { store = with_own u }) k (guarded u e i);
      body = λ i. holds_plain Γ3 at (record x { store = with_own u }) k (branch_holds g variable game fine p Γ us cells c body at m es u o st k h free (record { fitting = e; candidate = i })).body;
    };
    read = λ u e. (
      list_read g variable fine.apart Γ1 at m (with_own u) es k (ready u e) (later u) o cells (stands_phrase g variable game fine in_cells) (stands_asked g variable game fine in_cells),
      λ i. readable_assigned g variable at (with_own u) c (term_reads g variable game fine (in_first refl (in_second refl (in_second refl st))) at (with_own u) es k (guarded u e i)),
    );
  }
    where
      m : Store
      m = x.store

      es : List Happened
      es = x.events

      Γ1 : Context
      Γ1 = in_list Γ us

      Γ2 : Context
      Γ2 = in_condition Γ us cells

      Γ3 : Context
      Γ3 = in_body Γ us cells c

      with_own : List ℕ → Store
      with_own u = bound_to m (tuple at) us u

      distinct : AreDistinct us
      distinct = (stands_asked g variable game fine st).0.distinct

      in_cells : Stands game (first_place (second_place p Branch us) Cons) Cells Γ1 cells
      in_cells = in_first refl (in_second refl st)

      later : (u : List ℕ) → IsKept m (bound_to m (tuple at) us u)
      later u = bound_later m (tuple at) us u distinct free

      ready : (u : List ℕ) → fits g.interpretation.parameter_value us u ≡ true → Holds g variable Γ1 at (bound_to m (tuple at) us u) es
      ready u e = own_ready g variable game fine p Γ us (Node Cons cells (Node Cons c body)) at m es u st k h free e

      guarded : (u : List ℕ) → fits g.interpretation.parameter_value us u ≡ true → are_assigned g at m (bound_to m (tuple at) us u) cells ≡ true → Holds g variable Γ2 at (bound_to m (tuple at) us u) es
      guarded u e i =
          guarded_holds g variable game fine Γ1 at (with_own u) es cells (ready u e)
          (list_cells g variable fine.apart Γ1 at m (with_own u) es k (ready u e) (later u) o cells (stands_phrase g variable game fine in_cells) (stands_asked g variable game fine in_cells) i)

  has_binders : (p : ℕ) (branch : Tree) → ArmShape branch → (y : ℕ) → is_bound (first branch) y ≡ true → Has SiteName MakesName p branch (Variable y)
  has_binders p _ (arm us cells c body) y e = inl e

  record BranchesFine (Γ : Context) (at : Indices) (x : Memory) (a : Tree) : Type 0 where
    kept : BranchesHold g Γ at x a
    read : BranchesAssigned g at x.store a

  branches_fine : (a : Tree) (p : ℕ) (Γ : Context) (at : Indices) (x : Memory) → OnlyVariables g variable x.store → Stands game p Branches Γ a → Matches g variable Γ.replications at → Holds g variable Γ at x.store x.events
      → ((y : ℕ) → Has SiteName MakesName p a (Variable y) → x.store y (tuple at) ≡ None) → BranchesFine Γ at x a
  unfolding is_oracle_phrase
  branches_fine Empty p Γ at x o st k h free = record { kept = tt; read = tt }
  branches_fine (Node Cons branch more) p Γ at x o st k h free =
      let first_st : Stands game (first_place p Cons) Arm Γ branch = in_first refl st in
      let sh : ArmShape branch = arm_shape branch (stands_phrase g variable game fine first_st) in
      let one : BranchFine Γ at x branch = branch_fine (first_place p Cons) Γ at x branch o sh first_st k h (λ y e. free y (inr (inl (has_binders (first_place p Cons) branch sh y e)))) in
      let rest : BranchesFine Γ at x more = branches_fine more (second_place p Cons branch) Γ at x o (in_second refl st) k h (λ y e. free y (inr (inr e))) in
      record { kept = (one.kept, rest.kept); read = (one.read, rest.read) }
  branches_fine (Node i branch more) p Γ at x o st k h free = absurd (both_ways _ refl (stands_phrase g variable game fine st))

  -- what a visit reads

  pub record IsKnown (p : ℕ) (Γ : Context) (t : Tree) (s : Local) : Type 0 where
    pub matches : Matches g variable Γ.replications s.indices
    pub holds : Holds g variable Γ s.indices s.memory.store s.memory.events
    pub only : OnlyVariables g variable s.memory.store
    pub clear : IsClear (record { place = p; tree = t; before = s })

  find_fine : (p : ℕ) (Γ : Context) (l : ℕ) (a b : Tree) (s : Local) → Stands game p Body Γ (Node (Find l) a b) → IsKnown p Γ (Node (Find l) a b) s → BranchesFine Γ s.indices s.memory a
  find_fine p Γ l a b s st k =
      branches_fine a (first_place p (Find l)) Γ s.indices s.memory k.only (in_first refl st) k.matches k.holds (λ y e. ap (s.memory.store y) (sym (append-nil (tuple s.indices))) ∙ k.clear y [] (inr (inl e)))

  sent_assigned : {p : ℕ} {Γ : Context} (a : Tree) (s : Local) → Stands game p Message Γ a → Matches g variable Γ.replications s.indices → Holds g variable Γ s.indices s.memory.store s.memory.events → TermsAssigned g s.indices s.memory.store (second a)
  unfolding is_oracle_phrase
  sent_assigned Empty s st k h = tt
  sent_assigned (Node Cons is ms) s st k h = all_readable_assigned g variable s.indices s.memory.store ms (terms_read g variable game fine (in_second refl st) s.indices s.memory.store s.memory.events k h)
  sent_assigned (Node i is ms) s st k h = absurd (both_ways _ refl (stands_phrase g variable game fine st))

  reads_of : (p : ℕ) (σ : Phrase) (Γ : Context) (t : Tree) (s : Local) → Stands game p σ Γ t → IsKnown p Γ t s → ReadsAssigned g t s
  unfolding is_oracle_phrase
  reads_of p Body Γ (Node (Let x T) a b) s st k = readable_assigned g variable s.indices s.memory.store a (term_reads g variable game fine (in_first refl st) s.indices s.memory.store s.memory.events k.matches k.holds)
  reads_of p Body Γ (Node If a b) s st k = readable_assigned g variable s.indices s.memory.store a (term_reads g variable game fine (in_first refl st) s.indices s.memory.store s.memory.events k.matches k.holds)
  reads_of p Body Γ (Node (Event e) a b) s st k = all_readable_assigned g variable s.indices s.memory.store a (terms_read g variable game fine (in_first refl st) s.indices s.memory.store s.memory.events k.matches k.holds)
  reads_of p Body Γ (Node (Call x l) a b) s st k = all_readable_assigned g variable s.indices s.memory.store a (terms_read g variable game fine (in_first refl st) s.indices s.memory.store s.memory.events k.matches k.holds)
  reads_of p Body Γ (Node (Out c) a b) s st k = sent_assigned a s (in_first refl st) k.matches k.holds
  reads_of p Body Γ (Node (Find l) a b) s st k = (find_fine p Γ l a b s st k).read
  reads_of p σ Γ (Node (Let x T) a b) s st k = absurd (both_ways _ refl (stands_phrase g variable game fine st))
  reads_of p σ Γ (Node If a b) s st k = absurd (both_ways _ refl (stands_phrase g variable game fine st))
  reads_of p σ Γ (Node (Event e) a b) s st k = absurd (both_ways _ refl (stands_phrase g variable game fine st))
  reads_of p σ Γ (Node (Call x l) a b) s st k = absurd (both_ways _ refl (stands_phrase g variable game fine st))
  reads_of p σ Γ (Node (Out c) a b) s st k = absurd (both_ways _ refl (stands_phrase g variable game fine st))
  reads_of p σ Γ (Node (Find l) a b) s st k = absurd (both_ways _ refl (stands_phrase g variable game fine st))
  reads_of p σ Γ t s st k = tt

  some_same : (Γ Δ : Context) → ◌≡◌ {A = Option Context} (Some Γ) (Some Δ) → Γ ≡ Δ
  some_same Γ Δ e = cc

  candidates_of : (p : ℕ) (σ : Phrase) (Γ : Context) (t : Tree) (s : Local) → Stands game p σ Γ t → IsKnown p Γ t s → (Δ : Context) → known_at game p ≡ Some Δ → FindHolds g Δ s t
  unfolding is_oracle_phrase
  candidates_of p Body Γ (Node (Find l) a b) s st k Δ e =
      subst (λ Ε. BranchesHold g Ε s.indices s.memory a) (some_same Γ Δ (sym (stands_known game p Body Γ (Node (Find l) a b) refl st) ∙ e)) (find_fine p Γ l a b s st k).kept
  candidates_of p σ Γ (Node (Find l) a b) s st k Δ e = absurd (both_ways _ refl (stands_phrase g variable game fine st))
  candidates_of p σ Γ t s st k Δ e = tt

-- an index variable of the game is one where it is defined
stands_index : (game : Tree) (x n : ℕ) → is_index_below x n game ≡ true → {p : ℕ} {σ : Phrase} {Γ : Context} {b : Tree} → Stands game p σ Γ b → is_index_below x n b ≡ true
unfolding is_index_below
stands_index game x n e root = e
stands_index game x n e (in_first {h = h} {a = a} i st) = (and_parts (is_index_below x n a) _ (and_parts (head_indexes x n h a) _ (stands_index game x n e st)).1).0
stands_index game x n e (in_second {h = h} {a = a} i st) = (and_parts (is_index_below x n a) _ (and_parts (head_indexes x n h a) _ (stands_index game x n e st)).1).1

values_below : (g : Setting) (variable : ℕ → Bool) (game : Tree) (fine : Game g variable game) (x n : ℕ) → is_index_below x n game ≡ true → (m : Store) (es : List Happened) → StoreHolds g variable game fine m es → HasValuesBelow g x n m
unfolding is_index_below
values_below g variable game fine x n e m es s u v i =
    let h : SiteHolds g variable game fine x u v m es = s x u v i in
    h.below n (and_parts (head_indexes x n h.head h.one) _ (stands_index game x n e h.stands)).0

-- over runs

pub well_game : (ds : List Declaration) (g : Setting) (game : Tree) → HasConstantsOf ds g → IsWellFormedContext ds game → Game g (is_variable game) game
well_game ds g game e w = record {
  asked = subst (λ c. Asked (record { constant = c; variable = is_variable game }) Anywhere nothing_known game) (sym e) (game_asked ds game w.scoped);
  phrase = w.phrase;
  branches = game_branches ds game w.scoped;
  constants = free;
  apart = λ x c. no_variable g.is_constant x c game free;
  variables = λ x s. variable_site x game s;
}
  where
    free : binds_none g.is_constant game ≡ true
    free = subst (λ c. binds_none c game ≡ true) (sym e) w.constants

module _ (ds : List Declaration) (g : Setting) (m : Mode) (next : List Answer → Option Move) (t : Tape) (n : ℕ) (game : Tree) (same : HasConstantsOf ds g) (well : IsWellFormedContext ds game) where
  fine : Game g (is_variable game) game
  fine = well_game ds g game same well

  moves : Moves g (is_variable game) game fine (start g game) (run_from g m next t n (start g game)) (run_visits g m next t n (start g game))
  moves = game_holds g (is_variable game) game fine m next t n

  clear : AllByRecursion IsClear (run_visits g m next t n (start g game))
  clear = visits_clear g m next t n game fine.branches

  known : (v : Visit) (h : VisitHolds g (is_variable game) game fine v) → IsClear v → IsKnown g (is_variable game) game fine v.place h.above v.tree v.before
  known v h c = record { matches = h.matches; holds = h.holds; only = only_variables g (is_variable game) game fine v.before.memory.store v.before.memory.events h.stores; clear = c }

  pub all_reads_assigned : AllByRecursion (VisitReadsAssigned g) (run_visits g m next t n (start g game))
  all_reads_assigned =
      AllByRecursion_both (VisitHolds g (is_variable game) game fine) IsClear (VisitReadsAssigned g)
      (λ v h c. reads_of g (is_variable game) game fine v.place h.phrase h.above v.tree v.before h.stands (known v h c)) _ moves.passes.visits clear

  pub all_places_hold : AllByRecursion (PlaceHolds g game) (run_visits g m next t n (start g game))
  all_places_hold = AllByRecursion_weaker (VisitHolds g (is_variable game) game fine) (PlaceHolds g game) (place_holds g (is_variable game) game fine) _ moves.passes.visits

  pub all_candidates_hold : AllByRecursion (CandidatesHold g game) (run_visits g m next t n (start g game))
  all_candidates_hold =
      AllByRecursion_both (VisitHolds g (is_variable game) game fine) IsClear (CandidatesHold g game)
      (λ v h c. candidates_of g (is_variable game) game fine v.place h.phrase h.above v.tree v.before h.stands (known v h c)) _ moves.passes.visits clear

  pub all_values_below : (x k : ℕ) → is_index_below x k game ≡ true → AllByRecursion (VisitHasValuesBelow g x k) (run_visits g m next t n (start g game))
  all_values_below x k e = AllByRecursion_weaker (VisitHolds g (is_variable game) game fine) (VisitHasValuesBelow g x k) (λ v h. values_below g (is_variable game) game fine x k e v.before.memory.store v.before.memory.events h.stores) _ moves.passes.visits

  pub last_values_below : (x k : ℕ) → is_index_below x k game ≡ true → StateHasValuesBelow g x k (run_from g m next t n (start g game))
  last_values_below x k e = values_below g (is_variable game) game fine x k e _ _ moves.state.stores

  pub all_cells_hold : AllByRecursion (VisitCellsHold g game) (run_visits g m next t n (start g game))
  all_cells_hold = AllByRecursion_weaker (VisitHolds g (is_variable game) game fine) (VisitCellsHold g game) (λ v h. cells_hold g (is_variable game) game fine v.before.memory h.stores) _ moves.passes.visits

  pub last_cells_hold : CellsHold g game (run_from g m next t n (start g game)).memory
  last_cells_hold = cells_hold g (is_variable game) game fine _ moves.state.stores

  pub all_grow : Pairs VisitsGrow (run_visits g m next t n (start g game))
  all_grow = moves.passes.order

  pub all_grow_to_last : AllByRecursion (GrowsToEnd (run_from g m next t n (start g game))) (run_visits g m next t n (start g game))
  all_grow_to_last = moves.passes.before

  pub all_inputs_hold : AllByRecursion (InputHolds g game (run_from g m next t n (start g game)).memory) (run_from g m next t n (start g game)).inputs
  all_inputs_hold = AllByRecursion_weaker (InputReady g (is_variable game) game fine _ _) (InputHolds g game (run_from g m next t n (start g game)).memory) (λ i h. input_holds g (is_variable game) game fine _ i h) _ moves.state.inputs

pub one_definition_holds : (g : Setting) (game : Tree) (x : Memory) → CellsHold g game x → OneDefinitionHolds g game x
one_definition_holds g game x c y p Δ one u v e = let k = c y u v e in go k.0 (subst (IsDefinition k.0) one k.1) k.2
  where
    go : (d : ℕ × Context) → IsDefinition d ((p, Δ) ∷ []) → HoldsAt g d.1 u x → HoldsAt g Δ u x
    go d (inl i) k = subst (λ (z : ℕ × Context). HoldsAt g z.1 u x) i k
    go d (inr i) k = absurd i
