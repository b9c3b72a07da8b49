-- In a run of a well-formed game, what is known at each visited node holds there, and each assigned cell has a definition behind which
-- what is known holds.
use Rattle.std.proofs.Common.{◌≡◌, ℕ, zero, suc, Bool, true, false, cond, List, [], ◌∷◌, ◌++◌, Option, Some, None, refl, subst}
use Rattle.std.specs.List.{AllByRecursion}
use Rattle.cv_syntax_trees.specs.declared.head.Head.TheVariants.{In}
use Rattle.cv_syntax_trees.specs.Tree.{Tree, Empty, Node, first, second, first_place, second_place}
use Rattle.cv_meaning.specs.Tapes.{Tape}
use Rattle.cv_meaning.specs.Interpretation.{Setting}
use Rattle.cv_meaning.specs.Memory.{Memory, Local, nowhere}
use Rattle.cv_meaning.specs.Binders.{fits}
use Rattle.cv_meaning.specs.Inputs.{Input, message_binders}
use Rattle.cv_meaning.specs.Serving.{Served, Turn, Ends, First, Second, step, serve, after_turn, Visit, visits}
use Rattle.cv_meaning.specs.Runs.{Mode, Answer, Move, Calls, Tests, Guesses, State, Taken, taken, admitted, if_fitting, called, told, tested_with, moved, run_from, start, begun, next_move, by_move, visits_of_call, visits_of_move, run_visits}
use Rattle.cv_meaning_laws.proofs.Moves.{TakenEach, admitted_each}
use Rattle.cv_scope_rules.specs.Context.{Context, nothing_known}
use Rattle.cv_scope_rules.specs.Branches.{Pairs}
use Rattle.cv_scope_rules.proofs.Pairs.{pairs_append}
use Rattle.cv_scope_rules.specs.Phrases.{Phrase, Inputs}
use Rattle.cv_scope_runs.specs.Promises.{GrowsTo, VisitsGrow}
use Rattle.cv_scope_runs.proofs.FreshRuns.{IsClear, visits_clear}
use Rattle.cv_scope_runs.proofs.Contexts.{Matches, Holds}
use Rattle.cv_scope_runs.proofs.Rows.{row}
use Rattle.cv_scope_runs.proofs.Standing.{Stands, root, in_first, in_second, first_below, second_below}
use Rattle.cv_scope_runs.proofs.Games.{Game, has_parts, stands_phrase}
use Rattle.cv_scope_runs.proofs.PathRuns.{StoreHolds, grows_same, grows_then, InputReady, input_later, inputs_hold, Fits, Comes, Done, turn_holds, done_same, step_goes}
use Rattle.cv_syntax_trees.proofs.lists.Each.{AllByRecursion_append, AllByRecursion_weaker, AllByRecursion_cross, AllByRecursion_left, AllByRecursion_right}

module _ (g : Setting) (variable : ℕ → Bool) (game : Tree) (fine : Game g variable game) where
  -- services

  -- a visited node stands somewhere in the game, and what stands above it holds
  pub record VisitHolds (v : Visit) : Type 0 where
    pub phrase : Phrase
    pub above : Context
    pub stands : Stands game v.place phrase above v.tree
    pub matches : Matches g variable above.replications v.before.indices
    pub holds : Holds g variable above v.before.indices v.before.memory.store v.before.memory.events
    pub stores : StoreHolds g variable game fine v.before.memory.store v.before.memory.events

  pub record Serving (s : Local) (r : Served) (vs : List Visit) : Type 0 where
    pub done : Done g variable game fine s r
    pub visits : AllByRecursion VisitHolds vs
    pub after : AllByRecursion (λ (v : Visit). GrowsTo s.memory v.before.memory) vs
    pub before : AllByRecursion (λ (v : Visit). GrowsTo v.before.memory r.last.memory) vs
    pub order : Pairs VisitsGrow vs

  serve_holds : (t : Tape) (b : Tree) (p k : ℕ) (vs : List ℕ) (s : Local) (σ : Phrase) (Γ : Context) → Stands game p σ Γ b → Comes g variable game fine σ Γ b k vs s → AllByRecursion IsClear (visits g t b p k vs s) → Serving s (serve g t b p k vs s) (visits g t b p k vs s)
  unfolding serve visits turn_holds
  serve_holds t Empty p k vs s σ Γ st come clear = record { done = done_same g variable game fine s _ refl come.stores tt; visits = tt; after = tt; before = tt; order = tt }
  serve_holds t (Node h a b) p k vs s σ Γ st come clear =
      let q = has_parts σ h a b (stands_phrase g variable game fine st) in
      go q.0.0 q.0.1 (step g t h a b p k vs s) (step_goes g variable game fine t σ q.0.0 q.0.1 h (row σ h q.0.0 q.0.1 come.walks q.1) p Γ a b k vs s st come clear.0)
      (λ j ws n. serve_holds t a (first_place p h) j ws n q.0.0 (first_below σ h Γ) (in_first q.1 st))
      (λ j ws n. serve_holds t b (second_place p h a) j ws n q.0.1 (second_below σ h a Γ) (in_second q.1 st)) clear.1
    where
      here : Visit
      here = record { place = p; tree = Node h a b; before = s }

      holding : VisitHolds here
      holding = record { phrase = σ; above = Γ; stands = st; matches = come.matches; holds = come.holds; stores = come.stores }

      child : (n : Local) (r : Served) (ws : List Visit) → GrowsTo s.memory n.memory → Serving n r ws → Serving s r (here ∷ ws)
      child n r ws w z =
          let all : GrowsTo s.memory r.last.memory = grows_then s.memory n.memory r.last.memory w z.done.grown in
          let from : AllByRecursion (λ (v : Visit). GrowsTo s.memory v.before.memory) ws = AllByRecursion_weaker (λ (v : Visit). GrowsTo n.memory v.before.memory) (λ (v : Visit). GrowsTo s.memory v.before.memory) (λ v x. grows_then s.memory n.memory v.before.memory w x) ws z.after in
          record {
            done = record { stores = z.done.stores; opened = z.done.opened; grown = all };
            visits = (holding, z.visits);
            after = (grows_same s.memory, from);
            before = (all, z.before);
            order = (from, z.order);
          }

      go : (τ ρ : Phrase) (x : Turn) → turn_holds g variable game fine σ τ ρ Γ h a b s x
          → ((j : ℕ) (ws : List ℕ) (n : Local) → Comes g variable game fine τ (first_below σ h Γ) a j ws n → AllByRecursion IsClear (visits g t a (first_place p h) j ws n) → Serving n (serve g t a (first_place p h) j ws n) (visits g t a (first_place p h) j ws n))
          → ((j : ℕ) (ws : List ℕ) (n : Local) → Comes g variable game fine ρ (second_below σ h a Γ) b j ws n → AllByRecursion IsClear (visits g t b (second_place p h a) j ws n) → Serving n (serve g t b (second_place p h a) j ws n) (visits g t b (second_place p h a) j ws n))
          → AllByRecursion IsClear (after_turn (λ r. []) (visits g t a (first_place p h)) (visits g t b (second_place p h a)) x)
          → Serving s (after_turn (λ r. r) (serve g t a (first_place p h)) (serve g t b (second_place p h a)) x) (here ∷ after_turn (λ r. []) (visits g t a (first_place p h)) (visits g t b (second_place p h a)) x)
      go τ ρ (Ends r) x ia ib c = record { done = x; visits = (holding, tt); after = (grows_same s.memory, tt); before = (x.grown, tt); order = (tt, tt) }
      go τ ρ (First j ws n) x ia ib c = child n _ _ x.grown (ia j ws n x.comes c)
      go τ ρ (Second j ws n) x ia ib c = child n _ _ x.grown (ib j ws n x.comes c)

  -- runs

  pub record Passes (x y : Memory) (vs : List Visit) : Type 0 where
    pub grown : GrowsTo x y
    pub visits : AllByRecursion VisitHolds vs
    pub after : AllByRecursion (λ (v : Visit). GrowsTo x v.before.memory) vs
    pub before : AllByRecursion (λ (v : Visit). GrowsTo v.before.memory y) vs
    pub order : Pairs VisitsGrow vs

  passes_none : (x : Memory) → Passes x x []
  passes_none x = record { grown = grows_same x; visits = tt; after = tt; before = tt; order = tt }

  passes_then : (x y z : Memory) (vs ws : List Visit) → Passes x y vs → Passes y z ws → Passes x z (vs ++ ws)
  passes_then x y z vs ws a b = record {
    grown = grows_then x y z a.grown b.grown;
    visits = AllByRecursion_append VisitHolds vs ws a.visits b.visits;
    after = AllByRecursion_append (λ (v : Visit). GrowsTo x v.before.memory) vs ws a.after
        (AllByRecursion_weaker (λ (v : Visit). GrowsTo y v.before.memory) (λ (v : Visit). GrowsTo x v.before.memory) (λ v k. grows_then x y v.before.memory a.grown k) ws b.after);
    before = AllByRecursion_append (λ (v : Visit). GrowsTo v.before.memory z) vs ws
        (AllByRecursion_weaker (λ (v : Visit). GrowsTo v.before.memory y) (λ (v : Visit). GrowsTo v.before.memory z) (λ v k. grows_then v.before.memory y z k b.grown) vs a.before) b.before;
    order = pairs_append VisitsGrow vs ws a.order b.order
        (AllByRecursion_cross (λ (v : Visit). GrowsTo v.before.memory y) (λ (w : Visit). GrowsTo y w.before.memory) VisitsGrow (λ v w k l. grows_then v.before.memory y w.before.memory k l) vs ws a.before b.after);
  }

  pub record StateHolds (st : State) : Type 0 where
    pub stores : StoreHolds g variable game fine st.memory.store st.memory.events
    pub inputs : AllByRecursion (InputReady g variable game fine st.memory.store st.memory.events) st.inputs

  pub record Moves (st st' : State) (vs : List Visit) : Type 0 where
    pub state : StateHolds st'
    pub passes : Passes st.memory st'.memory vs

  stays : (st : State) → StateHolds st → Moves st st []
  stays st z = record { state = z; passes = passes_none st.memory }

  fits_input : (b : Tree) (vs : List ℕ) → fits g.interpretation.type_size (second (first b)) vs ≡ true → Fits g variable game fine b vs
  fits_input (Node (In c) a b) vs e = e
  fits_input (Node h a b) vs e = tt
  fits_input Empty vs e = tt

  admitted_fits : (c : ℕ) (u vs : List ℕ) (is : List Input) (k : Taken) → admitted g c u vs is ≡ Some k → fits g.interpretation.type_size (message_binders k.input) vs ≡ true
  admitted_fits c u vs is k e = go (taken c u is) e
    where
      fitting : (b : Bool) (r : Taken) → fits g.interpretation.type_size (message_binders r.input) vs ≡ b → cond b (Some r) None ≡ Some k → fits g.interpretation.type_size (message_binders k.input) vs ≡ true
      fitting true r i q = let z : r ≡ k = cc in subst (λ (r : Taken). fits g.interpretation.type_size (message_binders r.input) vs ≡ true) z i
      fitting false r i q = cc

      go : (o : Option Taken) → if_fitting g vs o ≡ Some k → fits g.interpretation.type_size (message_binders k.input) vs ≡ true
      go None q = cc
      go (Some r) q = fitting (fits g.interpretation.type_size (message_binders r.input) vs) r refl q

  call_holds : (t : Tape) (st : State) (vs : List ℕ) (k : Taken) → StateHolds st → TakenEach (InputReady g variable game fine st.memory.store st.memory.events) k → fits g.interpretation.type_size (message_binders k.input) vs ≡ true → AllByRecursion IsClear (visits_of_call g t st vs (Some k)) → Moves st (called g t st vs (Some k)) (visits_of_call g t st vs (Some k))
  call_holds t st vs k z a f c =
      let i : Input = k.input in
      let h : InputReady g variable game fine st.memory.store st.memory.events i = a.input in
      let r : Served = serve g t i.tree i.place 0 vs (begun st i) in
      let s = serve_holds t i.tree i.place 0 vs (begun st i) Inputs h.above h.stands (record { walks = refl; promise = fits_input i.tree vs f; matches = h.matches; holds = h.holds; stores = z.stores }) c in
      record {
        state = record {
          stores = s.done.stores;
          inputs = AllByRecursion_append (InputReady g variable game fine r.last.memory.store r.last.memory.events) k.others r.opened
              (AllByRecursion_weaker (InputReady g variable game fine st.memory.store st.memory.events) (InputReady g variable game fine r.last.memory.store r.last.memory.events) (λ j x. input_later g variable game fine st.memory r.last.memory s.done.grown j x) k.others a.others) s.done.opened;
        };
        passes = record { grown = s.done.grown; visits = s.visits; after = s.after; before = s.before; order = s.order };
      }

  move_holds : (m : Mode) (t : Tape) (st : State) (x : Move) → StateHolds st → AllByRecursion IsClear (visits_of_move g t st x) → Moves st (moved g m t st x) (visits_of_move g t st x)
  unfolding moved visits_of_move
  move_holds m t st (Calls c u vs) z q = go (admitted g c u vs st.inputs) refl q
    where
      go : (o : Option Taken) → admitted g c u vs st.inputs ≡ o → AllByRecursion IsClear (visits_of_call g t st vs o) → Moves st (called g t st vs o) (visits_of_call g t st vs o)
      go None e q = record { state = record { stores = z.stores; inputs = z.inputs }; passes = passes_none st.memory }
      go (Some k) e q = call_holds t st vs k z (admitted_each (InputReady g variable game fine st.memory.store st.memory.events) g c u vs st.inputs z.inputs k e) (admitted_fits c u vs st.inputs k e) q
  move_holds m t st (Tests u) z q = go (told m t st u)
    where
      go : (o : Option ℕ) → Moves st (tested_with st o) []
      go None = record { state = record { stores = z.stores; inputs = z.inputs }; passes = passes_none st.memory }
      go (Some v) = record { state = record { stores = z.stores; inputs = z.inputs }; passes = passes_none st.memory }
  move_holds m t st (Guesses b) z q = record { state = record { stores = z.stores; inputs = z.inputs }; passes = passes_none st.memory }

  run_holds : (m : Mode) (next : List Answer → Option Move) (t : Tape) (n : ℕ) (st : State) → StateHolds st → AllByRecursion IsClear (run_visits g m next t n st) → Moves st (run_from g m next t n st) (run_visits g m next t n st)
  unfolding run_visits run_from
  run_holds m next t zero st z c = stays st z
  run_holds m next t (suc n) st z c = go (next_move next st) c (λ a. run_holds m next t n (moved g m t st a))
    where
      go : (o : Option Move) → AllByRecursion IsClear (by_move [] (λ a. visits_of_move g t st a ++ run_visits g m next t n (moved g m t st a)) o)
          → ((a : Move) → StateHolds (moved g m t st a) → AllByRecursion IsClear (run_visits g m next t n (moved g m t st a)) → Moves (moved g m t st a) (run_from g m next t n (moved g m t st a)) (run_visits g m next t n (moved g m t st a)))
          → Moves st (by_move st (λ a. run_from g m next t n (moved g m t st a)) o) (by_move [] (λ a. visits_of_move g t st a ++ run_visits g m next t n (moved g m t st a)) o)
      go None c ih = stays st z
      go (Some a) c ih =
          let ws : List Visit = visits_of_move g t st a in
          let st' : State = moved g m t st a in
          let rest : List Visit = run_visits g m next t n st' in
          let last : State = run_from g m next t n st' in
          let x : Moves st st' ws = move_holds m t st a z (AllByRecursion_left IsClear ws rest c) in
          let y : Moves st' last rest = ih a x.state (AllByRecursion_right IsClear ws rest c) in
          record { state = y.state; passes = passes_then st.memory st'.memory last.memory ws rest x.passes y.passes }

  pub game_holds : (m : Mode) (next : List Answer → Option Move) (t : Tape) (n : ℕ) → Moves (start g game) (run_from g m next t n (start g game)) (run_visits g m next t n (start g game))
  game_holds m next t n =
      run_holds m next t n (start g game)
      (record { stores = λ x u v e. cc; inputs = inputs_hold g variable game fine game 0 nothing_known [] nowhere [] root (record { named = tt; found = tt; apart = tt }) (record { cells = tt; own = tt; facts = tt; events = tt }) })
      (visits_clear g m next t n game fine.branches)
