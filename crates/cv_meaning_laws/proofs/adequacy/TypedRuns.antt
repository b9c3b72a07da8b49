-- A run of a typed game keeps its store typed.
use Rattle.std.proofs.Common.{◌≡◌, ℕ, zero, suc, ◌<◌, Bool, true, false, cond, ◌&&◌, ◌==◌, nat_lt, List, [], ◌∷◌, ◌++◌, Option, Some, None, refl, sym, subst, ltb-true, eqb-true}
use Rattle.std.proofs.lemmas.Bool.{both_ways, and_parts}
use Rattle.std.specs.List.{AllByRecursion}
use Rattle.cv_syntax_trees.specs.declared.head.Head.TheVariants.{Par, Repl, In, Out, Event, New, Let, If, Find, Branch, Cons, Binder, Key, Call}
use Rattle.cv_syntax_trees.specs.Tree.{Tree, Empty, Node, first, second}
use Rattle.cv_meaning.specs.Tapes.{Tape, Find_at, same_tuple}
use Rattle.cv_meaning.specs.Side.{Side, no_side}
use Rattle.cv_meaning.specs.Interpretation.{Interpretation, Setting, setting_with}
use Rattle.cv_meaning.specs.Memory.{Store, put, Indices, tuple, Memory, Local, with_store}
use Rattle.cv_meaning.specs.Binders.{fits, bound_to}
use Rattle.cv_meaning.specs.Candidates.{Candidate, below, candidates, chosen}
use Rattle.cv_meaning.specs.Inputs.{Input, inputs_of, message_binders}
use Rattle.cv_meaning.specs.Serving.{Served, after_find, step, serve, after_turn, oracle_call}
use Rattle.cv_meaning.specs.Runs.{Mode, Move, Calls, Tests, Guesses, State, Adversary, Taken, taken, called, told, tested_with, moved, admitted, if_fitting, start}
use Rattle.cv_meaning.specs.Experiments.{run, coins_on}
use Rattle.cv_meaning_laws.proofs.Counts.{same_tuple_exact}
use Rattle.cv_meaning_laws.proofs.Moves.{TakenEach, admitted_each, run_keeps}
use Rattle.cv_meaning_laws.proofs.Listed.{Has, each_flat_map_in}
use Rattle.cv_meaning_laws.specs.adequacy.Finds.{branch_at, AreIndices, IsCandidateOf}
use Rattle.cv_meaning_laws.specs.adequacy.Typed.{Sort, OfType, BelowParameter, size_of, Variable, Context, Scope, parameters, AreVariables, AreBranches, IsTyped, IsModel, AreBelowParameters, AreIndicesOf, IsTypedStore, IsTypedTape, AreTypedArrays, KeepsSorts, HasNoOracles}
use Rattle.cv_meaning_laws.proofs.adequacy.Lists.{below_has, stands_has}
use Rattle.cv_meaning_laws.proofs.adequacy.Finding.{has_candidate}
use Rattle.cv_meaning_laws.proofs.adequacy.Sorted.{some_value, typed_value, typed_values}
use Rattle.cv_syntax_trees.proofs.lists.Each.{AllByRecursion_append}

-- indices

indices_push : (i : Interpretation) (ps : Scope) (at : Indices) (x n v : ℕ) → AreIndicesOf i ps at → v < i.parameter_value n → AreIndicesOf i (ps ++ (x, n) ∷ []) (at ++ (x, v) ∷ [])
indices_push i [] [] x n v h k = (refl, k, tt)
indices_push i (p ∷ ps) (q ∷ at) x n v h k = (h.0, h.1, indices_push i ps at x n v h.2 k)
indices_push i [] (q ∷ at) x n v h k = absurd h
indices_push i (p ∷ ps) [] x n v h k = absurd h

indices_below : (i : Interpretation) (ps : Scope) (at : Indices) → AreIndicesOf i ps at → AreBelowParameters i (parameters ps) (tuple at)
indices_below i [] [] h = tt
indices_below i (p ∷ ps) (q ∷ at) h = (h.1, indices_below i ps at h.2)
indices_below i [] (q ∷ at) h = absurd h
indices_below i (p ∷ ps) [] h = absurd h

-- stores

put_typed : (c : Context) (i : Interpretation) (m : Store) → IsTypedStore c i m → (x : ℕ) (V : Variable) (u : List ℕ) (v : ℕ) → c.variables x ≡ Some V → AreBelowParameters i V.indices u → v < size_of i V.sort → IsTypedStore c i (put m x u v)
unfolding put
put_typed c i m h x V u v e a l y W w r d k = go (y == x) refl (same_tuple w u) refl k
  where
    go : (b : Bool) → (y == x) ≡ b → (t : Bool) → same_tuple w u ≡ t → cond (b && t) (Some v) (m y w) ≡ Some r → AreBelowParameters i W.indices w × (r < size_of i W.sort)
    go true p true q k =
        let found : c.variables x ≡ Some W = subst (λ z. c.variables z ≡ Some W) (eqb-true y x p) d in
        let same : V ≡ W = cc in
        let value : v ≡ r = cc in
        (subst (AreBelowParameters i W.indices) (sym (same_tuple_exact w u q)) (subst (λ (Z : Variable). AreBelowParameters i Z.indices u) same a), subst (λ z. z < size_of i W.sort) value (subst (λ (Z : Variable). v < size_of i Z.sort) same l))
    go true p false q k = h y W w r d k
    go false p t q k = h y W w r d k

-- each binder that is given a value is given one of its sort
abbrev pub AreGiven : Interpretation → (ℕ → Sort) → Tree → List ℕ → Type 0
AreGiven i sort (Node (Binder x T) a b) (v ∷ vs) = (v < size_of i (sort T)) × AreGiven i sort b vs
AreGiven i sort _ _ = Unit {0}

none_given : (i : Interpretation) (sort : ℕ → Sort) (bs : Tree) → AreGiven i sort bs []
none_given i sort (Node (Binder x T) a b) = tt
none_given i sort _ = tt

message_given : (i : Interpretation) (bs : Tree) (vs : List ℕ) → fits i.type_size bs vs ≡ true → AreGiven i OfType bs vs
message_given i Empty [] h = tt
message_given i (Node (Binder x T) a b) (v ∷ vs) h = let p = and_parts (nat_lt v _) _ h in (ltb-true v _ p.0, message_given i b vs p.1)
message_given i _ _ h = absurd (both_ways _ refl h)

indices_given : (g : Setting) (bs : Tree) (vs : List ℕ) → AreIndices g bs vs → AreGiven g.interpretation BelowParameter bs vs
indices_given g Empty [] h = tt
indices_given g (Node (Binder x n) a b) (v ∷ vs) h = (h.0, indices_given g b vs h.1)
indices_given g _ _ h = absurd h

bound_typed : (c : Context) (i : Interpretation) (ps : Scope) (u : List ℕ) → AreBelowParameters i (parameters ps) u → (sort : ℕ → Sort) (bs : Tree) (vs : List ℕ) → AreVariables c ps sort bs → AreGiven i sort bs vs → (m : Store) → IsTypedStore c i m → IsTypedStore c i (bound_to m u bs vs)
unfolding bound_to
bound_typed c i ps u a sort (Node (Binder x T) b more) (v ∷ vs) k d m h =
    bound_typed c i ps u a sort more vs k.1 d.1 (put m x u v) (put_typed c i m h x _ u v k.0 a d.0)
bound_typed c i ps u a sort _ _ k d m h = h

-- the values that a construct binds

abbrev pub Bound : Interpretation → Tree → ℕ → List ℕ → Type 0
Bound i (Node (In x) a b) k vs = AreGiven i OfType (second a) vs
Bound i (Node Branch a b) k vs = AreGiven i BelowParameter a vs
Bound i (Node Cons a b) zero vs = Bound i a 0 vs
Bound i (Node Cons a b) (suc k) vs = Bound i b k vs
Bound i _ k vs = Unit {0}

none_bound : (i : Interpretation) (b : Tree) (k : ℕ) → Bound i b k []
none_bound i (Node (In x) a b) k = none_given i OfType (second a)
none_bound i (Node Branch a b) k = none_given i BelowParameter a
none_bound i (Node Cons a b) zero = none_bound i a 0
none_bound i (Node Cons a b) (suc k) = none_bound i b k
none_bound i _ k = tt

branch_bound : (i : Interpretation) (branches : Tree) → AreBranches branches → (k : ℕ) (branch : Tree) → branch_at branches k ≡ Some branch → (vs : List ℕ) → AreGiven i BelowParameter (first branch) vs → Bound i branches k vs
branch_bound i Empty w k branch e vs h = tt
branch_bound i (Node Cons (Node Branch a b) more) w zero branch e vs h = let same : branch ≡ Node Branch a b = cc in subst (λ z. AreGiven i BelowParameter (first z) vs) same h
branch_bound i (Node Cons (Node Branch a b) more) w (suc k) branch e vs h = branch_bound i more w k branch e vs h
branch_bound i _ w k branch e vs h = absurd w

chosen_among : (cs : List Candidate) (v : ℕ) (r : Candidate) → chosen cs v ≡ Some r → Has cs r
unfolding chosen
chosen_among [] v r e = cc
chosen_among (x ∷ cs) v r e = stands_has (x ∷ cs) _ r e

-- inputs

abbrev pub IsInput : Tree → Type 0
IsInput (Node (In x) a b) = Unit {0}
IsInput _ = ⊥

pub record IsTypedInput (c : Context) (i : Interpretation) (o : Input) : Type 0 where
  pub scope : Scope
  pub indices : AreIndicesOf i scope o.indices
  pub is_input : IsInput o.tree
  pub typed : IsTyped c scope o.tree

message_bound : (i : Interpretation) (o : Tree) → IsInput o → (vs : List ℕ) → fits i.type_size (second (first o)) vs ≡ true → Bound i o 0 vs
message_bound i (Node (In x) a b) w vs h = message_given i (second a) vs h
message_bound i _ w vs h = absurd w

-- what a run remembers: values of the sorts of variables, and of what the side assigned
pub record IsTypedMemory (c : Context) (i : Interpretation) (m : Memory) : Type 0 where
  pub store : IsTypedStore c i m.store
  pub arrays : AreTypedArrays c i m.arrays

pub record IsServedTyped (c : Context) (i : Interpretation) (r : Served) : Type 0 where
  pub memory : IsTypedMemory c i r.last.memory
  pub opened : AllByRecursion (IsTypedInput c i) r.opened

module _ (c : Context) (i : Interpretation) (side : Side) (w : IsModel c i) where
  abbrev g : Setting
  g = setting_with c.declarations i side

  inputs_typed : (b : Tree) (p : ℕ) (at : Indices) (ps : Scope) → AreIndicesOf i ps at → IsTyped c ps b → AllByRecursion (IsTypedInput c i) (inputs_of g b p at)
  unfolding inputs_of IsTyped
  inputs_typed Empty p at ps a k = tt
  inputs_typed (Node Par x y) p at ps a k = AllByRecursion_append (IsTypedInput c i) (inputs_of g x _ at) _ (inputs_typed x _ at ps a k.0) (inputs_typed y _ at ps a k.1)
  inputs_typed (Node (Repl j n) x y) p at ps a k =
      each_flat_map_in (IsTypedInput c i) _ (below (i.parameter_value n))
      (λ v h. inputs_typed y _ (at ++ (j, v) ∷ []) (ps ++ (j, n) ∷ []) (indices_push i ps at j n v a (below_has _ v h)) k)
  inputs_typed (Node (In ch) x y) p at ps a k = (record { scope = ps; indices = a; is_input = tt; typed = k }, tt)
  inputs_typed (Node h x y) p at ps a k = tt

  -- the service of an input

  module _ (t : Tape) (tape : IsTypedTape c i t) (keeps : KeepsSorts c i side t) where
    abbrev IsKept : Memory → Type 0
    IsKept m = IsTypedMemory c i m

    abbrev Serves : Tree → Type 0
    Serves b = (p k : ℕ) (vs : List ℕ) (s : Local) (ps : Scope) → AreIndicesOf i ps s.indices → IsTyped c ps b → Bound i b k vs → IsKept s.memory → IsServedTyped c i (serve g t b p k vs s)

    -- a store with further values of their sorts
    kept : (s : Local) (m : Store) → IsKept s.memory → IsTypedStore c i m → IsKept (with_store s m).memory
    kept s m h k = record { store = k; arrays = h.arrays }

    find_typed : (a b : Tree) (pa pb : ℕ) → Serves a → Serves b → AreBranches a → (s : Local) (ps : Scope) → AreIndicesOf i ps s.indices → IsTyped c ps a → IsTyped c ps b → IsKept s.memory → (o : Option Candidate) → ((r : Candidate) → o ≡ Some r → IsCandidateOf g s.indices s.memory.store a r)
        → IsServedTyped c i (after_turn (λ r. r) (serve g t a pa) (serve g t b pb) (after_find s o))
    find_typed a b pa pb ih_a ih_b bs s ps at ka kb h None r = ih_b pb 0 [] s ps at kb (none_bound i b 0) h
    find_typed a b pa pb ih_a ih_b bs s ps at ka kb h (Some x) r =
        let q = r x refl in
        ih_a pa x.branch x.tuple s ps at ka (branch_bound i a bs x.branch q.0 q.1 x.tuple (indices_given g (first q.0) x.tuple q.2.indices)) h

    serve_typed : (b : Tree) → Serves b
    unfolding serve step IsTyped
    serve_typed Empty p k vs s ps at d v h = record { memory = h; opened = tt }
    serve_typed (Node (In x) a b) p k vs s ps at d v h =
        serve_typed b _ 0 [] _ ps at d.1 (none_bound i b 0) (kept s _ h (bound_typed c i ps (tuple s.indices) (indices_below i ps s.indices at) OfType (second a) vs d.0 v s.memory.store h.store))
    serve_typed (Node (Event e) a b) p k vs s ps at d v h = serve_typed b _ 0 [] _ ps at d.1 (none_bound i b 0) (record { store = h.store; arrays = h.arrays })
    serve_typed (Node (New x T) a b) p k vs s ps at d v h =
        serve_typed b _ 0 [] _ ps at d.1 (none_bound i b 0) (kept s _ h (put_typed c i s.memory.store h.store x _ _ _ d.0 (indices_below i ps s.indices at) (tape x _ _ d.0)))
    serve_typed (Node (Let x T) a b) p k vs s ps at d v h =
        serve_typed b _ 0 [] _ ps at d.2 (none_bound i b 0)
        (kept s _ h (put_typed c i s.memory.store h.store x _ _ _ d.0 (indices_below i ps s.indices at) (typed_value c i side w ps s.indices s.memory.store at h.store a (OfType T) d.1)))
    serve_typed (Node (Key x) a b) p k vs s ps at d v h =
        serve_typed b _ 0 [] _ ps at d.1 (none_bound i b 0) (kept s _ h (put_typed c i s.memory.store h.store x _ _ _ d.0.1 (indices_below i ps s.indices at) (some_value c i w.satisfies d.0.0 (w.variables x _ d.0.1))))
    serve_typed (Node (Call x l) a b) p k vs s ps at d v h =
        let O = d.0.0 in
        let r = keeps s.memory.arrays (oracle_call g s l a) O h.arrays d.0.1 (typed_values c i side w ps s.indices s.memory.store at h.store (second a) O.arguments d.0.3) in
        serve_typed b _ 0 [] _ ps at d.2 (none_bound i b 0) (record { store = put_typed c i s.memory.store h.store x _ _ _ d.0.2 (indices_below i ps s.indices at) r.value; arrays = r.arrays })
    serve_typed (Node If a b) p k vs s ps at d v h = serve_typed b _ _ [] s ps at d.1 (none_bound i b _) h
    serve_typed (Node (Find l) a b) p k vs s ps at d v h =
        find_typed a b _ _ (serve_typed a) (serve_typed b) d.0 s ps at d.1 d.2 h (chosen (candidates g s.indices s.memory.store a) (t (Find_at l (tuple s.indices))))
        (λ r e. has_candidate g s.indices s.memory.store a r (chosen_among _ _ r e))
    serve_typed (Node Branch a b) p k vs s ps at d v h =
        serve_typed b _ 2 [] _ ps at d.3 (none_bound i b 2) (kept s _ h (bound_typed c i ps (tuple s.indices) (indices_below i ps s.indices at) BelowParameter a vs d.0 v s.memory.store h.store))
    serve_typed (Node Cons a b) p zero vs s ps at d v h = serve_typed a _ 0 vs s ps at d.0 v h
    serve_typed (Node Cons a b) p (suc k) vs s ps at d v h = serve_typed b _ k vs s ps at d.1 v h
    serve_typed (Node (Out x) a b) p k vs s ps at d v h = record { memory = h; opened = inputs_typed b _ s.indices ps at d.1 }
    serve_typed (Node o a b) p k vs s ps at d v h = record { memory = h; opened = tt }

    -- runs

    record IsTypedState (st : State) : Type 0 where
      memory : IsKept st.memory
      inputs : AllByRecursion (IsTypedInput c i) st.inputs

    called_typed : (st : State) (vs : List ℕ) → IsTypedState st → (o : Option Taken) → ((k : Taken) → o ≡ Some k → TakenEach (IsTypedInput c i) k) → ((k : Taken) → o ≡ Some k → fits i.type_size (message_binders k.input) vs ≡ true)
        → IsTypedState (called g t st vs o)
    called_typed st vs h None e f = record { memory = h.memory; inputs = h.inputs }
    called_typed st vs h (Some k) e f =
        let x = (e k refl).input in
        let r = serve_typed k.input.tree k.input.place 0 vs (record { indices = k.input.indices; memory = st.memory }) x.scope x.indices x.typed (message_bound i k.input.tree x.is_input vs (f k refl)) h.memory in
        record { memory = r.memory; inputs = AllByRecursion_append (IsTypedInput c i) k.others _ (e k refl).others r.opened }

    admitted_fits : (ch : ℕ) (u vs : List ℕ) (is : List Input) (k : Taken) → admitted g ch u vs is ≡ Some k → fits i.type_size (message_binders k.input) vs ≡ true
    admitted_fits ch u vs is k e = go (taken ch u is) e
      where
        go : (o : Option Taken) → if_fitting g vs o ≡ Some k → fits i.type_size (message_binders k.input) vs ≡ true
        go None e = cc
        go (Some r) e = fitting (fits i.type_size (message_binders r.input) vs) refl e
          where
            fitting : (b : Bool) → fits i.type_size (message_binders r.input) vs ≡ b → cond b (Some r) None ≡ Some k → fits i.type_size (message_binders k.input) vs ≡ true
            fitting true f e = let same : r ≡ k = cc in subst (λ (z : Taken). fits i.type_size (message_binders z.input) vs ≡ true) same f
            fitting false f e = cc

    tested_typed : (st : State) → IsTypedState st → (o : Option ℕ) → IsTypedState (tested_with st o)
    tested_typed st h None = record { memory = h.memory; inputs = h.inputs }
    tested_typed st h (Some v) = record { memory = h.memory; inputs = h.inputs }

    moved_typed : (m : Mode) (st : State) (a : Move) → IsTypedState st → IsTypedState (moved g m t st a)
    unfolding moved
    moved_typed m st (Calls ch u vs) h =
        called_typed st vs h (admitted g ch u vs st.inputs) (admitted_each (IsTypedInput c i) g ch u vs st.inputs h.inputs) (admitted_fits ch u vs st.inputs)
    moved_typed m st (Tests u) h = tested_typed st h (told m t st u)
    moved_typed m st (Guesses b) h = record { memory = h.memory; inputs = h.inputs }

pub run_typed : (c : Context) (i : Interpretation) (side : Side) → IsModel c i → (game : Tree) → IsTyped c [] game → (m : Mode) (a : Adversary) (t : Tape) → IsTypedTape c i t → KeepsSorts c i side t
    → IsTypedStore c i (run (setting_with c.declarations i side) m a game t).memory.store
unfolding run
run_typed c i side w game k m a t tape keeps =
    let g = setting_with c.declarations i side in
    (run_keeps (IsTypedState c i side w t tape keeps) g m (a.next (coins_on t 0 a.coins)) t (moved_typed c i side w t tape keeps m) a.moves (start g game)
    (record { memory = record { store = λ x V u v e d. cc; arrays = λ x key number O S v e d o. cc }; inputs = inputs_typed c i side w game 0 [] [] tt k })).memory.store

-- a game calls no oracle
pub games_keep : (c : Context) (i : Interpretation) (t : Tape) → HasNoOracles c → KeepsSorts c i no_side t
games_keep c i t n arrays call O w e h = let o = n call.number.site in absurd (cc)
