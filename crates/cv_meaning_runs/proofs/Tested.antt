-- Where a variable that can be tested is assigned, the cell of a test of it is in the list of cells.
use Rattle.std.proofs.Common.{◌≡◌, ℕ, zero, suc, Bool, true, false, cond, ◌&&◌, not, ◌==◌, is_some, List, [], ◌∷◌, ◌++◌, flat_map, map, inl, Option, Some, None, refl, sym, ap, subst, eqb-true, eq-eqb}
use Rattle.std.proofs.lemmas.Bool.{both_ways, and_parts}
use Rattle.std.specs.List.{AllByRecursion}
use Rattle.cv_syntax_trees.specs.declared.head.Head.{Head}
use Rattle.cv_syntax_trees.specs.declared.head.Head.TheVariants.{Par, Repl, In, Out, Event, New, Let, If, Find, Branch, Cons, Binder, Key, Call}
use Rattle.cv_syntax_trees.specs.Tree.{Tree, Empty, Node, second, first_place, second_place}
use Rattle.cv_meaning.specs.Tapes.{Cell, Tape, Find_at, Test_at, same_tuple}
use Rattle.cv_meaning.specs.Interpretation.{Setting}
use Rattle.cv_meaning.specs.Memory.{Store, nowhere, put, Indices, tuple, Local}
use Rattle.cv_meaning.specs.Binders.{bound_to}
use Rattle.cv_meaning.specs.Candidates.{Candidate, below, candidates, chosen}
use Rattle.cv_meaning.specs.Inputs.{Input, inputs_of}
use Rattle.cv_meaning.specs.Serving.{Served, Turn, Ends, First, Second, after_find, step, serve, after_turn, Visit}
use Rattle.cv_meaning.specs.Cells.{tuples_below, bounds_under, at_each_copy, if_tested, test_cells_at}
use Rattle.cv_meaning_laws.proofs.Counts.{same_tuple_exact}
use Rattle.cv_meaning_laws.proofs.Listed.{Has, has_left, has_right, has_flat_map, each_flat_map_in, Within, within_has, within_push, tuple_push}
use Rattle.cv_meaning.specs.Runs.{Mode, Random, Answer, Move, Calls, Tests, Guesses, State, Taken, admitted, called, told, tested_with, moved, begun, next_move, by_move, visits_of_move}
use Rattle.cv_meaning_laws.proofs.Moves.{TakenEach, admitted_each}
use Rattle.cv_meaning_runs.specs.Moments.{Moment, Visited, Tested, cells_of_test, moments_of_move, run_moments}
use Rattle.cv_meaning_runs.specs.Listed.{head_is_testable, is_testable}
use Rattle.cv_syntax_trees.proofs.lists.Each.{AllByRecursion_append}

abbrev pub Sized : Type 0
Sized = Cell × ℕ

-- the test cells of a variable below a node are in the list
module _ (g : Setting) (x : ℕ) (cs : List Sized) where
  abbrev pub Covers : List ℕ → Tree → Type 0
  Covers ns b = (d : Sized) → Has (at_each_copy g (test_cells_at g x) ns b) d → Has cs d

  covers_first : (ns : List ℕ) (h : Head) (a b : Tree) → Covers ns (Node h a b) → Covers (bounds_under g ns h) a
  unfolding at_each_copy
  covers_first ns h a b c d k = c d (has_right (flat_map (test_cells_at g x h) (tuples_below ns)) _ d (has_left _ (at_each_copy g (test_cells_at g x) (bounds_under g ns h) b) d k))

  covers_second : (ns : List ℕ) (h : Head) (a b : Tree) → Covers ns (Node h a b) → Covers (bounds_under g ns h) b
  unfolding at_each_copy
  covers_second ns h a b c d k = c d (has_right (flat_map (test_cells_at g x h) (tuples_below ns)) _ d (has_right (at_each_copy g (test_cells_at g x) (bounds_under g ns h) a) _ d k))

  covers_here : (ns : List ℕ) (h : Head) (a b : Tree) → Covers ns (Node h a b) → (u : List ℕ) → Within u ns → (d : Sized) → Has (test_cells_at g x h u) d → Has cs d
  unfolding at_each_copy
  covers_here ns h a b c u w d k = c d (has_left (flat_map (test_cells_at g x h) (tuples_below ns)) _ d (has_flat_map (test_cells_at g x h) (tuples_below ns) u d (within_has u ns w) k))

  -- where the variable is assigned, the cell of a test is in the list
  pub Assigned : Store → Type 0
  Assigned m = (u : List ℕ) → is_some (m x u) ≡ true → (n : ℕ) × Has cs (Test_at u, n)

  put_assigned : (m : Store) (y : ℕ) (w : List ℕ) (v n : ℕ) → Assigned m → (y ≡ x → Has cs (Test_at w, n)) → Assigned (put m y w v)
  unfolding put Assigned
  put_assigned m y w v n f h u e = go ((x == y) && same_tuple u w) refl e
    where
      go : (b : Bool) → ((x == y) && same_tuple u w) ≡ b → is_some (cond b (Some v) (m x u)) ≡ true → (n : ℕ) × Has cs (Test_at u, n)
      go true q e = let p = and_parts (x == y) _ q in (n, subst (λ z. Has cs (Test_at z, n)) (sym (same_tuple_exact u w p.1)) (h (sym (eqb-true x y p.0))))
      go false q e = f u e

  tested_here : (y : ℕ) (u : List ℕ) (n : ℕ) → y ≡ x → Has (if_tested (y == x) u n) (Test_at u, n)
  tested_here y u n e = go (y == x) (eq-eqb y x e)
    where
      go : (b : Bool) → b ≡ true → Has (if_tested b u n) (Test_at u, n)
      go true q = inl refl
      go false q = absurd (both_ways _ refl q)

  bound_assigned : (m : Store) (u ns : List ℕ) (bs : Tree) (vs : List ℕ) → Assigned m → Within u ns → Covers ns bs → Assigned (bound_to m u bs vs)
  unfolding bound_to
  bound_assigned m u ns (Node (Binder y T) a b) (v ∷ vs) f w c =
      bound_assigned (put m y u v) u ns b vs
      (put_assigned m y u v (g.interpretation.type_size T) f (λ e. covers_here ns (Binder y T) a b c u w (Test_at u, g.interpretation.type_size T) (tested_here y u (g.interpretation.type_size T) e)))
      w (covers_second ns (Binder y T) a b c)
  bound_assigned m u ns bs vs f w c = f

  pattern_assigned : (m : Store) (u ns : List ℕ) (c : ℕ) (a : Tree) (vs : List ℕ) → Assigned m → Within u ns → Covers ns a → head_is_testable x (In c) a ≡ true → Assigned (bound_to m u (second a) vs)
  unfolding bound_to
  pattern_assigned m u ns n Empty vs f w c e = f
  pattern_assigned m u ns n (Node (Repl i k) a b) vs f w c e = absurd (both_ways _ refl e)
  pattern_assigned m u ns n (Node h a b) vs f w c e = bound_assigned m u ns b vs f w (covers_second ns h a b c)

  pub record IsTested (i : Input) : Type 0 where
    pub bounds : List ℕ
    pub within : Within (tuple i.indices) bounds
    pub covers : Covers bounds i.tree
    pub testable : is_testable x i.tree ≡ true

  -- of the two children of a node
  first_testable : (h : Head) (a b : Tree) → is_testable x (Node h a b) ≡ true → is_testable x a ≡ true
  first_testable h a b e = (and_parts (is_testable x a) _ (and_parts (head_is_testable x h a) _ e).1).0

  second_testable : (h : Head) (a b : Tree) → is_testable x (Node h a b) ≡ true → is_testable x b ≡ true
  second_testable h a b e = (and_parts (is_testable x a) _ (and_parts (head_is_testable x h a) _ e).1).1

  pub inputs_tested : (b : Tree) (p : ℕ) (at : Indices) (ns : List ℕ) → Within (tuple at) ns → Covers ns b → is_testable x b ≡ true → AllByRecursion IsTested (inputs_of g b p at)
  unfolding inputs_of
  inputs_tested Empty p at ns w c e = tt
  inputs_tested (Node Par a b) p at ns w c e =
      AllByRecursion_append IsTested (inputs_of g a _ at) _ (inputs_tested a _ at ns w (covers_first ns Par a b c) (first_testable Par a b e)) (inputs_tested b _ at ns w (covers_second ns Par a b c) (second_testable Par a b e))
  inputs_tested (Node (Repl i n) a b) p at ns w c e =
      let k : ℕ = g.interpretation.parameter_value n in
      each_flat_map_in IsTested (λ v. inputs_of g b (second_place p (Repl i n) a) (at ++ (i, v) ∷ [])) (below k)
      (λ v q. inputs_tested b _ (at ++ (i, v) ∷ []) (ns ++ k ∷ []) (subst (λ u. Within u (ns ++ k ∷ [])) (sym (tuple_push at i v)) (within_push (tuple at) ns v k w q)) (covers_second ns (Repl i n) a b c) (second_testable (Repl i n) a b e))
  inputs_tested (Node (In d) a b) p at ns w c e = (record { bounds = ns; within = w; covers = c; testable = e }, tt)
  inputs_tested (Node h a b) p at ns w c e = tt

  IsNext : List ℕ → Turn → Type 0
  IsNext ns (Ends r) = AllByRecursion IsTested r.opened × Assigned r.last.memory.store
  IsNext ns (First k vs n) = Within (tuple n.indices) ns × Assigned n.memory.store
  IsNext ns (Second k vs n) = Within (tuple n.indices) ns × Assigned n.memory.store

  not_here : (m : Store) (y : ℕ) (u : List ℕ) (v : ℕ) → not (y == x) ≡ true → Assigned m → Assigned (put m y u v)
  not_here m y u v e f = put_assigned m y u v 0 f (λ q. absurd (both_ways _ (ap not (eq-eqb y x q)) e))

  step_tested : (t : Tape) (h : Head) (a b : Tree) (p k : ℕ) (vs : List ℕ) (s : Local) (ns : List ℕ) → Within (tuple s.indices) ns → Covers ns (Node h a b) → is_testable x (Node h a b) ≡ true → Assigned s.memory.store → IsNext (bounds_under g ns h) (step g t h a b p k vs s)
  unfolding step IsNext
  step_tested t (In d) a b p k vs s ns w c e f = (w, pattern_assigned s.memory.store (tuple s.indices) ns d a vs f w (covers_first ns (In d) a b c) (and_parts (head_is_testable x (In d) a) _ e).0)
  step_tested t (New y T) a b p k vs s ns w c e f = (w, put_assigned s.memory.store y (tuple s.indices) _ (g.interpretation.type_size T) f (λ q. covers_here ns (New y T) a b c (tuple s.indices) w (Test_at (tuple s.indices), g.interpretation.type_size T) (tested_here y (tuple s.indices) (g.interpretation.type_size T) q)))
  step_tested t (Let y T) a b p k vs s ns w c e f = (w, put_assigned s.memory.store y (tuple s.indices) _ (g.interpretation.type_size T) f (λ q. covers_here ns (Let y T) a b c (tuple s.indices) w (Test_at (tuple s.indices), g.interpretation.type_size T) (tested_here y (tuple s.indices) (g.interpretation.type_size T) q)))
  step_tested t (Event y) a b p k vs s ns w c e f = (w, f)
  step_tested t If a b p k vs s ns w c e f = (w, f)
  step_tested t (Find l) a b p k vs s ns w c e f = go (chosen (candidates g s.indices s.memory.store a) (t (Find_at l (tuple s.indices))))
    where
      go : (o : Option Candidate) → IsNext ns (after_find s o)
      go None = (w, f)
      go (Some d) = (w, f)
  step_tested t Branch a b p k vs s ns w c e f = (w, bound_assigned s.memory.store (tuple s.indices) ns a vs f w (covers_first ns Branch a b c))
  step_tested t (Key y) a b p k vs s ns w c e f = (w, not_here s.memory.store y (tuple s.indices) _ (and_parts (not (y == x)) _ e).0 f)
  step_tested t (Call y l) a b p k vs s ns w c e f = (w, not_here s.memory.store y (tuple s.indices) _ (and_parts (not (y == x)) _ e).0 f)
  step_tested t Cons a b p zero vs s ns w c e f = (w, f)
  step_tested t Cons a b p (suc k) vs s ns w c e f = (w, f)
  step_tested t (Out d) a b p k vs s ns w c e f = (inputs_tested b _ s.indices ns w (covers_second ns (Out d) a b c) (second_testable (Out d) a b e), f)
  step_tested t h a b p k vs s ns w c e f = (tt, f)

  record ServedTested (r : Served) : Type 0 where
    opened : AllByRecursion IsTested r.opened
    assigned : Assigned r.last.memory.store

  abbrev IsServedTested : Tape → Tree → ℕ → List ℕ → Type 0
  IsServedTested t b p ns = (k : ℕ) (vs : List ℕ) (s : Local) → Within (tuple s.indices) ns → Assigned s.memory.store → ServedTested (serve g t b p k vs s)

  serve_tested : (t : Tape) (b : Tree) (p : ℕ) (ns : List ℕ) → Covers ns b → is_testable x b ≡ true → IsServedTested t b p ns
  unfolding serve IsNext
  serve_tested t Empty p ns c e k vs s w f = record { opened = tt; assigned = f }
  serve_tested t (Node h a b) p ns c e k vs s w f =
      go (step g t h a b p k vs s) (step_tested t h a b p k vs s ns w c e f)
      (serve_tested t a (first_place p h) (bounds_under g ns h) (covers_first ns h a b c) (first_testable h a b e))
      (serve_tested t b (second_place p h a) (bounds_under g ns h) (covers_second ns h a b c) (second_testable h a b e))
    where
      go : (y : Turn) → IsNext (bounds_under g ns h) y → IsServedTested t a (first_place p h) (bounds_under g ns h) → IsServedTested t b (second_place p h a) (bounds_under g ns h)
          → ServedTested (after_turn (λ r. r) (serve g t a (first_place p h)) (serve g t b (second_place p h a)) y)
      go (Ends r) q k l = record { opened = q.0; assigned = q.1 }
      go (First j ws n) q k l = k j ws n q.0 q.1
      go (Second j ws n) q k l = l j ws n q.0 q.1

  -- runs

  pub record StateTested (st : State) : Type 0 where
    pub inputs : AllByRecursion IsTested st.inputs
    pub assigned : Assigned st.memory.store

  called_tested : (t : Tape) (st : State) (vs : List ℕ) → StateTested st → (o : Option Taken) → ((k : Taken) → o ≡ Some k → TakenEach IsTested k) → StateTested (called g t st vs o)
  called_tested t st vs f None h = record { inputs = f.inputs; assigned = f.assigned }
  called_tested t st vs f (Some k) h =
      let i = (h k refl).input in
      let r = serve_tested t k.input.tree k.input.place i.bounds i.covers i.testable 0 vs (begun st k.input) i.within f.assigned in
      record { inputs = AllByRecursion_append IsTested k.others _ (h k refl).others r.opened; assigned = r.assigned }

  moved_tested : (m : Mode) (t : Tape) (st : State) (a : Move) → StateTested st → StateTested (moved g m t st a)
  unfolding moved
  moved_tested m t st (Calls c u vs) f = called_tested t st vs f (admitted g c u vs st.inputs) (admitted_each IsTested g c u vs st.inputs f.inputs)
  moved_tested m t st (Tests u) f = go (told m t st u)
    where
      go : (o : Option ℕ) → StateTested (tested_with st o)
      go None = record { inputs = f.inputs; assigned = f.assigned }
      go (Some v) = record { inputs = f.inputs; assigned = f.assigned }
  moved_tested m t st (Guesses b) f = record { inputs = f.inputs; assigned = f.assigned }

  -- the cell of a test is in the list
  abbrev pub IsCellListed : Cell → Type 0
  IsCellListed c = (n : ℕ) × Has cs (c, n)

  abbrev pub AreTestsListed : Mode → Moment → Type 0
  AreTestsListed m (Visited v) = Unit {0}
  AreTestsListed m (Tested u st) = AllByRecursion IsCellListed (cells_of_test m st u)

  test_listed : (one : Bool) (st : State) (u : List ℕ) → Assigned st.memory.store → AllByRecursion IsCellListed (cells_of_test (Random one x) st u)
  unfolding Assigned
  test_listed one st u f = go (one && st.tested) (is_some (st.memory.store x u)) refl
    where
      go : (b r : Bool) → is_some (st.memory.store x u) ≡ r → AllByRecursion IsCellListed (cond b [] (cond r (Test_at u ∷ []) []))
      go true r e = tt
      go false false e = tt
      go false true e = (f u e, tt)

  move_listed : (one : Bool) (t : Tape) (st : State) (a : Move) → StateTested st → AllByRecursion (AreTestsListed (Random one x)) (moments_of_move g t st a)
  unfolding moments_of_move
  move_listed one t st (Calls c u vs) f = go (visits_of_move g t st (Calls c u vs))
    where
      go : (ws : List Visit) → AllByRecursion (AreTestsListed (Random one x)) (map Visited ws)
      go [] = tt
      go (w ∷ ws) = (tt, go ws)
  move_listed one t st (Tests u) f = (test_listed one st u f.assigned, tt)
  move_listed one t st (Guesses b) f = tt

  pub run_listed : (one : Bool) (next : List Answer → Option Move) (t : Tape) (n : ℕ) (st : State) → StateTested st → AllByRecursion (AreTestsListed (Random one x)) (run_moments g (Random one x) next t n st)
  unfolding run_moments
  run_listed one next t zero st f = tt
  run_listed one next t (suc n) st f = go (next_move next st) (λ a. run_listed one next t n (moved g (Random one x) t st a) (moved_tested (Random one x) t st a f))
    where
      go : (o : Option Move) → ((a : Move) → AllByRecursion (AreTestsListed (Random one x)) (run_moments g (Random one x) next t n (moved g (Random one x) t st a)))
          → AllByRecursion (AreTestsListed (Random one x)) (by_move [] (λ a. moments_of_move g t st a ++ run_moments g (Random one x) next t n (moved g (Random one x) t st a)) o)
      go None ih = tt
      go (Some a) ih = AllByRecursion_append (AreTestsListed (Random one x)) (moments_of_move g t st a) _ (move_listed one t st a f) (ih a)

pub nothing_assigned : (g : Setting) (x : ℕ) (cs : List Sized) → Assigned g x cs nowhere
unfolding Assigned
nothing_assigned g x cs u e = absurd (both_ways _ refl e)
