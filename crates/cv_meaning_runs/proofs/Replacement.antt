-- A subtree is replaced by one that serves alike: whole runs are alike.
use Rattle.std.proofs.Common.{◌≡◌, ℕ, zero, suc, max, ◌+◌, cond, ◌&&◌, is_some, List, [], ◌∷◌, ◌++◌, ◌⊎◌, inl, inr, Option, Some, None, refl, sym, ap, ap₂, subst, ◌∙◌, arith, flat_map}
use Rattle.std.proofs.Math.Path.{fun_ext}
use Rattle.std.specs.List.{AllByRecursion}
use Rattle.cv_syntax_trees.specs.declared.head.Head.{Head}
use Rattle.cv_syntax_trees.specs.declared.head.Head.TheVariants.{Par, Repl, In, Out, Event, New, Let, If, Find, Branch, Cons, Key, Call}
use Rattle.cv_syntax_trees.specs.Tree.{Tree, Empty, Node, first, second, size, first_place, second_place}
use Rattle.cv_meaning.specs.Tapes.{Tape, Cell, Find_at, Test_at}
use Rattle.cv_meaning.specs.Interpretation.{Setting}
use Rattle.cv_meaning.specs.Memory.{Memory, Store, Indices, tuple, Local}
use Rattle.cv_meaning.specs.Binders.{fits, with_bound, binder_count, widest_binder}
use Rattle.cv_meaning.specs.Candidates.{Candidate, below, tuples_up_to, candidate, candidates_at, most_indices, widest, candidates, chosen}
use Rattle.cv_meaning.specs.Inputs.{Input, inputs_of, message_binders}
use Rattle.cv_meaning.specs.Serving.{Served, Turn, Ends, First, Second, after_find, step, serve, after_turn, Visit, visits}
use Rattle.cv_meaning.specs.Runs.{Mode, Events, Real, Random, Adversary, State, told}
use Rattle.cv_meaning.specs.Experiments.{Experiment, mode_of, holds_on, run}
use Rattle.cv_meaning_runs.specs.Agreement.{AgreeAt}
use Rattle.cv_meaning_runs.specs.Simulation.{InOrder, AreServedAlike, AreAlike, IsSimulation}
use Rattle.cv_meaning_runs.specs.Replacement.{Part, Process, Branches, before_body, IsReplaced, here, in_continuation, in_parallel, in_list, in_find, in_branch, in_later_branch, AreLikeInputs, SameMemory, ServeAlike, IsLocalChange}
use Rattle.cv_meaning_runs.proofs.Simulation.{in_order_append, games_alike}
use Rattle.cv_meaning_runs.proofs.Ends.{experiments_alike, holds_alike}

pub agree_refl : (t : Tape) (cs : List Cell) → AgreeAt cs t t
agree_refl t [] = tt
agree_refl t (c ∷ cs) = (refl, agree_refl t cs)

pub in_order_flat : {A : Type 0} {B C : Type 0} (R : B → C → Type 0) (f : A → List B) (h : A → List C) → ((x : A) → InOrder R (f x) (h x)) → (xs : List A) → InOrder R (flat_map f xs) (flat_map h xs)
in_order_flat R f h k [] = tt
in_order_flat R f h k (x ∷ xs) = in_order_append R (f x) _ (h x) _ (k x) (in_order_flat R f h k xs)

-- the branches of the find offer the same candidates
record SameBranches (g : Setting) (a b : Tree) : Type 0 where
  candidates : (at : Indices) (m : Store) (u : List ℕ) (k : ℕ) → candidates_at g at m u k a ≡ candidates_at g at m u k b
  most : most_indices a ≡ most_indices b
  wide : widest g.interpretation.parameter_value a ≡ widest g.interpretation.parameter_value b

module _ (old new : Tree) (place : ℕ) where
  branches_same : (g : Setting) (p : ℕ) (a b : Tree) → IsReplaced old new place Branches p a b → SameBranches g a b
  unfolding candidates_at
  branches_same g p a b (in_branch x) = record { candidates = λ at m u k. refl; most = refl; wide = refl }
  branches_same g p a b (in_later_branch {a = d} {b = x} {c = y} z) =
      let r = branches_same g _ x y z in
      record {
        candidates = λ at m u k. ap (λ cs. candidate g at m u k d ++ cs) (r.candidates at m u (suc k));
        most = ap (max (binder_count (first d))) r.most;
        wide = ap (max (widest_binder g.interpretation.parameter_value (first d))) r.wide;
      }

  candidates_same : (g : Setting) (at : Indices) (m : Store) (p : ℕ) (a b : Tree) → IsReplaced old new place Branches p a b → candidates g at m a ≡ candidates g at m b
  unfolding candidates
  candidates_same g at m p a b x =
      let r = branches_same g p a b x in
      ap₂ (λ d n. flat_map (λ u. candidates_at g at m u 0 a) (tuples_up_to d n)) r.most r.wide
      ∙ ap (λ f. flat_map f (tuples_up_to (most_indices b) (widest g.interpretation.parameter_value b))) (fun_ext (λ u. r.candidates at m u 0))

  abbrev Like : Input → Input → Type 0
  Like = AreLikeInputs old new place

  -- places alone differ
  pub inputs_same : (g : Setting) (b : Tree) (p q : ℕ) (at : Indices) → InOrder Like (inputs_of g b p at) (inputs_of g b q at)
  unfolding inputs_of
  inputs_same g Empty p q at = tt
  inputs_same g (Node Par a b) p q at = in_order_append Like _ _ _ _ (inputs_same g a _ _ at) (inputs_same g b _ _ at)
  inputs_same g (Node (Repl i n) a b) p q at = in_order_flat Like _ _ (λ v. inputs_same g b _ _ (at ++ (i, v) ∷ [])) (below (g.interpretation.parameter_value n))
  inputs_same g (Node (In c) a b) p q at = (record { channel = refl; indices = refl; binders = refl; tree = inl refl }, tt)
  inputs_same g (Node h a b) p q at = tt

  data TurnAlike : Turn → Turn → Type 0 where
    ends : {r s : Served} → AreServedAlike SameMemory Like r s → TurnAlike (Ends r) (Ends s)
    goes_first : {k : ℕ} {vs : List ℕ} {s : Local} → TurnAlike (First k vs s) (First k vs s)
    goes_second : {k : ℕ} {vs : List ℕ} {s : Local} → TurnAlike (Second k vs s) (Second k vs s)

  find_alike : (s : Local) (o : Option Candidate) → TurnAlike (after_find s o) (after_find s o)
  find_alike s None = goes_second
  find_alike s (Some c) = goes_first

  -- a step depends on the continuation only where that is an input process
  step_alike : (g : Setting) (t : Tape) (h : Head) (a b c : Tree) (p q : ℕ) → ((at : Indices) → InOrder Like (inputs_of g b (second_place p h a) at) (inputs_of g c (second_place q h a) at)) → (k : ℕ) (vs : List ℕ) (s : Local) → TurnAlike (step g t h a b p k vs s) (step g t h a c q k vs s)
  unfolding step
  step_alike g t (In x) a b c p q e k vs s = goes_second
  step_alike g t (New x T) a b c p q e k vs s = goes_second
  step_alike g t (Let x T) a b c p q e k vs s = goes_second
  step_alike g t (Event x) a b c p q e k vs s = goes_second
  step_alike g t If a b c p q e k vs s = goes_second
  step_alike g t (Find l) a b c p q e k vs s = find_alike s (chosen (candidates g s.indices s.memory.store a) (t (Find_at l (tuple s.indices))))
  step_alike g t Branch a b c p q e k vs s = goes_second
  step_alike g t (Key x) a b c p q e k vs s = goes_second
  step_alike g t (Call x l) a b c p q e k vs s = goes_second
  step_alike g t Cons a b c p q e zero vs s = goes_first
  step_alike g t Cons a b c p q e (suc k) vs s = goes_second
  step_alike g t (Out x) a b c p q e k vs s = ends (record { reply = refl; memory = refl; opened = e s.indices })
  step_alike g t h a b c p q e k vs s = ends (record { reply = refl; memory = refl; opened = tt })

  module _ (V : Visit → Type 0) where
    turn_alike : (f h f' h' : ℕ → List ℕ → Local → Served) (v w : ℕ → List ℕ → Local → List Visit)
        → ((k : ℕ) (vs : List ℕ) (s : Local) → AllByRecursion V (v k vs s) → AreServedAlike SameMemory Like (f k vs s) (f' k vs s))
        → ((k : ℕ) (vs : List ℕ) (s : Local) → AllByRecursion V (w k vs s) → AreServedAlike SameMemory Like (h k vs s) (h' k vs s))
        → (x y : Turn) → TurnAlike x y → AllByRecursion V (after_turn (λ r. []) v w x) → AreServedAlike SameMemory Like (after_turn (λ r. r) f h x) (after_turn (λ r. r) f' h' y)
    turn_alike f h f' h' v w a b x y (ends s) e = s
    turn_alike f h f' h' v w a b x y (goes_first {k = k} {vs = vs} {s = s}) e = a k vs s e
    turn_alike f h f' h' v w a b x y (goes_second {k = k} {vs = vs} {s = s}) e = b k vs s e

    pub serve_same : (g : Setting) (t : Tape) (b : Tree) (p q k : ℕ) (vs : List ℕ) (s : Local) → AllByRecursion V (visits g t b p k vs s) → AreServedAlike SameMemory Like (serve g t b p k vs s) (serve g t b q k vs s)
    unfolding serve visits
    serve_same g t Empty p q k vs s e = record { reply = refl; memory = refl; opened = tt }
    serve_same g t (Node h a b) p q k vs s e =
        turn_alike _ _ _ _ _ _ (λ j ws n. serve_same g t a (first_place p h) (first_place q h) j ws n) (λ j ws n. serve_same g t b (second_place p h a) (second_place q h a) j ws n) _ _ (step_alike g t h a b b p q (inputs_same g b (second_place p h a) (second_place q h a)) k vs s) e.1

    module _ (g : Setting) (t : Tape) (l : ServeAlike V g t old new place) where
      inputs_alike : (p : ℕ) (b c : Tree) → IsReplaced old new place Process p b c → (at : Indices) → InOrder Like (inputs_of g b p at) (inputs_of g c p at)
      unfolding inputs_of
      inputs_alike p b c here at = l.opened at
      inputs_alike p b c (in_continuation {h = Par} {a = a} x) at = in_order_append Like _ _ _ _ (inputs_same g a _ _ at) (inputs_alike _ _ _ x at)
      inputs_alike p b c (in_continuation {h = Repl i n} x) at = in_order_flat Like _ _ (λ v. inputs_alike _ _ _ x (at ++ (i, v) ∷ [])) (below (g.interpretation.parameter_value n))
      inputs_alike p b c (in_continuation {h = In d} x) at = (record { channel = refl; indices = refl; binders = refl; tree = inr (refl, in_continuation x) }, tt)
      inputs_alike p b c (in_continuation {h = h} x) at = tt
      inputs_alike p b c (in_parallel {b = d} x) at = in_order_append Like _ _ _ _ (inputs_alike _ _ _ x at) (inputs_same g d _ _ at)
      inputs_alike p b c (in_list x) at = tt
      inputs_alike p b c (in_find x) at = tt

      find_replaced : (r : ℕ) (a c b : Tree) (l : ℕ) → IsReplaced old new place Branches r a c → (p k : ℕ) (vs : List ℕ) (s : Local) → TurnAlike (step g t (Find l) a b p k vs s) (step g t (Find l) c b p k vs s)
      unfolding step
      find_replaced r a c b l x p k vs s =
          let cell : ℕ = t (Find_at l (tuple s.indices)) in
          subst (λ cs. TurnAlike (after_find s (chosen (candidates g s.indices s.memory.store a) cell)) (after_find s (chosen cs cell))) (candidates_same g s.indices s.memory.store r a c x)
          (find_alike s (chosen (candidates g s.indices s.memory.store a) cell))

      serve_alike : (part : Part) (p : ℕ) (b c : Tree) → IsReplaced old new place part p b c → (k : ℕ) (vs : List ℕ) (s : Local) → AllByRecursion V (visits g t b p k vs s) → AreServedAlike SameMemory Like (serve g t b p k vs s) (serve g t c p k vs s)
      unfolding serve visits step
      serve_alike part p b c here k vs s e = l.served k vs s e
      serve_alike part p b c (in_continuation {h = h} {a = a} {b = x} {c = y} r) k vs s e =
          turn_alike _ _ _ _ _ _ (serve_same g t a (first_place p h) (first_place p h)) (serve_alike Process (second_place p h a) x y r) _ _ (step_alike g t h a x y p p (inputs_alike (second_place p h a) x y r) k vs s) e.1
      serve_alike part p b c (in_parallel r) k vs s e = record { reply = refl; memory = refl; opened = tt }
      serve_alike part p b c (in_list {a = x} {c = y} r) zero vs s e = serve_alike Process (first_place p Cons) x y r 0 vs s e.1
      serve_alike part p b c (in_list {b = d} r) (suc k) vs s e = serve_same g t d _ _ k vs s e.1
      serve_alike part p b c (in_find {l = n} {a = x} {b = d} {c = y} r) k vs s e =
          turn_alike _ _ _ _ _ _ (serve_alike Branches (first_place p (Find n)) x y r) (serve_same g t d (second_place p (Find n) x) (second_place p (Find n) y)) _ _ (find_replaced (first_place p (Find n)) x y d n r p k vs s) e.1
      serve_alike part p b c (in_branch {binders = bs} {defined = d} {condition = m} {b = x} {c = y} r) zero vs s e =
          let q : p + 0 + 1 + size bs + 0 + size d + 0 + size m ≡ p + before_body bs d m = omega arith in
          let w : Local = with_bound s bs vs in
          subst (λ n. AllByRecursion V (visits g t x n 0 [] w) → AreServedAlike SameMemory Like (serve g t x n 0 [] w) (serve g t y n 0 [] w)) (sym q) (serve_alike Process (p + before_body bs d m) x y r 0 [] w) e.1.1.1.1
      serve_alike part p b c (in_branch {more = d} r) (suc k) vs s e = serve_same g t d _ _ k vs s e.1
      serve_alike part p b c (in_later_branch {a = d} r) zero vs s e = serve_same g t d _ _ 0 vs s e.1
      serve_alike part p b c (in_later_branch {a = d} {b = x} {c = y} r) (suc k) vs s e = serve_alike Branches (second_place p Cons d) x y r k vs s e.1

      -- so inputs that are alike are served alike

      same_messages : (size : ℕ → ℕ) (i j : Input) → Like i j → (vs : List ℕ) → fits size (message_binders i) vs ≡ fits size (message_binders j) vs
      same_messages size i j r vs = ap (λ b. fits size (second b) vs) r.binders

      told_alike : (m : Mode) (x y : State) → AreAlike SameMemory Like x y → (w : List ℕ) → told m t x w ≡ told m t y w
      told_alike Events x y s w = refl
      told_alike (Real one n) x y s w = ap₂ (λ b (r : Memory). cond (one && b) None (r.store n w)) s.tested s.memory
      told_alike (Random one n) x y s w = ap₂ (λ b (r : Memory). cond (one && b) None (cond (is_some (r.store n w)) (Some (t (Test_at w))) None)) s.tested s.memory

      input_alike : (x y : State) → x.memory ≡ y.memory → (i j : Input) → Like i j → (vs : List ℕ) → AllByRecursion V (visits g t i.tree i.place 0 vs (record { indices = i.indices; memory = x.memory }))
          → AreServedAlike SameMemory Like (serve g t i.tree i.place 0 vs (record { indices = i.indices; memory = x.memory })) (serve g t j.tree j.place 0 vs (record { indices = j.indices; memory = y.memory }))
      input_alike x y e i j r vs w =
          subst (λ s. AreServedAlike SameMemory Like (serve g t i.tree i.place 0 vs (record { indices = i.indices; memory = x.memory })) (serve g t j.tree j.place 0 vs s))
          (λ d. record { indices = r.indices d; memory = e d })
          (go r.tree)
        where
          s : Local
          s = record { indices = i.indices; memory = x.memory }

          go : (i.tree ≡ j.tree) ⊎ ((i.place ≡ j.place) × IsReplaced old new place Process i.place i.tree j.tree) → AreServedAlike SameMemory Like (serve g t i.tree i.place 0 vs s) (serve g t j.tree j.place 0 vs s)
          go (inl q) = subst (λ b. AreServedAlike SameMemory Like (serve g t i.tree i.place 0 vs s) (serve g t b j.place 0 vs s)) q (serve_same g t i.tree i.place j.place 0 vs s w)
          go (inr q) = subst (λ n. AreServedAlike SameMemory Like (serve g t i.tree i.place 0 vs s) (serve g t j.tree n 0 vs s)) q.0 (serve_alike Process i.place i.tree j.tree q.1 0 vs s w)

      simulation : (m : Mode) → IsSimulation SameMemory Like V g g m m t t
      simulation m = record {
        channel = λ i j r. r.channel;
        tuple = λ i j r. ap tuple r.indices;
        message = same_messages g.interpretation.type_size;
        told = told_alike m;
        served = λ x y s i j r vs f w. input_alike x y s.memory i j r vs w;
      }

pub replaced_alike : (V : Visit → Type 0) (a : Adversary) (g : Setting) (m : Mode) (old new : Tree) (place : ℕ) (game next : Tree) (t : Tape) → IsLocalChange V a g m old new place game next t → AreAlike SameMemory (AreLikeInputs old new place) (run g m a game t) (run g m a next t)
replaced_alike V a g m old new place game next t l = games_alike SameMemory (AreLikeInputs old new place) V a g g m m game next t t (record {
  steps = simulation old new place V g t l.alike m;
  memory = refl;
  begun = inputs_alike old new place V g t l.alike 0 game next l.replaced [];
  visited = l.visited;
  coins = agree_refl t _;
})

same_events : (x y : Memory) → SameMemory x y → x.events ≡ y.events
same_events x y e = ap (λ (r : Memory). r.events) e

pub replaced_holds : (V : Visit → Type 0) (x : Experiment) (a : Adversary) (g : Setting) (old new : Tree) (place : ℕ) (game next : Tree) (t : Tape) → IsLocalChange V a g (mode_of x) old new place game next t → holds_on g x a game t ≡ holds_on g x a next t
replaced_holds V x a g old new place game next t l =
    let like : Input → Input → Type 0 = AreLikeInputs old new place in
    holds_alike SameMemory like g g x x a game next t t (experiments_alike SameMemory like same_events g g.side x) (replaced_alike V a g (mode_of x) old new place game next t l)
