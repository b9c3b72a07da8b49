-- A game goes together, construct by construct, with the one with other terms, and with another `else` of each `find` that takes a branch
-- whenever it is visited.
use Rattle.std.proofs.Common.{◌≡◌, ℕ, zero, suc, ◌+◌, true, false, cond, ◌&&◌, List, [], ◌∷◌, ◌++◌, Option, Some, None, is_some, refl, sym, ap, ap₂, subst, arith}
use Rattle.std.proofs.lemmas.Bool.{both_ways}
use Rattle.std.specs.List.{AllByRecursion}
use Rattle.cv_syntax_trees.specs.declared.head.Head.{Head}
use Rattle.cv_syntax_trees.specs.declared.head.Head.TheVariants.{Par, Repl, In, Out, Event, New, Let, If, Find, Branch, Cons, Key, Call}
use Rattle.cv_syntax_trees.specs.Tree.{Tree, Empty, Node, first_place, second_place}
use Rattle.cv_meaning.specs.Tapes.{Tape, Test_at, Find_at}
use Rattle.cv_meaning.specs.Interpretation.{Setting}
use Rattle.cv_meaning.specs.Memory.{Memory, Indices, Local, tuple, with_value, with_event}
use Rattle.cv_meaning.specs.Binders.{fits}
use Rattle.cv_meaning.specs.Candidates.{Candidate, below, candidates, chosen}
use Rattle.cv_meaning.specs.Inputs.{Input, inputs_of}
use Rattle.cv_meaning.specs.Serving.{Turn, First, Second, Sent, Visit, ended, Yielded, after_find, step, visits}
use Rattle.cv_meaning.specs.Runs.{Mode, Events, Real, Random, Adversary, State, told}
use Rattle.cv_meaning.specs.Experiments.{Experiment, mode_of, holds_on, run, visits_of_run}
use Rattle.cv_meaning_runs.specs.Simulation.{InOrder, AreAlike, IsGameSimulation}
use Rattle.cv_meaning_runs.specs.Replacement.{Process, Branches, SameMemory, before_body}
use Rattle.cv_meaning_runs.proofs.Simulation.{in_order_append, games_alike}
use Rattle.cv_meaning_runs.proofs.Ends.{experiments_alike, holds_alike}
use Rattle.cv_meaning_chances.specs.alignment.Points.{Point, turn_of}
use Rattle.cv_meaning_chances.specs.alignment.Alignment.{GoesOn, both_end, both_first, both_second, IsAligned, AreBegun}
use Rattle.cv_meaning_chances.proofs.alignment.Aligned.{simulates}
use Rattle.cv_meaning_chances.specs.rewording.Rewording.{SaysTheSame, has_terms}
use Rattle.cv_meaning_runs.proofs.Replacement.{agree_refl, in_order_flat}
use Rattle.cv_rule_pick_laws.specs.Settling.{IsSettled, same, kept, reworded, in_parallel, in_list, in_find, decided, in_branch, in_later_branch, AreLikeInputs}

module _ (g : Setting) (V : Visit → Type 0) where
  abbrev Like : Input → Input → Type 0
  Like = AreLikeInputs g V

  inputs_same : (b : Tree) (p q : ℕ) (at : Indices) → InOrder Like (inputs_of g b p at) (inputs_of g b q at)
  unfolding inputs_of
  inputs_same Empty p q at = tt
  inputs_same (Node Par a b) p q at = in_order_append Like _ _ _ _ (inputs_same a _ _ at) (inputs_same b _ _ at)
  inputs_same (Node (Repl i n) a b) p q at = in_order_flat Like _ _ (λ v. inputs_same b _ _ (at ++ (i, v) ∷ [])) (below (g.interpretation.parameter_value n))
  inputs_same (Node (In c) a b) p q at = (record { channel = refl; indices = refl; binders = refl; settled = same }, tt)
  inputs_same (Node h a b) p q at = tt

  no_input : (h : Head) (a b c d : Tree) (p q : ℕ) (at : Indices) → has_terms h ≡ true → InOrder Like (inputs_of g (Node h a b) p at) (inputs_of g (Node h c d) q at)
  unfolding inputs_of
  no_input (Let x T) a b c d p q at e = tt
  no_input (Event x) a b c d p q at e = tt
  no_input If a b c d p q at e = tt
  no_input (Out x) a b c d p q at e = tt
  no_input h a b c d p q at e = absurd (both_ways false refl e)

  inputs_alike : (b c : Tree) (p q : ℕ) (at : Indices) → IsSettled g V Process p b c → InOrder Like (inputs_of g b p at) (inputs_of g c q at)
  unfolding inputs_of
  inputs_alike b c p q at same = inputs_same b p q at
  inputs_alike b c p q at (kept {h = Par} {a = a} {b = x} {c = y} z) = in_order_append Like _ _ _ _ (inputs_same a _ _ at) (inputs_alike x y _ _ at z)
  inputs_alike b c p q at (kept {h = Repl i n} {b = x} {c = y} z) = in_order_flat Like _ _ (λ v. inputs_alike x y _ _ (at ++ (i, v) ∷ []) z) (below (g.interpretation.parameter_value n))
  inputs_alike b c p q at (kept {h = In d} z) = (record { channel = refl; indices = refl; binders = refl; settled = kept z }, tt)
  inputs_alike b c p q at (kept {h = h} z) = tt
  inputs_alike b c p q at (reworded {h = h} {a = a} {b = x} {c = d} {d = y} e f z) = no_input h a x d y p q at e
  inputs_alike b c p q at (in_parallel {a = a} {b = x} {c = d} {d = y} w z) = in_order_append Like _ _ _ _ (inputs_alike a d _ _ at w) (inputs_alike x y _ _ at z)
  inputs_alike b c p q at (in_list w z) = tt
  inputs_alike b c p q at (in_find f w z) = tt
  inputs_alike b c p q at (decided f k z) = tt

  -- the two services stand in a process, in a list of branches, or before a branch's body
  data Together (k p : ℕ) : Tree → Tree → Type 0 where
    process : {b c : Tree} → IsSettled g V Process p b c → Together k p b c
    branches : {b c : Tree} → IsSettled g V Branches p b c → Together k p b c
    branch : {q : ℕ} {us cells c b list d e : Tree} → q ≡ second_place (second_place (second_place p Branch us) Cons cells) Cons c → IsSettled g V Process q b e
        → Together k p (Node Branch us (Node Cons cells (Node Cons c b))) (Node Branch us (Node Cons list (Node Cons d e)))
    guards : {q : ℕ} {cells c b list d e : Tree} → k ≡ 2 → q ≡ second_place (second_place p Cons cells) Cons c → IsSettled g V Process q b e
        → Together k p (Node Cons cells (Node Cons c b)) (Node Cons list (Node Cons d e))
    guarded : {q : ℕ} {c b d e : Tree} → k ≡ 1 → q ≡ second_place p Cons c → IsSettled g V Process q b e → Together k p (Node Cons c b) (Node Cons d e)

  record GoTogether (p q : Point) (r s : Local) : Type 0 where
    together : Together p.number p.place p.tree q.tree
    number : p.number ≡ q.number
    bound : p.bound ≡ q.bound
    local : r ≡ s

  module _ (t : Tape) where
    abbrev Go : Tree → Tree → ℕ → ℕ → ℕ → List ℕ → Local → Turn → Turn → Type 0
    Go b c p q k vs r x y = GoesOn SameMemory Like GoTogether (record { tree = b; place = p; number = k; bound = vs }) (record { tree = c; place = q; number = k; bound = vs }) r x y r

    module _ (h : Head) (a b c d : Tree) (p q k : ℕ) (vs : List ℕ) (r : Local) where
      abbrev GoBoth : Turn → Turn → Type 0
      GoBoth x y = GoesOn SameMemory Like GoTogether (record { tree = Node h a b; place = p; number = k; bound = vs }) (record { tree = Node h c d; place = q; number = k; bound = vs }) r x y r

      seconds : (i j : ℕ) (ws : List ℕ) (m n : Local) → Together i (second_place p h a) b d → i ≡ j → m ≡ n → GoBoth (Second i ws m) (Second j ws n)
      seconds i j ws m n z e f = both_second (record { together = z; number = e; bound = refl; local = f })

      firsts : (i : ℕ) (ws : List ℕ) (n : Local) → Together i (first_place p h) a c → GoBoth (First i ws n) (First i ws n)
      firsts i ws n z = both_first (record { together = z; number = refl; bound = refl; local = refl })

      yields : GoBoth (ended Yielded [] r) (ended Yielded [] r)
      yields = both_end (record { reply = refl; memory = refl; opened = tt })

    list_goes : (a b c d : Tree) (p q k : ℕ) (vs : List ℕ) (r : Local) → ((j : ℕ) → Together j (first_place p Cons) a c) → ((j : ℕ) → Together j (second_place p Cons a) b d)
        → Go (Node Cons a b) (Node Cons c d) p q k vs r (step g t Cons a b p k vs r) (step g t Cons c d q k vs r)
    unfolding step
    list_goes a b c d p q zero vs r y z = firsts Cons a b c d p q 0 vs r 0 vs r (y 0)
    list_goes a b c d p q (suc k) vs r y z = seconds Cons a b c d p q (suc k) vs r k k vs r r (z k) refl refl

    find_both : (l : ℕ) (a b c d : Tree) (p q k : ℕ) (vs : List ℕ) (r : Local) → ((j : ℕ) → Together j (first_place p (Find l)) a c) → ((j : ℕ) → Together j (second_place p (Find l) a) b d) → (o : Option Candidate)
        → Go (Node (Find l) a b) (Node (Find l) c d) p q k vs r (after_find r o) (after_find r o)
    find_both l a b c d p q k vs r y z None = seconds (Find l) a b c d p q k vs r 0 0 [] r r (z 0) refl refl
    find_both l a b c d p q k vs r y z (Some o) = firsts (Find l) a b c d p q k vs r o.branch o.tuple r (y o.branch)

    find_goes : (l : ℕ) (a b c d : Tree) (p q k : ℕ) (vs : List ℕ) (r : Local) → candidates g r.indices r.memory.store a ≡ candidates g r.indices r.memory.store c → ((j : ℕ) → Together j (first_place p (Find l)) a c) → ((j : ℕ) → Together j (second_place p (Find l) a) b d)
        → Go (Node (Find l) a b) (Node (Find l) c d) p q k vs r (step g t (Find l) a b p k vs r) (step g t (Find l) c d q k vs r)
    unfolding step
    find_goes l a b c d p q k vs r e y z =
        let cell : ℕ = t (Find_at l (tuple r.indices)) in
        subst (λ cs. Go (Node (Find l) a b) (Node (Find l) c d) p q k vs r (after_find r (chosen (candidates g r.indices r.memory.store a) cell)) (after_find r (chosen cs cell))) e
        (find_both l a b c d p q k vs r y z (chosen (candidates g r.indices r.memory.store a) cell))

    -- a `find` that takes a branch
    find_takes : (l : ℕ) (a b c d : Tree) (p q k : ℕ) (vs : List ℕ) (r : Local) → ((j : ℕ) → Together j (first_place p (Find l)) a c) → (o : Option Candidate) → is_some o ≡ true
        → Go (Node (Find l) a b) (Node (Find l) c d) p q k vs r (after_find r o) (after_find r o)
    find_takes l a b c d p q k vs r y None e = absurd (both_ways false refl e)
    find_takes l a b c d p q k vs r y (Some o) e = firsts (Find l) a b c d p q k vs r o.branch o.tuple r (y o.branch)

    decided_goes : (l : ℕ) (a b c d : Tree) (p q k : ℕ) (vs : List ℕ) (r : Local) → candidates g r.indices r.memory.store a ≡ candidates g r.indices r.memory.store c
        → ((v : ℕ) → is_some (chosen (candidates g r.indices r.memory.store a) v) ≡ true) → ((j : ℕ) → Together j (first_place p (Find l)) a c)
        → Go (Node (Find l) a b) (Node (Find l) c d) p q k vs r (step g t (Find l) a b p k vs r) (step g t (Find l) c d q k vs r)
    unfolding step
    decided_goes l a b c d p q k vs r e some y =
        let cell : ℕ = t (Find_at l (tuple r.indices)) in
        subst (λ cs. Go (Node (Find l) a b) (Node (Find l) c d) p q k vs r (after_find r (chosen (candidates g r.indices r.memory.store a) cell)) (after_find r (chosen cs cell))) e
        (find_takes l a b c d p q k vs r y (chosen (candidates g r.indices r.memory.store a) cell) (some cell))

    -- a construct with the same first child
    kept_goes : (h : Head) (a b d : Tree) (p q k : ℕ) (vs : List ℕ) (r : Local) → IsSettled g V Process (second_place p h a) b d → Go (Node h a b) (Node h a d) p q k vs r (step g t h a b p k vs r) (step g t h a d q k vs r)
    unfolding step
    kept_goes (In x) a b d p q k vs r z = seconds (In x) a b a d p q k vs r 0 0 [] _ _ (process z) refl refl
    kept_goes (New x T) a b d p q k vs r z = seconds (New x T) a b a d p q k vs r 0 0 [] _ _ (process z) refl refl
    kept_goes (Let x T) a b d p q k vs r z = seconds (Let x T) a b a d p q k vs r 0 0 [] _ _ (process z) refl refl
    kept_goes (Event x) a b d p q k vs r z = seconds (Event x) a b a d p q k vs r 0 0 [] _ _ (process z) refl refl
    kept_goes If a b d p q k vs r z = seconds If a b a d p q k vs r _ _ [] r r (process z) refl refl
    kept_goes (Find l) a b d p q k vs r z = find_goes l a b a d p q k vs r refl (λ j. process same) (λ j. process z)
    kept_goes Branch a b d p q k vs r z = seconds Branch a b a d p q k vs r 2 2 [] _ _ (process z) refl refl
    kept_goes (Key x) a b d p q k vs r z = seconds (Key x) a b a d p q k vs r 0 0 [] _ _ (process z) refl refl
    kept_goes (Call x l) a b d p q k vs r z = seconds (Call x l) a b a d p q k vs r 0 0 [] _ _ (process z) refl refl
    kept_goes Cons a b d p q k vs r z = list_goes a b a d p q k vs r (λ j. process same) (λ j. process z)
    kept_goes (Out x) a b d p q k vs r z = both_end (record { reply = refl; memory = refl; opened = inputs_alike b d _ _ r.indices z })
    kept_goes h a b d p q k vs r z = yields h a b a d p q k vs r

    -- a construct that says the same in other words
    terms_goes : (h : Head) (a b c d : Tree) (p q k : ℕ) (vs : List ℕ) (r : Local) → has_terms h ≡ true → SaysTheSame g h a c r → IsSettled g V Process (second_place p h a) b d
        → Go (Node h a b) (Node h c d) p q k vs r (step g t h a b p k vs r) (step g t h c d q k vs r)
    unfolding step
    terms_goes (Let x T) a b c d p q k vs r f e z = seconds (Let x T) a b c d p q k vs r 0 0 [] _ _ (process z) refl (ap (with_value r x) e)
    terms_goes (Event x) a b c d p q k vs r f e z = seconds (Event x) a b c d p q k vs r 0 0 [] _ _ (process z) refl (ap (with_event r x) e)
    terms_goes If a b c d p q k vs r f e z = seconds If a b c d p q k vs r _ _ [] r r (process z) (ap (λ v. cond v 0 1) e) refl
    terms_goes (Out x) a b c d p q k vs r f e z = both_end (record { reply = λ i. Sent x (tuple r.indices) (e i); memory = refl; opened = inputs_alike b d _ _ r.indices z })
    terms_goes h a b c d p q k vs r f e z = absurd (both_ways false refl f)

    branch_goes : (us b d : Tree) (p q k : ℕ) (vs : List ℕ) (r : Local) → Together 2 (second_place p Branch us) b d → Go (Node Branch us b) (Node Branch us d) p q k vs r (step g t Branch us b p k vs r) (step g t Branch us d q k vs r)
    unfolding step
    branch_goes us b d p q k vs r z = seconds Branch us b us d p q k vs r 2 2 [] _ _ z refl refl

    later_goes : (j : ℕ) (a b c d : Tree) (p q k : ℕ) (vs : List ℕ) (r : Local) → k ≡ suc j → Together j (second_place p Cons a) b d → Go (Node Cons a b) (Node Cons c d) p q k vs r (step g t Cons a b p k vs r) (step g t Cons c d q k vs r)
    unfolding step
    later_goes j a b c d p q zero vs r e z = absurd (cc)
    later_goes j a b c d p q (suc k) vs r e z = let f : k ≡ j = cc in seconds Cons a b c d p q (suc k) vs r k k vs r r (subst (λ i. Together i (second_place p Cons a) b d) (sym f) z) refl refl

    branch_place : (p : ℕ) (us cells c : Tree) → p + before_body us cells c ≡ second_place (second_place (second_place (first_place p Cons) Branch us) Cons cells) Cons c
    branch_place p us cells c = omega arith

    goes : (b c : Tree) (p q k : ℕ) (vs : List ℕ) (r : Local) → Together k p b c → AllByRecursion V (visits g t b p k vs r) → Go b c p q k vs r (turn_of g t b p k vs r) (turn_of g t c q k vs r)
    unfolding visits step
    goes Empty c p q k vs r (process same) w = both_end (record { reply = refl; memory = refl; opened = tt })
    goes (Node h a b) c p q k vs r (process same) w = kept_goes h a b b p q k vs r same
    goes b c p q k vs r (process (kept {h = h} {a = a} {b = x} {c = y} z)) w = kept_goes h a x y p q k vs r z
    goes b c p q k vs r (process (reworded {h = h} {a = a} {b = x} {c = d} {d = y} e f z)) w = terms_goes h a x d y p q k vs r e (f r w.0) z
    goes b c p q k vs r (process (in_parallel {a = a} {b = x} {c = d} {d = y} u z)) w = yields Par a x d y p q k vs r
    goes b c p q k vs r (process (in_list {a = a} {b = x} {c = d} {d = y} u z)) w = list_goes a x d y p q k vs r (λ n. process u) (λ n. process z)
    goes b c p q k vs r (process (in_find {l = l} {a = a} {b = x} {c = d} {d = y} f u z)) w = find_goes l a x d y p q k vs r (f r w.0) (λ n. branches u) (λ n. process z)
    goes b c p q k vs r (process (decided {l = l} {a = a} {b = x} {c = d} {d = y} f some u)) w = decided_goes l a x d y p q k vs r (f r w.0) (some r w.0) (λ n. branches u)
    goes Empty c p q k vs r (branches same) w = both_end (record { reply = refl; memory = refl; opened = tt })
    goes (Node h a b) c p q k vs r (branches same) w = kept_goes h a b b p q k vs r same
    goes b c p q k vs r (branches (in_branch {binders = us} {cells = cells} {c = x} {b = y} {list = list} {d = d} {e = e} {more = more} {rest = rest} u z)) w =
        list_goes (Node Branch us (Node Cons cells (Node Cons x y))) more (Node Branch us (Node Cons list (Node Cons d e))) rest p q k vs r (λ n. branch (branch_place p us cells x) u) (λ n. branches z)
    goes b c p q k vs r (branches (in_later_branch {a = a} {b = x} {c = y} z)) w = list_goes a x a y p q k vs r (λ n. process same) (λ n. branches z)
    goes b c p q k vs r (branch {us = us} {cells = cells} {c = x} {b = y} {list = list} {d = d} {e = e} i z) w = branch_goes us (Node Cons cells (Node Cons x y)) (Node Cons list (Node Cons d e)) p q k vs r (guards refl i z)
    goes b c p q k vs r (guards {cells = cells} {c = x} {b = y} {list = list} {d = d} {e = e} i j z) w = later_goes 1 cells (Node Cons x y) list (Node Cons d e) p q k vs r i (guarded refl j z)
    goes b c p q k vs r (guarded {c = x} {b = y} {d = d} {e = e} i j z) w = later_goes 0 x y d e p q k vs r i (process (subst (λ n. IsSettled g V Process n y e) j z))

    aligned : IsAligned SameMemory Like GoTogether V g g t t
    aligned p q r s l w =
        subst (λ (z : Local). GoesOn SameMemory Like GoTogether p q r (turn_of g t p.tree p.place p.number p.bound r) (turn_of g t q.tree q.place q.number q.bound z) z) l.local
        (subst (λ (j : ℕ × List ℕ). GoesOn SameMemory Like GoTogether p (record { tree = q.tree; place = q.place; number = j.0; bound = j.1 }) r (turn_of g t p.tree p.place p.number p.bound r) (turn_of g t q.tree q.place j.0 j.1 r) r) (λ i. (l.number i, l.bound i))
        (goes p.tree q.tree p.place q.place p.number p.bound r l.together w))

    told_alike : (m : Mode) (x y : State) → AreAlike SameMemory Like x y → (w : List ℕ) → told m t x w ≡ told m t y w
    told_alike Events x y s w = refl
    told_alike (Real one n) x y s w = ap₂ (λ b (r : Memory). cond (one && b) None (r.store n w)) s.tested s.memory
    told_alike (Random one n) x y s w = ap₂ (λ b (r : Memory). cond (one && b) None (cond (is_some (r.store n w)) (Some (t (Test_at w))) None)) s.tested s.memory

    begun_alike : (m : Mode) → AreBegun SameMemory Like GoTogether g g m m t t
    begun_alike m = record {
      channel = λ i j l. l.channel;
      tuple = λ i j l. ap tuple l.indices;
      message = λ i j l vs. ap (λ b. fits g.interpretation.type_size b vs) l.binders;
      told = told_alike m;
      served = λ x y k i j l vs f. record { together = process l.settled; number = refl; bound = refl; local = λ e. record { indices = l.indices e; memory = k e } };
    }

    games : (a : Adversary) (m : Mode) (game next : Tree) → IsSettled g V Process 0 game next → AllByRecursion V (visits_of_run g m a game t) → IsGameSimulation SameMemory Like V a g g m m game next t t
    games a m game next z w = record {
      steps = simulates SameMemory Like GoTogether V g g t t aligned m m (begun_alike m);
      memory = refl;
      begun = inputs_alike game next 0 0 [] z;
      visited = w;
      coins = agree_refl t _;
    }

  pub runs_alike : (m : Mode) (a : Adversary) (game next : Tree) (t : Tape) → IsSettled g V Process 0 game next → AllByRecursion V (visits_of_run g m a game t) → AreAlike SameMemory Like (run g m a game t) (run g m a next t)
  runs_alike m a game next t z w = games_alike SameMemory Like V a g g m m game next t t (games t a m game next z w)

  same_events : (x y : Memory) → SameMemory x y → x.events ≡ y.events
  same_events x y e = ap (λ (m : Memory). m.events) e

  pub holds_settled : (x : Experiment) (a : Adversary) (game next : Tree) (t : Tape) → IsSettled g V Process 0 game next → AllByRecursion V (visits_of_run g (mode_of x) a game t) → holds_on g x a game t ≡ holds_on g x a next t
  holds_settled x a game next t z w =
      holds_alike SameMemory Like g g x x a game next t t (experiments_alike SameMemory Like same_events g g.side x) (runs_alike (mode_of x) a game next t z w)
