-- A game goes together with the one without some definitions, and goes on alone through each of these and through constructs whose bodies
-- are all equal.
use Rattle.std.proofs.Common.{◌≡◌, ℕ, ◌<◌, arith, zero, suc, Bool, true, false, cond, not, List, [], ◌∷◌, ◌++◌, ◌⊎◌, inl, inr, Option, Some, None, is_some, ◌&&◌, refl, sym, ap, ap₂, subst}
use Rattle.std.proofs.lemmas.Bool.{and_parts, both_ways}
use Rattle.cv_syntax_trees.specs.declared.head.Head.{Head}
use Rattle.cv_syntax_trees.specs.declared.head.Head.TheVariants.{Par, Repl, In, Out, Event, New, Let, If, Find, Binder, Branch, Cons, Key, Call}
use Rattle.cv_syntax_trees.specs.Tree.{Tree, Empty, Node, second}
use Rattle.cv_meaning.specs.Tapes.{Tape, Test_at, New_at, Find_at}
use Rattle.cv_meaning.specs.Interpretation.{Setting}
use Rattle.cv_meaning.specs.Memory.{Memory, Store, Indices, Local, put, tuple}
use Rattle.cv_meaning.specs.Terms.{is_one, value}
use Rattle.cv_meaning.specs.Binders.{fits, bound_to, with_bound}
use Rattle.cv_meaning.specs.Candidates.{Candidate, below, candidates, chosen}
use Rattle.cv_meaning.specs.Inputs.{Input, inputs_of}
use Rattle.cv_meaning.specs.Serving.{Turn, First, Second, Sent, ended, Yielded, after_find, step}
use Rattle.cv_meaning.specs.Runs.{Mode, Events, Real, Random, Adversary, State, told}
use Rattle.cv_meaning.specs.Experiments.{Experiment, mode_of, holds_on, run, visits_of_run}
use Rattle.cv_meaning.specs.Replaced.{is_output}
use Rattle.cv_meaning.specs.Still.{defines}
use Rattle.cv_meaning_laws.specs.Agreement.{AgreeOn}
use Rattle.cv_meaning_runs.specs.Simulation.{InOrder, AreAlike, IsGameSimulation}
use Rattle.cv_meaning_runs.specs.Replacement.{Part, Process, Branches, if_tree}
use Rattle.cv_meaning_runs.proofs.Simulation.{in_order_append, games_alike}
use Rattle.cv_meaning_runs.proofs.Ends.{experiments_alike, holds_alike}
use Rattle.cv_meaning_runs.proofs.Outputs.{output_opens}
use Rattle.cv_meaning_chances.specs.alignment.Points.{Point, turn_of}
use Rattle.cv_meaning_chances.specs.alignment.Alignment.{GoesOn, both_end, both_first, both_second, left_first, left_second, IsAligned, AreBegun}
use Rattle.cv_meaning_chances.proofs.alignment.Aligned.{simulates}
use Rattle.cv_meaning_chances.specs.unread.Dropping.{reads_none, IsUntested, AgreesOff}
use Rattle.cv_meaning_chances.proofs.unread.Unread.{first_reads, second_reads, second_part, put_aside, value_same, values_same}
use Rattle.cv_meaning_chances.proofs.unread.Alike.{nothing_opened, stored, assigned, aside, bound, happened, answered, calls}
use Rattle.cv_meaning_chances.specs.thinning.Thinning.{HasBody, IsThinned, binds_only, same, gone, merged, same_bodies, kept, in_parallel, in_list, in_find, in_branch, in_later_branch, AreLikeInputs}
use Rattle.cv_meaning_chances.proofs.thinning.Guards.{candidates_thinned}
use Rattle.cv_meaning_chances.proofs.thinning.Branches.{branch_count, chosen_below}
use Rattle.cv_meaning_runs.proofs.Replacement.{agree_refl, in_order_flat}
use Rattle.cv_syntax_trees.proofs.lists.Each.{AllByRecursion_trivial}

module _ (xs : ℕ → Bool) where
  abbrev Like : Input → Input → Type 0
  Like = AreLikeInputs xs

  abbrev Off : Memory → Memory → Type 0
  Off = AgreesOff xs

  -- what the two processes open

  opened_same : (g : Setting) (b : Tree) (p q : ℕ) (at : Indices) → reads_none xs b ≡ true → InOrder Like (inputs_of g b p at) (inputs_of g b q at)
  unfolding inputs_of
  opened_same g Empty p q at e = tt
  opened_same g (Node Par a b) p q at e = in_order_append Like _ _ _ _ (opened_same g a _ _ at (first_reads xs Par a b e)) (opened_same g b _ _ at (second_reads xs Par a b e))
  opened_same g (Node (Repl i n) a b) p q at e = in_order_flat Like _ _ (λ v. opened_same g b _ _ (at ++ (i, v) ∷ []) (second_reads xs (Repl i n) a b e)) (below (g.interpretation.parameter_value n))
  opened_same g (Node (In c) a b) p q at e = (record { channel = refl; indices = refl; binders = refl; thinned = same e }, tt)
  opened_same g (Node h a b) p q at e = tt

  pub opened_alike : (g : Setting) (b c : Tree) (p q : ℕ) (at : Indices) → IsThinned xs Process b c → InOrder Like (inputs_of g b p at) (inputs_of g c q at)
  unfolding inputs_of
  opened_alike g b c p q at (same e) = opened_same g b p q at e
  opened_alike g b c p q at (gone {h = h} {a = a} {b = d} e f o z) =
      subst (λ is. InOrder Like is (inputs_of g c q at)) (sym (nothing_opened xs g h a d p at e)) (subst (InOrder Like []) (sym (output_opens g c q at o)) tt)
  opened_alike g b c p q at (merged h o z) = subst (InOrder Like []) (sym (output_opens g c q at o)) tt
  opened_alike g b c p q at (same_bodies o z) = subst (InOrder Like []) (sym (output_opens g c q at o)) tt
  opened_alike g b c p q at (kept {h = Par} {a = a} e z) = in_order_append Like _ _ _ _ (opened_same g a _ _ at e) (opened_alike g _ _ _ _ at z)
  opened_alike g b c p q at (kept {h = Repl i n} {b = d} {c = f} e z) = in_order_flat Like _ _ (λ v. opened_alike g d f _ _ (at ++ (i, v) ∷ []) z) (below (g.interpretation.parameter_value n))
  opened_alike g b c p q at (kept {h = In d} e z) = (record { channel = refl; indices = refl; binders = refl; thinned = kept e z }, tt)
  opened_alike g b c p q at (kept {h = h} e z) = tt
  opened_alike g b c p q at (in_parallel y z) = in_order_append Like _ _ _ _ (opened_alike g _ _ _ _ at y) (opened_alike g _ _ _ _ at z)
  opened_alike g b c p q at (in_list y z) = tt
  opened_alike g b c p q at (in_find y z) = tt

  -- what the two services have in hand: the same body's number and values, or an output process, which takes none
  abbrev Handed : Point → Point → Type 0
  Handed p q = ((p.number ≡ q.number) × (p.bound ≡ q.bound)) ⊎ (is_output q.tree ≡ true)

  record Together (p q : Point) (r s : Local) : Type 0 where
    part : Part
    thinned : IsThinned xs part p.tree q.tree
    handed : Handed p q
    indices : r.indices ≡ s.indices
    memory : Off r.memory s.memory

  -- the first service is inside of a construct all of whose bodies are this one, in front of one of them
  data Inside (body : Tree) : Tree → ℕ → Type 0 where
    branches : {a : Tree} {k : ℕ} → HasBody xs body a → k < branch_count a → Inside body a k
    arm : {us cells d : Tree} {k : ℕ} → binds_only xs us ≡ true → Inside body (Node Branch us (Node Cons cells (Node Cons d body))) k
    behind_list : {cells d : Tree} → Inside body (Node Cons cells (Node Cons d body)) 2
    behind_condition : {d : Tree} → Inside body (Node Cons d body) 1
    first_body : {b : Tree} → Inside body (Node Cons body b) 0
    second_body : Inside body (Node Cons body (Node Cons body Empty)) 1

  record IsInside (p q : Point) (r s : Local) : Type 0 where
    body : Tree
    inside : Inside body p.tree p.number
    thinned : IsThinned xs Process body q.tree
    output : is_output q.tree ≡ true
    indices : r.indices ≡ s.indices
    memory : Off r.memory s.memory

  data GoTogether (p q : Point) (r s : Local) : Type 0 where
    together : Together p q r s → GoTogether p q r s
    alone : IsInside p q r s → GoTogether p q r s

  module _ (g : Setting) (t : Tape) where
    abbrev Go : Tree → Tree → ℕ → ℕ → ℕ → ℕ → List ℕ → List ℕ → Local → Local → Turn → Turn → Type 0
    Go b c p q k j vs ws r s x y = GoesOn Off Like GoTogether (record { tree = b; place = p; number = k; bound = vs }) (record { tree = c; place = q; number = j; bound = ws }) r x y s

    -- two states at the same indices
    module _ (at : Indices) (m n : Memory) (o : Off m n) where
      abbrev r : Local
      r = record { indices = at; memory = m }

      abbrev s : Local
      s = record { indices = at; memory = n }

      bound_aside : (u : List ℕ) (x y : Store) → AgreeOn (λ z. not (xs z)) x y → (bs : Tree) (vs : List ℕ) → binds_only xs bs ≡ true → AgreeOn (λ z. not (xs z)) (bound_to x u bs vs) y
      unfolding bound_to
      bound_aside u x y e Empty vs f = e
      bound_aside u x y e (Node (Binder z T) a b) [] f = e
      bound_aside u x y e (Node (Binder z T) a b) (v ∷ vs) f = let r = and_parts (xs z) _ f in bound_aside u (put x z u v) y (put_aside xs x y e z u v r.0) b vs r.1
      bound_aside u x y e (Node h a b) vs f = absurd (both_ways false refl f)

      -- where both services go on into a child that is without some definitions

      module _ (h : Head) (a d b c : Tree) (p q k j : ℕ) (vs ws : List ℕ) where
        abbrev GoBoth : Turn → Turn → Type 0
        GoBoth x y = Go (Node h a b) (Node h d c) p q k j vs ws r s x y

        seconds : {part : Part} → IsThinned xs part b c → (k j : ℕ) (vs ws : List ℕ) → k ≡ j → vs ≡ ws → (x y : Memory) → Off x y → GoBoth (Second k vs (record { indices = at; memory = x })) (Second j ws (record { indices = at; memory = y }))
        seconds {part = part} z k j vs ws e f x y l = both_second (together (record { part = part; thinned = z; handed = inl (e, f); indices = refl; memory = l }))

        firsts : {part : Part} → IsThinned xs part a d → (k j : ℕ) (vs ws : List ℕ) → k ≡ j → vs ≡ ws → GoBoth (First k vs r) (First j ws s)
        firsts {part = part} z k j vs ws e f = both_first (together (record { part = part; thinned = z; handed = inl (e, f); indices = refl; memory = o }))

        ends : (v w : List ℕ) (e : v ≡ w) (x : ℕ) (is js : List Input) → InOrder Like is js → GoBoth (ended (Sent x (tuple at) v) is r) (ended (Sent x (tuple at) w) js s)
        ends v w e x is js l = both_end (record { reply = λ i. Sent x (tuple at) (e i); memory = o; opened = l })

        yields : GoBoth (ended Yielded [] r) (ended Yielded [] s)
        yields = both_end (record { reply = refl; memory = o; opened = tt })

      -- in a list the bodies' numbers and the values are the same
      list_goes : (a d b c : Tree) {σ ρ : Part} → IsThinned xs σ a d → IsThinned xs ρ b c → (p q k j : ℕ) (vs ws : List ℕ) → k ≡ j → vs ≡ ws → Go (Node Cons a b) (Node Cons d c) p q k j vs ws r s (step g t Cons a b p k vs r) (step g t Cons d c q j ws s)
      unfolding step
      list_goes a d b c x z p q zero zero vs ws e f = firsts Cons a d b c p q 0 0 vs ws x 0 0 vs ws refl f
      list_goes a d b c x z p q zero (suc j) vs ws e f = absurd (cc)
      list_goes a d b c x z p q (suc k) zero vs ws e f = absurd (cc)
      list_goes a d b c x z p q (suc k) (suc j) vs ws e f = seconds Cons a d b c p q (suc k) (suc j) vs ws z k j vs ws (let i : k ≡ j = cc in i) f m n o

      find_both : (l : ℕ) (a d b c : Tree) → IsThinned xs Branches a d → IsThinned xs Process b c → (p q k j : ℕ) (vs ws : List ℕ) (z : Option Candidate) → Go (Node (Find l) a b) (Node (Find l) d c) p q k j vs ws r s (after_find r z) (after_find s z)
      find_both l a d b c x y p q k j vs ws None = seconds (Find l) a d b c p q k j vs ws y 0 0 [] [] refl refl m n o
      find_both l a d b c x y p q k j vs ws (Some z) = firsts (Find l) a d b c p q k j vs ws x z.branch z.branch z.tuple z.tuple refl refl

      find_goes : (l : ℕ) (a d b c : Tree) → IsThinned xs Branches a d → IsThinned xs Process b c → (p q k j : ℕ) (vs ws : List ℕ) → Go (Node (Find l) a b) (Node (Find l) d c) p q k j vs ws r s (step g t (Find l) a b p k vs r) (step g t (Find l) d c q j ws s)
      unfolding step
      find_goes l a d b c x y p q k j vs ws =
          let cell : ℕ = t (Find_at l (tuple at)) in
          subst (λ cs. Go (Node (Find l) a b) (Node (Find l) d c) p q k j vs ws r s (after_find r (chosen (candidates g at m.store a) cell)) (after_find s (chosen cs cell)))
          (candidates_thinned g at xs m.store n.store o.store a d x) (find_both l a d b c x y p q k j vs ws (chosen (candidates g at m.store a) cell))

      -- a construct that reads none of them
      kept_goes : (h : Head) (a b c : Tree) → reads_none xs a ≡ true → IsThinned xs Process b c → (p q k j : ℕ) (vs ws : List ℕ) → ((k ≡ j) × (vs ≡ ws)) ⊎ (is_output (Node h a c) ≡ true)
          → Go (Node h a b) (Node h a c) p q k j vs ws r s (step g t h a b p k vs r) (step g t h a c q j ws s)
      unfolding step
      kept_goes (In x) a b c e z p q k j vs ws (inl f) = seconds (In x) a a b c p q k j vs ws z 0 0 [] [] refl refl _ _ (bound xs g t at m n o (second a) vs ws f.1)
      kept_goes (In x) a b c e z p q k j vs ws (inr f) = absurd (both_ways false refl f)
      kept_goes (New x T) a b c e z p q k j vs ws f = seconds (New x T) a a b c p q k j vs ws z 0 0 [] [] refl refl _ _ (assigned xs g t at m n o x _ _ refl)
      kept_goes (Let x T) a b c e z p q k j vs ws f = seconds (Let x T) a a b c p q k j vs ws z 0 0 [] [] refl refl _ _ (assigned xs g t at m n o x _ _ (value_same g at xs m.store n.store o.store a e))
      kept_goes (Event x) a b c e z p q k j vs ws f = seconds (Event x) a a b c p q k j vs ws z 0 0 [] [] refl refl _ _ (happened xs g t at m n o x _ _ (values_same g at xs m.store n.store o.store a e))
      kept_goes If a b c e z p q k j vs ws f = seconds If a a b c p q k j vs ws z _ _ [] [] (ap (λ v. cond (is_one v) 0 1) (value_same g at xs m.store n.store o.store a e)) refl m n o
      kept_goes (Find l) a b c e z p q k j vs ws f = find_goes l a a b c (same e) z p q k j vs ws
      kept_goes Branch a b c e z p q k j vs ws (inl f) = seconds Branch a a b c p q k j vs ws z 2 2 [] [] refl refl _ _ (bound xs g t at m n o a vs ws f.1)
      kept_goes Branch a b c e z p q k j vs ws (inr f) = absurd (both_ways false refl f)
      kept_goes (Key x) a b c e z p q k j vs ws f = seconds (Key x) a a b c p q k j vs ws z 0 0 [] [] refl refl _ _ (assigned xs g t at m n o x _ _ refl)
      kept_goes (Call x l) a b c e z p q k j vs ws f = seconds (Call x l) a a b c p q k j vs ws z 0 0 [] [] refl refl _ _ (answered xs g t at m n o x _ _ (ap₂ (g.side.reply t) o.arrays (calls xs g t at m n o l a e)))
      kept_goes Cons a b c e z p q k j vs ws (inl f) = list_goes a a b c {σ = Process} (same e) z p q k j vs ws f.0 f.1
      kept_goes Cons a b c e z p q k j vs ws (inr f) = absurd (both_ways false refl f)
      kept_goes (Out x) a b c e z p q k j vs ws f = ends (Out x) a a b c p q k j vs ws _ _ (values_same g at xs m.store n.store o.store (second a) (second_part xs a e)) x _ _ (opened_alike g b c _ _ at z)
      kept_goes h a b c e z p q k j vs ws f = yields h a a b c p q k j vs ws

      -- the first service goes on alone
      gone_goes : (h : Head) (a b c : Tree) → defines xs h ≡ true → is_output c ≡ true → IsThinned xs Process b c → (p q k j : ℕ) (vs ws : List ℕ) (y : Turn) → Go (Node h a b) c p q k j vs ws r s (step g t h a b p k vs r) y
      unfolding step
      gone_goes (New x T) a b c e f z p q k j vs ws y =
          left_second (together (record { part = Process; thinned = z; handed = inr f; indices = refl; memory = aside xs g t at m n o x (t (New_at x (tuple at))) e }))
      gone_goes (Let x T) a b c e f z p q k j vs ws y =
          left_second (together (record { part = Process; thinned = z; handed = inr f; indices = refl; memory = aside xs g t at m n o x (value g at m.store a) e }))
      gone_goes h a b c e f z p q k j vs ws y = absurd (both_ways false refl e)

      -- inside of such a construct
      stays : (body a c : Tree) (p q k : ℕ) (vs : List ℕ) (j : ℕ) (ws : List ℕ) (x : Memory) → Inside body a k → IsThinned xs Process body c → is_output c ≡ true → Off x n
          → GoTogether (record { tree = a; place = p; number = k; bound = vs }) (record { tree = c; place = q; number = j; bound = ws }) (record { indices = at; memory = x }) s
      stays body a c p q k vs j ws x i z f e = alone (record { body = body; inside = i; thinned = z; output = f; indices = refl; memory = e })

      comes : (body c : Tree) (p q k : ℕ) (vs : List ℕ) (j : ℕ) (ws : List ℕ) (x : Memory) → IsThinned xs Process body c → is_output c ≡ true → Off x n
          → GoTogether (record { tree = body; place = p; number = k; bound = vs }) (record { tree = c; place = q; number = j; bound = ws }) (record { indices = at; memory = x }) s
      comes body c p q k vs j ws x z f e = together (record { part = Process; thinned = z; handed = inr f; indices = refl; memory = e })

      branches_go : (body a c : Tree) → HasBody xs body a → IsThinned xs Process body c → is_output c ≡ true → (p q k j : ℕ) (vs ws : List ℕ) (y : Turn) → k < branch_count a → Go a c p q k j vs ws r s (turn_of g t a p k vs r) y
      unfolding step
      branches_go body Empty c h z f p q k j vs ws y l = absurd (omega arith)
      branches_go body (Node Cons (Node Branch us (Node Cons cells (Node Cons d b))) more) c h z f p q zero j vs ws y l =
          left_first (stays body (Node Branch us (Node Cons cells (Node Cons d b))) c _ q 0 vs j ws m (subst (λ e. Inside body (Node Branch us (Node Cons cells (Node Cons d e))) 0) (sym h.1) (arm h.0)) z f o)
      branches_go body (Node Cons (Node Branch us (Node Cons cells (Node Cons d b))) more) c h z f p q (suc k) j vs ws y l =
          left_second (stays body more c _ q k vs j ws m (branches h.2 (omega arith)) z f o)
      branches_go body a c h z f p q k j vs ws y l = absurd h

      inside_goes : (body a c : Tree) (k : ℕ) → Inside body a k → IsThinned xs Process body c → is_output c ≡ true → (p q j : ℕ) (vs ws : List ℕ) (y : Turn) → Go a c p q k j vs ws r s (turn_of g t a p k vs r) y
      unfolding step
      inside_goes body a c k (branches h l) z f p q j vs ws y = branches_go body a c h z f p q k j vs ws y l
      inside_goes body a c k (arm {us = us} {cells = cells} {d = d} e) z f p q j vs ws y =
          left_second (stays body (Node Cons cells (Node Cons d body)) c _ q 2 [] j ws (with_bound r us vs).memory behind_list z f (stored xs g t at m n o _ _ (bound_aside (tuple at) m.store n.store o.store us vs e)))
      inside_goes body a c k (behind_list {d = d}) z f p q j vs ws y = left_second (stays body (Node Cons d body) c _ q 1 vs j ws m behind_condition z f o)
      inside_goes body a c k behind_condition z f p q j vs ws y = left_second (comes body c _ q 0 vs j ws m z f o)
      inside_goes body a c k first_body z f p q j vs ws y = left_first (comes body c _ q 0 vs j ws m z f o)
      inside_goes body a c k second_body z f p q j vs ws y = left_second (stays body (Node Cons body Empty) c _ q 0 vs j ws m first_body z f o)

      merged_goes : (l : ℕ) (body a c : Tree) → HasBody xs body a → IsThinned xs Process body c → is_output c ≡ true → (p q k j : ℕ) (vs ws : List ℕ) (y : Turn) → Go (Node (Find l) a body) c p q k j vs ws r s (step g t (Find l) a body p k vs r) y
      unfolding step
      merged_goes l body a c h z f p q k j vs ws y = go (chosen (candidates g at m.store a) (t (Find_at l (tuple at)))) refl
        where
          go : (w : Option Candidate) → chosen (candidates g at m.store a) (t (Find_at l (tuple at))) ≡ w → Go (Node (Find l) a body) c p q k j vs ws r s (after_find r w) y
          go None e = left_second (comes body c _ q 0 [] j ws m z f o)
          go (Some w) e = left_first (stays body a c _ q w.branch w.tuple j ws m (branches h (chosen_below g at m.store a (t (Find_at l (tuple at))) w e)) z f o)

      bodies_go : (d body c : Tree) → IsThinned xs Process body c → is_output c ≡ true → (p q k j : ℕ) (vs ws : List ℕ) (y : Turn) → Go (if_tree d body body) c p q k j vs ws r s (step g t If d (Node Cons body (Node Cons body Empty)) p k vs r) y
      unfolding step
      bodies_go d body c z f p q k j vs ws y = go (is_one (value g at m.store d))
        where
          go : (v : Bool) → Go (if_tree d body body) c p q k j vs ws r s (Second (cond v 0 1) [] r) y
          go true = left_second (stays body (Node Cons body (Node Cons body Empty)) c _ q 0 [] j ws m first_body z f o)
          go false = left_second (stays body (Node Cons body (Node Cons body Empty)) c _ q 1 [] j ws m second_body z f o)

      point_goes : {part : Part} (b c : Tree) → IsThinned xs part b c → (p q k j : ℕ) (vs ws : List ℕ) → ((k ≡ j) × (vs ≡ ws)) ⊎ (is_output c ≡ true) → Go b c p q k j vs ws r s (turn_of g t b p k vs r) (turn_of g t c q j ws s)
      unfolding step
      point_goes Empty c (same e) p q k j vs ws f = both_end (record { reply = refl; memory = o; opened = tt })
      point_goes (Node h a b) c (same e) p q k j vs ws f = kept_goes h a b b (first_reads xs h a b e) (same (second_reads xs h a b e)) p q k j vs ws f
      point_goes b c (gone {h = h} {a = a} {b = d} e i l z) p q k j vs ws f = gone_goes h a d c e l z p q k j vs ws (turn_of g t c q j ws s)
      point_goes b c (merged {l = l} {a = a} {b = d} h i z) p q k j vs ws f = merged_goes l d a c h z i p q k j vs ws (turn_of g t c q j ws s)
      point_goes b c (same_bodies {d = d} {b = a} i z) p q k j vs ws f = bodies_go d a c z i p q k j vs ws (turn_of g t c q j ws s)
      point_goes b c (kept {h = h} {a = a} {b = d} {c = i} e z) p q k j vs ws f = kept_goes h a d i e z p q k j vs ws f
      point_goes b c (in_parallel y z) p q k j vs ws f = both_end (record { reply = refl; memory = o; opened = tt })
      point_goes b c (in_list {a = a} {b = d} {c = i} {d = l} y z) p q k j vs ws (inl f) = list_goes a i d l y z p q k j vs ws f.0 f.1
      point_goes b c (in_list y z) p q k j vs ws (inr f) = absurd (both_ways false refl f)
      point_goes b c (in_find {l = x} {a = a} {b = d} {c = i} {d = l} y z) p q k j vs ws f = find_goes x a i d l y z p q k j vs ws
      point_goes b c (in_branch {binders = bs} {defined = l} {condition = x} {b = a} {c = d} {more = more} {rest = rest} e h i y z) p q k j vs ws (inl f) =
          list_goes (Node Branch bs (Node Cons l (Node Cons x a))) (Node Branch bs (Node Cons l (Node Cons x d))) more rest {σ = Process} (kept e (kept h (kept i y))) z p q k j vs ws f.0 f.1
      point_goes b c (in_branch e h i y z) p q k j vs ws (inr f) = absurd (both_ways false refl f)
      point_goes b c (in_later_branch {a = a} {b = d} {c = i} e z) p q k j vs ws (inl f) = list_goes a a d i {σ = Process} (same e) z p q k j vs ws f.0 f.1
      point_goes b c (in_later_branch e z) p q k j vs ws (inr f) = absurd (both_ways false refl f)

    aligned : IsAligned Off Like GoTogether (λ v. Unit {0}) g g t t
    aligned p q r s (together l) w =
        subst (λ (z : Local). GoesOn Off Like GoTogether p q r (turn_of g t p.tree p.place p.number p.bound r) (turn_of g t q.tree q.place q.number q.bound z) z)
        (λ i. record { indices = l.indices i; memory = s.memory })
        (point_goes r.indices r.memory s.memory l.memory p.tree q.tree l.thinned p.place q.place p.number q.number p.bound q.bound l.handed)
    aligned p q r s (alone l) w =
        subst (λ (z : Local). GoesOn Off Like GoTogether p q r (turn_of g t p.tree p.place p.number p.bound r) (turn_of g t q.tree q.place q.number q.bound z) z)
        (λ i. record { indices = l.indices i; memory = s.memory })
        (inside_goes r.indices r.memory s.memory l.memory l.body p.tree q.tree p.number l.inside l.thinned l.output p.place q.place q.number p.bound q.bound (turn_of g t q.tree q.place q.number q.bound (record { indices = r.indices; memory = s.memory })))

    told_alike : (m : Mode) → IsUntested xs m → (x y : State) → AreAlike Off Like x y → (w : List ℕ) → told m t x w ≡ told m t y w
    told_alike Events e x y s w = refl
    told_alike (Real one n) e x y s w = ap₂ (λ (b : Bool) (v : Option ℕ). cond (one && b) None v) s.tested (s.memory.store n w (ap not e))
    told_alike (Random one n) e x y s w = ap₂ (λ (b : Bool) (v : Option ℕ). cond (one && b) None (cond (is_some v) (Some (t (Test_at w))) None)) s.tested (s.memory.store n w (ap not e))

    begun_alike : (m : Mode) → IsUntested xs m → AreBegun Off Like GoTogether g g m m t t
    begun_alike m e = record {
      channel = λ i j l. l.channel;
      tuple = λ i j l. ap tuple l.indices;
      message = λ i j l vs. ap (λ b. fits g.interpretation.type_size b vs) l.binders;
      told = told_alike m e;
      served = λ x y k i j l vs f. together (record { part = Process; thinned = l.thinned; handed = inl (refl, refl); indices = l.indices; memory = k });
    }

    games : (a : Adversary) (m : Mode) (game next : Tree) → IsThinned xs Process game next → IsUntested xs m → IsGameSimulation Off Like (λ v. Unit {0}) a g g m m game next t t
    games a m game next d e = record {
      steps = simulates Off Like GoTogether (λ v. Unit {0}) g g t t aligned m m (begun_alike m e);
      memory = record { store = λ x u f. refl; events = refl; arrays = refl };
      begun = opened_alike g game next 0 0 [] d;
      visited = AllByRecursion_trivial (visits_of_run g m a game t);
      coins = agree_refl t _;
    }

  pub runs_alike : (g : Setting) (m : Mode) (a : Adversary) (game next : Tree) (t : Tape) → IsThinned xs Process game next → IsUntested xs m → AreAlike Off Like (run g m a game t) (run g m a next t)
  runs_alike g m a game next t d e = games_alike Off Like (λ v. Unit {0}) a g g m m game next t t (games g t a m game next d e)

  pub holds_without : (g : Setting) (x : Experiment) (a : Adversary) (game next : Tree) (t : Tape) → IsThinned xs Process game next → IsUntested xs (mode_of x) → holds_on g x a game t ≡ holds_on g x a next t
  holds_without g x a game next t d e =
      holds_alike Off Like g g x x a game next t t (experiments_alike Off Like (λ r s l. l.events) g g.side x) (runs_alike g (mode_of x) a game next t d e)
