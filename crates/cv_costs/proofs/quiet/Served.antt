-- Two runs of one quiet game, on two tapes, are alike, where the tapes have the same choices of finds and draws of other variables.
use Rattle.std.proofs.Common.{◌≡◌, ℕ, zero, suc, Bool, true, false, cond, List, [], ◌∷◌, ◌++◌, Option, Some, None, is_some, refl, sym, ap, ap₂, subst, ◌∙◌}
use Rattle.std.proofs.lemmas.Bool.{both_ways}
use Rattle.std.proofs.lemmas.List.{map-append}
use Rattle.std.specs.List.{AllByRecursion}
use Rattle.cv_syntax_trees.specs.declared.head.Head.{Head}
use Rattle.cv_syntax_trees.specs.declared.head.Head.TheVariants.{Stop, Yield, Par, Repl, In, Out, Event, New, Let, If, Find, Branch, Cons}
use Rattle.cv_syntax_trees.specs.Tree.{Tree, Node, second, first_place, second_place}
use Rattle.cv_meaning.specs.Tapes.{Tape, New_at, Find_at, cells_of}
use Rattle.cv_meaning.specs.Interpretation.{Setting}
use Rattle.cv_meaning.specs.Memory.{Memory, Store, Indices, Happened, tuple, with_value, with_event}
use Rattle.cv_meaning.specs.Terms.{is_one, value, values}
use Rattle.cv_meaning.specs.Binders.{fits, with_bound}
use Rattle.cv_meaning.specs.Candidates.{Candidate, below, candidates}
use Rattle.cv_meaning.specs.Candidates as candidate
use Rattle.cv_meaning.specs.Inputs.{Input, inputs_of, message_binders}
use Rattle.cv_meaning.specs.Serving.{Served, Sent, Visit, after_find, after_turn, step, serve, visits}
use Rattle.cv_meaning.specs.Runs.{Mode, Adversary, State, begun, serve_input, told}
use Rattle.cv_meaning.specs.Cells.{coin_cells}
use Rattle.cv_meaning.specs.Experiments.{Guesses, holds_on, visits_of_run}
use Rattle.cv_meaning_runs.specs.Agreement.{AgreeAt}
use Rattle.cv_meaning_runs.specs.Moments.{Moment, Visited, Tested, moments_of_run, visits_among}
use Rattle.cv_meaning_runs.specs.Replacement.{Part, Process}
use Rattle.cv_meaning_runs.specs.Simulation.{InOrder, AreServedAlike, AreAlike}
use Rattle.cv_meaning_runs.proofs.Ends.{guesses_alike, holds_alike}
use Rattle.cv_meaning_runs.proofs.Simulation.{in_order_append}
use Rattle.cv_meaning_runs.specs.simulations.Moments.{AreExpected, AreMomentsAlike, AreVisitedAlike, IsMomentSimulation, IsMomentGameSimulation}
use Rattle.cv_meaning_runs.proofs.Together.{visits_among_moments}
use Rattle.cv_meaning_runs.proofs.simulations.Together.{games_alike, moments_alike}
use Rattle.cv_meaning_chances.proofs.unread.Unread.{value_same, values_same}
use Rattle.cv_costs.specs.quiet.Quiet.{Kind, IsQuiet, over, stopped, yielded, in_parallel, repeated, received, sent, chosen, named, copying, happened, decided, in_list, in_find, in_branch, binds_one}
use Rattle.cv_costs.specs.quiet.Twins.{AgreesBut, AreOne, AreRelated, AreVisitsRelated, Link, here, index_names}
use Rattle.cv_costs.proofs.quiet.Related.{put_related, bound_related, candidates_same}
use Rattle.cv_meaning_runs.proofs.Replacement.{in_order_flat}

module _ (k : Kind) (K : Link) (linked : (x : ℕ) (u : List ℕ) (o q : Option ℕ) → K x u o q → is_some o ≡ is_some q) where
  abbrev xs : ℕ → Bool
  xs = k.unread

  abbrev pub But : Memory → Memory → Type 0
  But = AgreesBut xs K

  abbrev pub One : Input → Input → Type 0
  One = AreOne k

  opened : {is : List ℕ} (g : Setting) (b : Tree) → IsQuiet k is Process b → (p : ℕ) (at : Indices) → index_names at ≡ is → InOrder One (inputs_of g b p at) (inputs_of g b p at)
  unfolding inputs_of
  opened g b over p at e = tt
  opened g b (in_parallel {a = a} {b = d} y z) p at e = in_order_append One _ _ _ _ (opened g a y (first_place p Par) at e) (opened g d z (second_place p Par a) at e)
  opened g b (repeated {i = i} {n = n} {a = a} {b = d} z) p at e =
      in_order_flat One _ _ (λ v. opened g d z (second_place p (Repl i n) a) (at ++ (i, v) ∷ []) (map-append (λ (q : ℕ × ℕ). q.0) at ((i, v) ∷ []) ∙ ap (λ is. is ++ i ∷ []) e)) (below (g.interpretation.parameter_value n))
  opened g b (received {c = c} {a = a} {b = d} f z) p at e = (record { same = refl; quiet = subst (λ is. IsQuiet k is Process (Node (In c) a d)) (sym e) (received f z) }, tt)
  opened g b stopped p at e = tt
  opened g b yielded p at e = tt
  opened g b (sent f z) p at e = tt
  opened g b (chosen f z) p at e = tt
  opened g b (named f h z) p at e = tt
  opened g b (copying f z) p at e = tt
  opened g b (happened f z) p at e = tt
  opened g b (decided f z) p at e = tt
  opened g b (in_list y z) p at e = tt
  opened g b (in_find y z) p at e = tt

  module _ (g : Setting) (t u : Tape) (E : Moment → Type 0) where
    abbrev pub Draws : Type 0
    Draws =
        (x T p : ℕ) (a b : Tree) (at : Indices) (m : Memory) → k.drawn x → xs x ≡ true → E (Visited (record { place = p; tree = Node (New x T) a b; before = here at m }))
        → K x (tuple at) (Some (t (New_at x (tuple at)))) (Some (u (New_at x (tuple at))))

    abbrev pub Copies : Type 0
    Copies =
        (x T p : ℕ) (a b : Tree) (at : Indices) (m n : Memory) → k.copied (index_names at) x a → But m n → E (Visited (record { place = p; tree = Node (Let x T) a b; before = here at m }))
        → (xs x ≡ true) × K x (tuple at) (Some (value g at m.store a)) (Some (value g at n.store a))

    module _ (draws : Draws) (copies : Copies) (others : (x : ℕ) (w : List ℕ) → xs x ≡ false → t (New_at x w) ≡ u (New_at x w)) (finds : (l : ℕ) (w : List ℕ) → t (Find_at l w) ≡ u (Find_at l w)) where
      abbrev Alike : Served → Served → Type 0
      Alike = AreServedAlike But One

      abbrev Visits : List Visit → List Visit → Type 0
      Visits = InOrder (AreVisitsRelated xs K)

      -- services that are alike, with their visits
      abbrev Both : Served → Served → List Visit → List Visit → Type 0
      Both r s vs ws = Alike r s × Visits vs ws

      -- from related memories on, the tree is served alike
      abbrev ServesAlike : List ℕ → Tree → Type 0
      ServesAlike is b =
          (p j : ℕ) (vs : List ℕ) (at : Indices) (m n : Memory) → index_names at ≡ is → AreExpected E (visits g t b p j vs (here at m)) → But m n
          → Both (serve g t b p j vs (here at m)) (serve g u b p j vs (here at n)) (visits g t b p j vs (here at m)) (visits g u b p j vs (here at n))

      -- a node that is visited first
      seen : (h : Head) (a b : Tree) (p : ℕ) (at : Indices) (m n : Memory) → But m n → AreVisitsRelated xs K (record { place = p; tree = Node h a b; before = here at m }) (record { place = p; tree = Node h a b; before = here at n })
      seen h a b p at m n o = record { place = refl; tree = refl; indices = refl; memory = o }

      stored : (m n : Memory) → But m n → (x y : Store) → AreRelated xs K x y → But (record m { store = x }) (record n { store = y })
      stored m n o x y r = record { store = r; events = o.events; arrays = o.arrays }

      assigned : (at : Indices) (m n : Memory) → But m n → (x v w : ℕ) → (xs x ≡ false → v ≡ w) → (xs x ≡ true → K x (tuple at) (Some v) (Some w)) → But (with_value (here at m) x v).memory (with_value (here at n) x w).memory
      assigned at m n o x v w e f = stored m n o _ _ (put_related k K m.store n.store o.store x (tuple at) v w e f)

      bound : (at : Indices) (m n : Memory) → But m n → (bs : Tree) (vs : List ℕ) → binds_one xs bs ≡ false → But (with_bound (here at m) bs vs).memory (with_bound (here at n) bs vs).memory
      bound at m n o bs vs e = stored m n o _ _ (bound_related k K m.store n.store o.store (tuple at) bs vs e)

      noted : (at : Indices) (m n : Memory) → But m n → (e : ℕ) (vs ws : List ℕ) → vs ≡ ws → But (with_event (here at m) e vs).memory (with_event (here at n) e ws).memory
      noted at m n o e vs ws f = record { store = o.store; events = λ i. o.events i ++ (let d : Happened = record { event = e; values = f i } in d) ∷ []; arrays = o.arrays }

      found : {is : List ℕ} (a b : Tree) → ServesAlike is a → ServesAlike is b → (p q : ℕ) (at : Indices) (m n : Memory) → index_names at ≡ is → But m n → (c d : Option Candidate) → c ≡ d
          → AreExpected E (after_turn (λ r. []) (visits g t a p) (visits g t b q) (after_find (here at m) c))
          → Both (after_turn (λ r. r) (serve g t a p) (serve g t b q) (after_find (here at m) c)) (after_turn (λ r. r) (serve g u a p) (serve g u b q) (after_find (here at n) d))
          (after_turn (λ r. []) (visits g t a p) (visits g t b q) (after_find (here at m) c)) (after_turn (λ r. []) (visits g u a p) (visits g u b q) (after_find (here at n) d))
      found a b x y p q at m n e o c d f v =
          subst (λ z. Both (after_turn (λ r. r) (serve g t a p) (serve g t b q) (after_find (here at m) c)) (after_turn (λ r. r) (serve g u a p) (serve g u b q) (after_find (here at n) z))
          (after_turn (λ r. []) (visits g t a p) (visits g t b q) (after_find (here at m) c)) (after_turn (λ r. []) (visits g u a p) (visits g u b q) (after_find (here at n) z))) f (go c v)
        where
          go : (z : Option Candidate) → AreExpected E (after_turn (λ r. []) (visits g t a p) (visits g t b q) (after_find (here at m) z))
              → Both (after_turn (λ r. r) (serve g t a p) (serve g t b q) (after_find (here at m) z)) (after_turn (λ r. r) (serve g u a p) (serve g u b q) (after_find (here at n) z))
              (after_turn (λ r. []) (visits g t a p) (visits g t b q) (after_find (here at m) z)) (after_turn (λ r. []) (visits g u a p) (visits g u b q) (after_find (here at n) z))
          go None w = y q 0 [] at m n e w o
          go (Some z) w = x p z.branch z.tuple at m n e w o

      -- the body that an `if` takes
      taken : {is : List ℕ} (b : Tree) → ServesAlike is b → (p : ℕ) (at : Indices) (m n : Memory) → index_names at ≡ is → But m n → (v w : ℕ) → v ≡ w → AreExpected E (visits g t b p (cond (is_one v) 0 1) [] (here at m))
          → Both (serve g t b p (cond (is_one v) 0 1) [] (here at m)) (serve g u b p (cond (is_one w) 0 1) [] (here at n)) (visits g t b p (cond (is_one v) 0 1) [] (here at m)) (visits g u b p (cond (is_one w) 0 1) [] (here at n))
      taken b y p at m n e o v w f c =
          subst (λ z. Both (serve g t b p (cond (is_one v) 0 1) [] (here at m)) (serve g u b p (cond (is_one z) 0 1) [] (here at n)) (visits g t b p (cond (is_one v) 0 1) [] (here at m)) (visits g u b p (cond (is_one z) 0 1) [] (here at n)))
          f (y p (cond (is_one v) 0 1) [] at m n e c o)

      listed : {is : List ℕ} (a b : Tree) → ServesAlike is a → ServesAlike is b → ServesAlike is (Node Cons a b)
      unfolding serve step visits
      listed a b x y p zero vs at m n e v o = let r = x _ 0 vs at m n e v.1 o in (r.0, (seen Cons a b p at m n o, r.1))
      listed a b x y p (suc j) vs at m n e v o = let r = y _ j vs at m n e v.1 o in (r.0, (seen Cons a b p at m n o, r.1))

      -- a branch with its list, condition and body, before the other branches
      branched : {is : List ℕ} (bs d c b more : Tree) → binds_one xs bs ≡ false → ServesAlike is b → ServesAlike is more → ServesAlike is (Node Cons (Node Branch bs (Node Cons d (Node Cons c b))) more)
      unfolding serve step visits
      branched bs d c b more f x y p zero vs at m n e v o =
          let later : But (with_bound (here at m) bs vs).memory (with_bound (here at n) bs vs).memory = bound at m n o bs vs f in
          let r = x (second_place (second_place (second_place (first_place p Cons) Branch bs) Cons d) Cons c) 0 [] at _ _ e v.1.1.1.1 later in (
            r.0,
            (
              record { place = refl; tree = refl; indices = refl; memory = o },
              (
                record { place = refl; tree = refl; indices = refl; memory = o },
                (record { place = refl; tree = refl; indices = refl; memory = later }, (record { place = refl; tree = refl; indices = refl; memory = later }, r.1)),
              ),
            ),
          )
      branched bs d c b more f x y p (suc j) vs at m n e v o = let r = y _ j vs at m n e v.1 o in (r.0, (record { place = refl; tree = refl; indices = refl; memory = o }, r.1))

      served : {is : List ℕ} {part : Part} (b : Tree) → IsQuiet k is part b → ServesAlike is b
      unfolding serve step visits
      served b over p j vs at m n e v o = (record { reply = refl; memory = o; opened = tt }, tt)
      served b (stopped {a = a} {b = d}) p j vs at m n e v o = (record { reply = refl; memory = o; opened = tt }, (seen Stop a d p at m n o, tt))
      served b (yielded {a = a} {b = d}) p j vs at m n e v o = (record { reply = refl; memory = o; opened = tt }, (seen Yield a d p at m n o, tt))
      served b (in_parallel {a = a} {b = d} y z) p j vs at m n e v o = (record { reply = refl; memory = o; opened = tt }, (seen Par a d p at m n o, tt))
      served b (repeated {i = i} {n = r} {a = a} {b = d} z) p j vs at m n e v o = (record { reply = refl; memory = o; opened = tt }, (seen (Repl i r) a d p at m n o, tt))
      served b (received {c = c} {a = a} {b = d} f z) p j vs at m n e v o =
          let r = (served d z _ 0 [] at _ _ e v.1 (bound at m n o (second a) vs f)) in
          (r.0, (seen (In c) a d p at m n o, r.1))
      served b (sent {c = c} {a = a} {b = d} f z) p j vs at m n e v o =
          let same : values g at m.store (second a) ≡ values g at n.store (second a) = values_same g at xs m.store n.store o.store.others (second a) f in
          (record { reply = λ i. Sent c (tuple at) (same i); memory = o; opened = opened g d z _ at e }, (seen (Out c) a d p at m n o, tt))
      served b (chosen {x = x} {T = T} {a = a} {b = d} f z) p j vs at m n e v o =
          let r = (served d z _ 0 [] at _ _ e v.1 (assigned at m n o x (t (New_at x (tuple at))) (u (New_at x (tuple at))) (others x (tuple at)) (λ h. draws x T p a d at m f h v.0))) in
          (r.0, (seen (New x T) a d p at m n o, r.1))
      served b (named {x = x} {T = T} {a = a} {b = d} f h z) p j vs at m n e v o =
          let r = (served d z _ 0 [] at _ _ e v.1 (assigned at m n o x (value g at m.store a) (value g at n.store a) (λ i. value_same g at xs m.store n.store o.store.others a h) (λ i. absurd (both_ways (xs x) f i)))) in
          (r.0, (seen (Let x T) a d p at m n o, r.1))
      served b (copying {x = x} {T = T} {a = a} {b = d} f z) p j vs at m n e v o =
          let c = copies x T p a d at m n (subst (λ is. k.copied is x a) (sym e) f) o v.0 in
          let r = (served d z _ 0 [] at _ _ e v.1 (assigned at m n o x (value g at m.store a) (value g at n.store a) (λ i. absurd (both_ways (xs x) i c.0)) (λ i. c.1))) in
          (r.0, (seen (Let x T) a d p at m n o, r.1))
      served b (happened {e = c} {a = a} {b = d} f z) p j vs at m n e v o =
          let r = (served d z _ 0 [] at _ _ e v.1 (noted at m n o c (values g at m.store a) (values g at n.store a) (values_same g at xs m.store n.store o.store.others a f))) in
          (r.0, (seen (Event c) a d p at m n o, r.1))
      served b (decided {a = a} {b = d} f z) p j vs at m n e v o =
          let r = (taken d (served d z) _ at m n e o (value g at m.store a) (value g at n.store a) (value_same g at xs m.store n.store o.store.others a f) v.1) in
          (r.0, (seen If a d p at m n o, r.1))
      served b (in_list {a = a} {b = d} y z) p j vs at m n e v o = listed a d (served a y) (served d z) p j vs at m n e v o
      served b (in_find {l = l} {a = a} {b = d} y z) p j vs at m n e v o =
          let r = (found a d (served a y) (served d z) _ _ at m n e o (candidate.chosen (candidates g at m.store a) (t (Find_at l (tuple at)))) (candidate.chosen (candidates g at n.store a) (u (Find_at l (tuple at)))) (ap₂ candidate.chosen (candidates_same k K linked g at m.store n.store o.store a y) (finds l (tuple at))) v.1) in
          (r.0, (seen (Find l) a d p at m n o, r.1))
      served b (in_branch {binders = bs} {defined = d} {condition = c} {b = a} {more = more} f h i y z) p j vs at m n e v o = branched bs d c a more f (served a y) (served more z) p j vs at m n e v o

      -- and so is the whole game, where tests tell the same
      module _ (m n : Mode) (tells : (x y : State) → AreAlike But One x y → (w : List ℕ) → E (Tested w x) → told m t x w ≡ told n u y w) where
        steps : IsMomentSimulation But One E g g m n t u
        steps = record {
          channel = λ i j l. ap (λ (c : Input). c.channel) l.same;
          tuple = λ i j l. ap (λ (c : Input). tuple c.indices) l.same;
          message = λ i j l vs. ap (λ c. fits g.interpretation.type_size (message_binders c) vs) l.same;
          told = tells;
          served = λ x y s i j l vs f v.
              subst (λ c. AreServedAlike But One (serve_input g t x i vs) (serve_input g u y c vs)) l.same (served i.tree l.quiet i.place 0 vs i.indices x.memory y.memory refl v s.memory).0;
        }

        pub simulates : (a : Adversary) (game : Tree) → IsQuiet k [] Process game → ((x : ℕ) (w : List ℕ) → K x w None None) → AgreeAt (cells_of (coin_cells 0 a.coins)) t u → AllByRecursion E (moments_of_run g m a game t)
            → IsMomentGameSimulation But One E a g g m n game game t u
        simulates a game q none coins each = record {
          steps = steps;
          memory = record { store = record { others = λ x w e. refl; own = λ x e w. none x w }; events = refl; arrays = refl };
          begun = opened g game q 0 [] refl;
          moments = each;
          coins = coins;
        }

        visited : AreVisitedAlike But One (AreVisitsRelated xs K) E g g t u
        visited x y s i j l vs f v =
            subst (λ c. Visits (visits g t i.tree i.place 0 vs (begun x i)) (visits g u c.tree c.place 0 vs (begun y c))) l.same (served i.tree l.quiet i.place 0 vs i.indices x.memory y.memory refl v s.memory).1

        -- so the visits are related in order
        pub visits_related : (a : Adversary) (game : Tree) → IsQuiet k [] Process game → ((x : ℕ) (w : List ℕ) → K x w None None) → AgreeAt (cells_of (coin_cells 0 a.coins)) t u → AllByRecursion E (moments_of_run g m a game t)
            → Visits (visits_of_run g m a game t) (visits_of_run g n a game u)
        visits_related a game q none coins each =
            subst (λ vs. Visits vs (visits_of_run g n a game u)) (visits_among_moments g m a game t) (subst (Visits (visits_among (moments_of_run g m a game t))) (visits_among_moments g n a game u)
            (among (moments_of_run g m a game t) (moments_of_run g n a game u)
            (moments_alike But One (AreVisitsRelated xs K) E a g g m n game game t u (simulates a game q none coins each) visited)))
          where
            among : (ms ns : List Moment) → InOrder (AreMomentsAlike But One (AreVisitsRelated xs K)) ms ns → Visits (visits_among ms) (visits_among ns)
            among [] [] h = tt
            among (Visited v ∷ ms) (Visited w ∷ ns) h = (h.0, among ms ns h.1)
            among (Tested x r ∷ ms) (Tested y s ∷ ns) h = among ms ns h.1
            among (Visited v ∷ ms) (Tested y s ∷ ns) h = absurd h.0
            among (Tested x r ∷ ms) (Visited w ∷ ns) h = absurd h.0
            among [] (n ∷ ns) h = absurd h
            among (m ∷ ms) [] h = absurd h

        -- so guesses hold on both tapes or on none
        pub guesses : (a : Adversary) (game : Tree) → IsQuiet k [] Process game → ((x : ℕ) (w : List ℕ) → K x w None None) → AgreeAt (cells_of (coin_cells 0 a.coins)) t u → AllByRecursion E (moments_of_run g m a game t)
            → holds_on g (Guesses m) a game t ≡ holds_on g (Guesses n) a game u
        guesses a game q none coins each =
            holds_alike But One g g (Guesses m) (Guesses n) a game game t u (guesses_alike But One g g m n)
            (games_alike But One (λ v w. v ≡ w) E a g g m n game game t u (simulates a game q none coins each))
