-- No construct is visited twice at the same values of its indices, and none that is still available was.
use Rattle.std.proofs.Common.{◌≡◌, ℕ, zero, suc, ◌+◌, Bool, true, false, cond, ◌==◌, List, [], ◌∷◌, ◌++◌, Option, Some, None, refl, sym, ap, subst, ◌∙◌, arith, eqb-true, append_assoc, append-nil}
use Rattle.std.proofs.lemmas.Bool.{and_parts}
use Rattle.std.specs.List.{AllByRecursion, IsDistinct}
use Rattle.cv_syntax_trees.specs.declared.head.Head.{Head}
use Rattle.cv_syntax_trees.specs.declared.head.Head.TheVariants.{In, Out, Event, New, Let, If, Find, Branch, Cons, Key, Call}
use Rattle.cv_syntax_trees.specs.Head.{weight}
use Rattle.cv_syntax_trees.specs.Tree.{Tree, Empty, Node, size, first_place, second_place}
use Rattle.cv_meaning.specs.Tapes.{Tape, Find_at}
use Rattle.cv_meaning.specs.Interpretation.{Setting}
use Rattle.cv_meaning.specs.Memory.{tuple, Local}
use Rattle.cv_meaning.specs.Binders.{fits}
use Rattle.cv_meaning.specs.Candidates.{Candidate, candidates, chosen}
use Rattle.cv_meaning.specs.Inputs.{Input, inputs_of, message_binders}
use Rattle.cv_meaning.specs.Serving.{Served, Turn, Ends, First, Second, after_find, step, serve, after_turn, Visit, visits}
use Rattle.cv_meaning.specs.Runs.{Mode, Adversary, Answer, Move, Calls, Tests, Guesses, State, Taken, taken, behind, is_at, admitted, if_fitting, called, told, tested_with, moved, run_from, begun, next_move, by_move, visits_of_call, visits_of_move, run_visits, start}
use Rattle.cv_meaning.specs.Experiments.{run, visits_of_run, coins_on}
use Rattle.cv_meaning_laws.proofs.Counts.{same_tuple_exact}
use Rattle.cv_meaning_runs.proofs.Lists.{Pairwise, pairwise_append}
use Rattle.cv_meaning_runs.proofs.Copies.{Extends, IsBetween, Under, Within, Apart, apart_back, extends_refl, Copies, copies_among, copies_append, inputs_copies}
use Rattle.cv_meaning_laws.proofs.Moves.{TakenEach, taken_each}
use Rattle.cv_meaning_runs.specs.Spots.{Spot, same_spot, spot_of_input, spots_of_visit, spots_of_visits, spots_of_inputs}
use Rattle.cv_syntax_trees.proofs.lists.Each.{AllByRecursion_append, AllByRecursion_weaker, AllByRecursion_both, AllByRecursion_cross}

-- a service: its visits' spots, and the copies that it opens

record Fresh (P : Spot → Type 0) (past : List Spot) (is : List Input) : Type 0 where
  copies : Copies P is
  visited : AllByRecursion P past
  once : Pairwise (λ s r. s ≡ r → ⊥) past
  spent : AllByRecursion (λ s. AllByRecursion (λ i. Within i s → ⊥) is) past

fresh_copies : (P : Spot → Type 0) (is : List Input) → Copies P is → Fresh P [] is
fresh_copies P is c = record { copies = c; visited = tt; once = tt; spent = tt }

fresh_among : (P Q : Spot → Type 0) → ((s : Spot) → P s → Q s) → (past : List Spot) (is : List Input) → Fresh P past is → Fresh Q past is
fresh_among P Q h past is f = record { copies = copies_among P Q h is f.copies; visited = AllByRecursion_weaker P Q h past f.visited; once = f.once; spent = f.spent }

fresh_append : (P Q R : Spot → Type 0) → ((s : Spot) → P s → R s) → ((s : Spot) → Q s → R s) → ((s : Spot) → P s → Q s → ⊥) → (past more : List Spot) (is js : List Input) → Fresh P past is → Fresh Q more js → Fresh R (past ++ more) (is ++ js)
fresh_append P Q R f k h past more is js x y = record {
  copies = copies_append P Q R f k h is js x.copies y.copies;
  visited = AllByRecursion_append R past more (AllByRecursion_weaker P R f past x.visited) (AllByRecursion_weaker Q R k more y.visited);
  once = pairwise_append (λ s r. s ≡ r → ⊥) past more x.once y.once (AllByRecursion_cross P Q (λ s r. s ≡ r → ⊥) (λ s r v w e. h r (subst P e v) w) past more x.visited y.visited);
  spent = AllByRecursion_append (λ s. AllByRecursion (λ i. Within i s → ⊥) (is ++ js)) past more
      (AllByRecursion_both P (λ s. AllByRecursion (λ i. Within i s → ⊥) is) _ (λ s v e. AllByRecursion_append (λ i. Within i s → ⊥) is js e (AllByRecursion_weaker (λ j. (r : Spot) → Within j r → Q r) (λ j. Within j s → ⊥) (λ j c w. h s v (c s w)) js y.copies.among)) past x.visited x.spent)
      (AllByRecursion_both Q (λ s. AllByRecursion (λ i. Within i s → ⊥) js) _ (λ s v e. AllByRecursion_append (λ i. Within i s → ⊥) is js (AllByRecursion_weaker (λ i. (r : Spot) → Within i r → P r) (λ i. Within i s → ⊥) (λ i c w. h s (c s w) v) is x.copies.among) e) more y.visited y.spent);
}

-- a node that is visited, and then what is below it
fresh_node : (h : Head) (p : ℕ) (a b : Tree) (s : Local) (past : List Spot) (is : List Input) → Fresh (IsBetween (p + weight h) (p + size (Node h a b)) (tuple s.indices)) past is
    → Fresh (Under (Node h a b) p (tuple s.indices)) (spots_of_visit (record { place = p; tree = Node h a b; before = s }) ++ past) is
unfolding size
fresh_node h p a b s past is f = go (weight h == 1) refl
  where
    here : Spot
    here = record { place = p; tuple = tuple s.indices }

    rest : Fresh (Under (Node h a b) p (tuple s.indices)) past is
    rest = fresh_among (IsBetween (p + weight h) (p + size (Node h a b)) (tuple s.indices)) (Under (Node h a b) p (tuple s.indices)) (λ r x. record { after = omega arith; before = x.before; extends = x.extends }) past is f

    go : (v : Bool) → (weight h == 1) ≡ v → Fresh (Under (Node h a b) p (tuple s.indices)) (cond v (here ∷ []) [] ++ past) is
    go false e = rest
    go true e =
        let q : weight h ≡ 1 = eqb-true (weight h) 1 e in
        record {
          copies = rest.copies;
          visited = (record { after = omega arith; before = omega arith; extends = extends_refl (tuple s.indices) }, rest.visited);
          once = (AllByRecursion_weaker _ (λ r. here ≡ r → ⊥) (λ r x z. let k : p ≡ r.place = ap (λ (y : Spot). y.place) z in absurd (omega arith)) past f.visited, rest.once);
          spent = (AllByRecursion_weaker (λ i. (r : Spot) → Within i r → IsBetween (p + weight h) (p + size (Node h a b)) (tuple s.indices) r) (λ i. Within i here → ⊥) (λ i x z. let k = x here z in absurd (omega arith)) is f.copies.among, rest.spent);
        }

abbrev IsNext : Head → Tree → Tree → ℕ → Local → Turn → Type 0
IsNext h a b p s (Ends r) = Copies (Under b (second_place p h a) (tuple s.indices)) r.opened
IsNext h a b p s (First k vs n) = n.indices ≡ s.indices
IsNext h a b p s (Second k vs n) = n.indices ≡ s.indices

step_next : (g : Setting) (t : Tape) (h : Head) (a b : Tree) (p k : ℕ) (vs : List ℕ) (s : Local) → IsNext h a b p s (step g t h a b p k vs s)
unfolding step
step_next g t (Out c) a b p k vs s = inputs_copies g b (second_place p (Out c) a) s.indices
step_next g t Cons a b p zero vs s = refl
step_next g t Cons a b p (suc k) vs s = refl
step_next g t (Find l) a b p k vs s = go (chosen (candidates g s.indices s.memory.store a) (t (Find_at l (tuple s.indices))))
  where
    go : (o : Option Candidate) → IsNext (Find l) a b p s (after_find s o)
    go None = refl
    go (Some c) = refl
step_next g t (In c) a b p k vs s = refl
step_next g t (New x T) a b p k vs s = refl
step_next g t (Let x T) a b p k vs s = refl
step_next g t (Event e) a b p k vs s = refl
step_next g t If a b p k vs s = refl
step_next g t Branch a b p k vs s = refl
step_next g t (Key x) a b p k vs s = refl
step_next g t (Call x l) a b p k vs s = refl
step_next g t h a b p k vs s = record { own = tt; among = tt; apart = tt }

under_first : (h : Head) (a b : Tree) (p : ℕ) (v w : List ℕ) → v ≡ w → (r : Spot) → Under a (first_place p h) v r → IsBetween (p + weight h) (p + size (Node h a b)) w r
unfolding size
under_first h a b p v w e r x = record { after = x.after; before = omega arith; extends = subst (Extends r.tuple) e x.extends }

under_second : (h : Head) (a b : Tree) (p : ℕ) (v w : List ℕ) → v ≡ w → (r : Spot) → Under b (second_place p h a) v r → IsBetween (p + weight h) (p + size (Node h a b)) w r
unfolding size
under_second h a b p v w e r x = record { after = omega arith; before = omega arith; extends = subst (Extends r.tuple) e x.extends }

abbrev IsFreshService : Tree → ℕ → Local → Served → List Visit → Type 0
IsFreshService b p s r vs = Fresh (Under b p (tuple s.indices)) (spots_of_visits vs) r.opened

serve_fresh : (g : Setting) (t : Tape) (b : Tree) (p k : ℕ) (vs : List ℕ) (s : Local) → IsFreshService b p s (serve g t b p k vs s) (visits g t b p k vs s)
unfolding serve visits
serve_fresh g t Empty p k vs s = fresh_copies _ [] (record { own = tt; among = tt; apart = tt })
serve_fresh g t (Node h a b) p k vs s = fresh_node h p a b s _ _ (go (step g t h a b p k vs s) (step_next g t h a b p k vs s) (λ j ws n. serve_fresh g t a (first_place p h) j ws n) (λ j ws n. serve_fresh g t b (second_place p h a) j ws n))
  where
    below_it : Spot → Type 0
    below_it = IsBetween (p + weight h) (p + size (Node h a b)) (tuple s.indices)

    go : (x : Turn) → IsNext h a b p s x
        → ((j : ℕ) (ws : List ℕ) (n : Local) → IsFreshService a (first_place p h) n (serve g t a (first_place p h) j ws n) (visits g t a (first_place p h) j ws n))
        → ((j : ℕ) (ws : List ℕ) (n : Local) → IsFreshService b (second_place p h a) n (serve g t b (second_place p h a) j ws n) (visits g t b (second_place p h a) j ws n))
        → Fresh below_it (spots_of_visits (after_turn (λ r. []) (visits g t a (first_place p h)) (visits g t b (second_place p h a)) x)) (after_turn (λ r. r) (serve g t a (first_place p h)) (serve g t b (second_place p h a)) x).opened
    go (Ends r) e f k = fresh_among (Under b (second_place p h a) (tuple s.indices)) below_it (under_second h a b p _ _ refl) [] r.opened (fresh_copies _ r.opened e)
    go (First j ws n) e f k = fresh_among (Under a (first_place p h) (tuple n.indices)) below_it (under_first h a b p _ _ (ap tuple e)) _ _ (f j ws n)
    go (Second j ws n) e f k = fresh_among (Under b (second_place p h a) (tuple n.indices)) below_it (under_second h a b p _ _ (ap tuple e)) _ _ (k j ws n)

-- the copy that is taken, and the others

record TakenPairs (R : Input → Input → Type 0) (k : Taken) : Type 0 where
  pair : AllByRecursion (R k.input) k.others
  rest : Pairwise R k.others

taken_pairs : (R : Input → Input → Type 0) → ((i j : Input) → R i j → R j i) → (c : ℕ) (u : List ℕ) (is : List Input) → Pairwise R is → (k : Taken) → taken c u is ≡ Some k → TakenPairs R k
unfolding taken
taken_pairs R back c u [] h k e = cc
taken_pairs R back c u (i ∷ is) h k e = go (is_at c u i) (taken c u is) (taken_pairs R back c u is h.1) (taken_each (R i) c u is h.0) e
  where
    go : (b : Bool) (o : Option Taken) → ((k : Taken) → o ≡ Some k → TakenPairs R k) → ((k : Taken) → o ≡ Some k → TakenEach (R i) k) → cond b (Some (record { input = i; others = is })) (behind i o) ≡ Some k → TakenPairs R k
    go true o x y e = let q : record { input = i; others = is } ≡ k = cc in subst (TakenPairs R) q (record { pair = h.0; rest = h.1 })
    go false None x y e = cc
    go false (Some r) x y e =
        let q : record r { others = i ∷ r.others } ≡ k = cc in
        let a = x r refl in
        let b = y r refl in
        subst (TakenPairs R) q (record { pair = (back i r.input b.input, a.pair); rest = (b.others, a.rest) })

pub admitted_taken : (P : Taken → Type 0) (g : Setting) (c : ℕ) (u vs : List ℕ) (is : List Input) → ((k : Taken) → taken c u is ≡ Some k → P k) → (k : Taken) → admitted g c u vs is ≡ Some k → P k
admitted_taken P g c u vs is h k e = go (taken c u is) h e
  where
    fitting : (b : Bool) (r : Taken) → P r → cond b (Some r) None ≡ Some k → P k
    fitting true r x q = let z : r ≡ k = cc in subst P z x
    fitting false r x q = cc

    go : (o : Option Taken) → ((k : Taken) → o ≡ Some k → P k) → if_fitting g vs o ≡ Some k → P k
    go None x q = cc
    go (Some r) x q = fitting (fits g.interpretation.type_size (message_binders r.input) vs) r (x r refl) q

-- a run

abbrev Any : Spot → Type 0
Any s = Unit {0}

abbrev Outside : Input → Spot → Type 0
Outside i s = Within i s → ⊥

taken_fresh : (c : ℕ) (u : List ℕ) (past : List Spot) (is : List Input) → Fresh Any past is → (k : Taken) → taken c u is ≡ Some k → Fresh (Outside k.input) past k.others
taken_fresh c u past is f k e =
    let pairs = taken_pairs Apart apart_back c u is f.copies.apart k e in
    let each : (s : Spot) → AllByRecursion (λ i. Within i s → ⊥) is → TakenEach (λ i. Within i s → ⊥) k = λ s h. taken_each (λ i. Within i s → ⊥) c u is h k e in
    record {
      copies = record {
        own = (taken_each (λ i. Within i (spot_of_input i)) c u is f.copies.own k e).others;
        among = AllByRecursion_weaker (Apart k.input) (λ j. (s : Spot) → Within j s → Outside k.input s) (λ j a s x y. a s y x) k.others pairs.pair;
        apart = pairs.rest;
      };
      visited = AllByRecursion_weaker (λ s. AllByRecursion (λ i. Within i s → ⊥) is) (Outside k.input) (λ s h. (each s h).input) past f.spent;
      once = f.once;
      spent = AllByRecursion_weaker (λ s. AllByRecursion (λ i. Within i s → ⊥) is) (λ s. AllByRecursion (λ i. Within i s → ⊥) k.others) (λ s h. (each s h).others) past f.spent;
    }

abbrev IsFreshAfter : List Spot → List Input → List Visit → Type 0
IsFreshAfter past is vs = Fresh Any (past ++ spots_of_visits vs) is

none_visited : (past : List Spot) (is : List Input) → Fresh Any past is → IsFreshAfter past is []
none_visited past is f = subst (λ x. Fresh Any x is) (sym (append-nil past)) f

moved_fresh : (g : Setting) (m : Mode) (t : Tape) (past : List Spot) (st : State) (a : Move) → Fresh Any past st.inputs → IsFreshAfter past (moved g m t st a).inputs (visits_of_move g t st a)
unfolding moved visits_of_move
moved_fresh g m t past st (Calls c u vs) f = go (admitted g c u vs st.inputs) (admitted_taken (λ k. Fresh (Outside k.input) past k.others) g c u vs st.inputs (taken_fresh c u past st.inputs f))
  where
    go : (o : Option Taken) → ((k : Taken) → o ≡ Some k → Fresh (Outside k.input) past k.others) → IsFreshAfter past (called g t st vs o).inputs (visits_of_call g t st vs o)
    go None h = none_visited past st.inputs f
    go (Some k) h = fresh_append (Outside k.input) (Within k.input) Any (λ s x. tt) (λ s x. tt) (λ s x y. x y) past _ k.others _ (h k refl) (serve_fresh g t k.input.tree k.input.place 0 vs (begun st k.input))
moved_fresh g m t past st (Tests u) f = go (told m t st u)
  where
    go : (o : Option ℕ) → IsFreshAfter past (tested_with st o).inputs []
    go None = none_visited past st.inputs f
    go (Some v) = none_visited past st.inputs f
moved_fresh g m t past st (Guesses b) f = none_visited past st.inputs f

spots_append : (vs ws : List Visit) → spots_of_visits (vs ++ ws) ≡ spots_of_visits vs ++ spots_of_visits ws
spots_append [] ws = refl
spots_append (v ∷ vs) ws = ap (λ x. spots_of_visit v ++ x) (spots_append vs ws) ∙ sym (append_assoc (spots_of_visit v) (spots_of_visits vs) (spots_of_visits ws))

run_fresh : (g : Setting) (m : Mode) (next : List Answer → Option Move) (t : Tape) (n : ℕ) (past : List Spot) (st : State) → Fresh Any past st.inputs → IsFreshAfter past (run_from g m next t n st).inputs (run_visits g m next t n st)
unfolding run_from run_visits
run_fresh g m next t zero past st f = none_visited past st.inputs f
run_fresh g m next t (suc n) past st f = go (next_move next st) (λ a. run_fresh g m next t n (past ++ spots_of_visits (visits_of_move g t st a)) (moved g m t st a) (moved_fresh g m t past st a f))
  where
    go : (o : Option Move) → ((a : Move) → IsFreshAfter (past ++ spots_of_visits (visits_of_move g t st a)) (run_from g m next t n (moved g m t st a)).inputs (run_visits g m next t n (moved g m t st a)))
        → IsFreshAfter past (by_move st (λ a. run_from g m next t n (moved g m t st a)) o).inputs (by_move [] (λ a. visits_of_move g t st a ++ run_visits g m next t n (moved g m t st a)) o)
    go None ih = none_visited past st.inputs f
    go (Some a) ih =
        let vs = visits_of_move g t st a in
        let ws = run_visits g m next t n (moved g m t st a) in
        subst (λ x. Fresh Any x (run_from g m next t n (moved g m t st a)).inputs) (append_assoc past (spots_of_visits vs) (spots_of_visits ws) ∙ ap (λ x. past ++ x) (sym (spots_append vs ws))) (ih a)

-- tests of spots

differ : (s r : Spot) → (s ≡ r → ⊥) → same_spot s r ≡ false
differ s r h = go (same_spot s r) refl
  where
    go : (b : Bool) → same_spot s r ≡ b → b ≡ false
    go true e = let p = and_parts (s.place == r.place) _ e in absurd (h (λ i. record { place = eqb-true s.place r.place p.0 i; tuple = same_tuple_exact s.tuple r.tuple p.1 i }))
    go false e = refl

distinct : (ss : List Spot) → Pairwise (λ s r. s ≡ r → ⊥) ss → IsDistinct same_spot ss
unfolding IsDistinct
distinct [] p = tt
distinct (s ∷ ss) p = (AllByRecursion_weaker (λ r. s ≡ r → ⊥) (λ r. same_spot s r ≡ false) (differ s) ss p.0, distinct ss p.1)

all_inputs : (P : Spot → Type 0) (Q : Input → Type 0) → ((i : Input) → Q i → P (spot_of_input i)) → (is : List Input) → AllByRecursion Q is → AllByRecursion P (spots_of_inputs is)
all_inputs P Q h [] k = tt
all_inputs P Q h (i ∷ is) k = (h i k.0, all_inputs P Q h is k.1)

inputs_differ : (is : List Input) → AllByRecursion (λ i. Within i (spot_of_input i)) is → Pairwise Apart is → Pairwise (λ s r. s ≡ r → ⊥) (spots_of_inputs is)
inputs_differ [] o p = tt
inputs_differ (i ∷ is) o p = (
  all_inputs (λ r. spot_of_input i ≡ r → ⊥) (λ j. Within j (spot_of_input j) × Apart i j) (λ j q e. q.1 (spot_of_input j) (subst (Within i) e o.0) q.0) is (AllByRecursion_both _ _ (λ j. Within j (spot_of_input j) × Apart i j) (λ j x y. (x, y)) is o.1 p.0),
  inputs_differ is o.1 p.1,
)

fresh_distinct : (past : List Spot) (is : List Input) → Fresh Any past is → IsDistinct same_spot (past ++ spots_of_inputs is)
fresh_distinct past is f = distinct (past ++ spots_of_inputs is) (pairwise_append (λ s r. s ≡ r → ⊥) past (spots_of_inputs is) f.once (inputs_differ is f.copies.own f.copies.apart)
    (AllByRecursion_weaker (λ s. AllByRecursion (λ i. Within i s → ⊥) is) (λ s. AllByRecursion (λ r. s ≡ r → ⊥) (spots_of_inputs is)) (λ s h. all_inputs (λ r. s ≡ r → ⊥) (λ i. Within i (spot_of_input i) × (Within i s → ⊥)) (λ i q e. q.1 (subst (Within i) (sym e) q.0)) is (AllByRecursion_both _ _ (λ i. Within i (spot_of_input i) × (Within i s → ⊥)) (λ i x y. (x, y)) is f.copies.own h)) past f.spent))

pub spots_distinct : (g : Setting) (m : Mode) (a : Adversary) (game : Tree) (t : Tape) → IsDistinct same_spot (spots_of_visits (visits_of_run g m a game t) ++ spots_of_inputs (run g m a game t).inputs)
unfolding run visits_of_run
spots_distinct g m a game t =
    let started : Fresh Any [] (inputs_of g game 0 []) = fresh_copies Any (inputs_of g game 0 []) (copies_among (Under game 0 []) Any (λ s x. tt) (inputs_of g game 0 []) (inputs_copies g game 0 [])) in
    fresh_distinct _ _ (run_fresh g m (a.next (coins_on t 0 a.coins)) t a.moves [] (start g game) started)
