-- By induction on the construct, and then on the moves.
use Rattle.std.proofs.Common.{◌≡◌, ℕ, zero, suc, Bool, true, false, cond, List, [], ◌∷◌, ◌++◌, Option, Some, None, refl, subst}
use Rattle.std.specs.List.{AllByRecursion}
use Rattle.cv_syntax_trees.specs.Tree.{Tree, Empty, Node, first_place, second_place}
use Rattle.cv_meaning.specs.Tapes.{Tape}
use Rattle.cv_meaning.specs.Interpretation.{Setting}
use Rattle.cv_meaning.specs.Memory.{Memory, Local}
use Rattle.cv_meaning.specs.Binders.{fits}
use Rattle.cv_meaning.specs.Inputs.{Input, message_binders}
use Rattle.cv_meaning.specs.Serving.{Served, Turn, Ends, First, Second, after_turn, serve, step, Visit, visits}
use Rattle.cv_meaning.specs.Runs.{Adversary, Mode, Answer, Move, Calls, Tests, Guesses, State, Taken, admitted, begun, by_move, called, if_fitting, moved, next_move, run_from, run_visits, start, taken, tested_with, told, visits_of_call, visits_of_move}
use Rattle.cv_meaning.specs.Experiments.{coins_on, run, visits_of_run}
use Rattle.cv_syntax_trees.proofs.lists.Each.{AllByRecursion_append}
use Rattle.cv_meaning_laws.proofs.Moves.{TakenEach, admitted_each}
use Rattle.cv_meaning_chances.specs.alignment.Points.{Point}
use Rattle.cv_rule_codef.specs.kept.Kept.{HasIt, IsKept, Keeps}

fitting : (g : Setting) (vs : List ℕ) (o : Option Taken) (k : Taken) → if_fitting g vs o ≡ Some k → fits g.interpretation.type_size (message_binders k.input) vs ≡ true
fitting g vs None k e = absurd (cc)
fitting g vs (Some j) k e = go (fits g.interpretation.type_size (message_binders j.input) vs) refl e
  where
    go : (b : Bool) → fits g.interpretation.type_size (message_binders j.input) vs ≡ b → cond b (Some j) None ≡ Some k → fits g.interpretation.type_size (message_binders k.input) vs ≡ true
    go true f h = let q : j ≡ k = cc in subst (λ (l : Taken). fits g.interpretation.type_size (message_binders l.input) vs ≡ true) q f
    go false f h = absurd (cc)

module _ (g : Setting) (t : Tape) (game : Tree) (M : Memory → Type 0) (I : Input → Type 0) (P : Point → Local → Type 0) (c : IsKept M I P g t game) where
  abbrev Has : Visit → Type 0
  Has v = HasIt P v

  abbrev EndsWell : Served → Type 0
  EndsWell r = M r.last.memory × AllByRecursion I r.opened

  service_keeps : (b : Tree) (p k : ℕ) (vs : List ℕ) (s : Local) → P (record { tree = b; place = p; number = k; bound = vs }) s → AllByRecursion Has (visits g t b p k vs s) × EndsWell (serve g t b p k vs s)
  unfolding visits serve
  service_keeps Empty p k vs s e = (tt, c.goes (record { tree = Empty; place = p; number = k; bound = vs }) s e)
  service_keeps (Node h a b) p k vs s e =
      go (step g t h a b p k vs s) (c.goes (record { tree = Node h a b; place = p; number = k; bound = vs }) s e) (λ j us n. service_keeps a (first_place p h) j us n) (λ j us n. service_keeps b (second_place p h a) j us n)
    where
      here : Visit
      here = record { place = p; tree = Node h a b; before = s }

      go : (o : Turn) → Keeps M I P (record { tree = Node h a b; place = p; number = k; bound = vs }) o
          → ((j : ℕ) (us : List ℕ) (n : Local) → P (record { tree = a; place = first_place p h; number = j; bound = us }) n → AllByRecursion Has (visits g t a (first_place p h) j us n) × EndsWell (serve g t a (first_place p h) j us n))
          → ((j : ℕ) (us : List ℕ) (n : Local) → P (record { tree = b; place = second_place p h a; number = j; bound = us }) n → AllByRecursion Has (visits g t b (second_place p h a) j us n) × EndsWell (serve g t b (second_place p h a) j us n))
          → AllByRecursion Has (here ∷ after_turn (λ r. []) (visits g t a (first_place p h)) (visits g t b (second_place p h a)) o) × EndsWell (after_turn (λ r. r) (serve g t a (first_place p h)) (serve g t b (second_place p h a)) o)
      go (Ends r) q x y = (((k, vs, e), tt), q)
      go (First j us n) q x y = let z = x j us n q in (((k, vs, e), z.0), z.1)
      go (Second j us n) q x y = let z = y j us n q in (((k, vs, e), z.0), z.1)

  record Stands (st : State) : Type 0 where
    memory : M st.memory
    inputs : AllByRecursion I st.inputs

  move_keeps : (m : Mode) (st : State) (a : Move) → Stands st → AllByRecursion Has (visits_of_move g t st a) × Stands (moved g m t st a)
  unfolding visits_of_move moved
  move_keeps m st (Calls d u vs) h = go (admitted g d u vs st.inputs) refl (admitted_each I g d u vs st.inputs h.inputs)
    where
      go : (o : Option Taken) → admitted g d u vs st.inputs ≡ o → ((k : Taken) → o ≡ Some k → TakenEach I k) → AllByRecursion Has (visits_of_call g t st vs o) × Stands (called g t st vs o)
      go None e f = (tt, record { memory = h.memory; inputs = h.inputs })
      go (Some k) e f =
          let i = f k refl in
          let z = service_keeps k.input.tree k.input.place 0 vs (begun st k.input) (c.begun k.input st.memory vs i.input h.memory (fitting g vs (taken d u st.inputs) k e)) in
          (z.0, record { memory = z.1.0; inputs = AllByRecursion_append I k.others _ i.others z.1.1 })
  move_keeps m st (Tests u) h = go (told m t st u)
    where
      go : (o : Option ℕ) → Unit {0} × Stands (tested_with st o)
      go None = (tt, record { memory = h.memory; inputs = h.inputs })
      go (Some v) = (tt, record { memory = h.memory; inputs = h.inputs })
  move_keeps m st (Guesses b) h = (tt, record { memory = h.memory; inputs = h.inputs })

  run_keeps : (m : Mode) (next : List Answer → Option Move) (n : ℕ) (st : State) → Stands st → AllByRecursion Has (run_visits g m next t n st) × Stands (run_from g m next t n st)
  unfolding run_visits run_from
  run_keeps m next zero st h = (tt, h)
  run_keeps m next (suc n) st h = go (next_move next st) (λ a s. run_keeps m next n (moved g m t st a) s)
    where
      go : (o : Option Move) → ((a : Move) → Stands (moved g m t st a) → AllByRecursion Has (run_visits g m next t n (moved g m t st a)) × Stands (run_from g m next t n (moved g m t st a)))
          → AllByRecursion Has (by_move [] (λ a. visits_of_move g t st a ++ run_visits g m next t n (moved g m t st a)) o) × Stands (by_move st (λ a. run_from g m next t n (moved g m t st a)) o)
      go None ih = (tt, h)
      go (Some a) ih =
          let x = move_keeps m st a h in
          let y = ih a x.1 in
          (AllByRecursion_append Has (visits_of_move g t st a) _ x.0 y.0, y.1)

  pub game_keeps : (m : Mode) (a : Adversary) → AllByRecursion Has (visits_of_run g m a game t) × M (run g m a game t).memory
  unfolding run visits_of_run
  game_keeps m a = let z = run_keeps m (a.next (coins_on t 0 a.coins)) a.moves (start g game) (record { memory = c.memory; inputs = c.inputs }) in (z.0, z.1.memory)
