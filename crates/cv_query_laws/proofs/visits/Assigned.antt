-- Each assigned cell was assigned by a visit.
use Rattle.std.proofs.Common.{◌≡◌, ℕ, zero, suc, true, List, [], ◌++◌, ◌⊎◌, inl, inr, Option, Some, None, sym}
use Rattle.std.specs.List.{AllByRecursion}
use Rattle.cv_syntax_trees.specs.declared.head.Head.{Head}
use Rattle.cv_syntax_trees.specs.declared.head.Head.TheVariants.{In, Event, New, Let, If, Find, Branch, Cons, Key, Call}
use Rattle.cv_syntax_trees.specs.Tree.{Tree, Empty, Node, first_place, second, second_place}
use Rattle.cv_meaning.specs.Tapes.{Tape, Find_at}
use Rattle.cv_meaning.specs.Interpretation.{Setting}
use Rattle.cv_meaning.specs.Memory.{Local, Store, tuple}
use Rattle.cv_meaning.specs.Candidates.{Candidate, candidates, chosen}
use Rattle.cv_meaning.specs.Serving.{Turn, Ends, First, Second, Visit, after_find, after_turn, serve, step, visits}
use Rattle.cv_meaning.specs.Runs.{Adversary, Mode, Answer, Move, Calls, Tests, Guesses, State, Taken, admitted, begun, by_move, called, moved, next_move, run_from, run_visits, start, tested_with, told, visits_of_call, visits_of_move}
use Rattle.cv_meaning.specs.Experiments.{coins_on, run, visits_of_run}
use Rattle.cv_meaning_laws.specs.adequacy.Broken.{StandsAt}
use Rattle.cv_scope_rules.specs.Made.{made_at}
use Rattle.cv_scope_rules.specs.Sites.{Variable}
use Rattle.cv_scope_runs.proofs.FreshRuns.{bound_made, put_made}
use Rattle.cv_syntax_trees.proofs.lists.Each.{AllByRecursion_left, AllByRecursion_right}
use Rattle.cv_query_laws.proofs.visits.Positions.{all_stand}

module _ (g : Setting) (t : Tape) (Seen : Visit → Type 0) where
  -- a visit that is seen assigned each cell of the store
  abbrev AreMade : Store → Type 0
  AreMade m = (y : ℕ) (w : List ℕ) (z : ℕ) → m y w ≡ Some z → (v : Visit) × Seen v × (made_at v.tree (Variable y) ≡ true) × (tuple v.before.indices ≡ w)

  made : (v : Visit) → Seen v → (m n : Store) → ((y : ℕ) (w : List ℕ) (z : ℕ) → n y w ≡ Some z → (m y w ≡ Some z) ⊎ ((made_at v.tree (Variable y) ≡ true) × (w ≡ tuple v.before.indices))) → AreMade m → AreMade n
  made v seen m n f x y w z e = go (f y w z e)
    where
      go : (m y w ≡ Some z) ⊎ ((made_at v.tree (Variable y) ≡ true) × (w ≡ tuple v.before.indices)) → (v : Visit) × Seen v × (made_at v.tree (Variable y) ≡ true) × (tuple v.before.indices ≡ w)
      go (inl k) = x y w z k
      go (inr k) = (v, seen, k.0, sym k.1)

  turn_made : Turn → Type 0
  turn_made (Ends r) = AreMade r.last.memory.store
  turn_made (First k vs s) = AreMade s.memory.store
  turn_made (Second k vs s) = AreMade s.memory.store

  step_made : (h : Head) (a b : Tree) (p k : ℕ) (vs : List ℕ) (s : Local) → Seen (record { place = p; tree = Node h a b; before = s }) → AreMade s.memory.store → turn_made (step g t h a b p k vs s)
  unfolding step turn_made
  step_made (In c) a b p k vs s seen x = made (record { place = p; tree = Node (In c) a b; before = s }) seen s.memory.store _ (λ y w z e. bound_made s.memory.store (tuple s.indices) (second a) vs y w z e) x
  step_made Branch a b p k vs s seen x = made (record { place = p; tree = Node Branch a b; before = s }) seen s.memory.store _ (λ y w z e. bound_made s.memory.store (tuple s.indices) a vs y w z e) x
  step_made (New n T) a b p k vs s seen x = made (record { place = p; tree = Node (New n T) a b; before = s }) seen s.memory.store _ (λ y w z e. put_made s.memory.store n (tuple s.indices) _ y w z e) x
  step_made (Let n T) a b p k vs s seen x = made (record { place = p; tree = Node (Let n T) a b; before = s }) seen s.memory.store _ (λ y w z e. put_made s.memory.store n (tuple s.indices) _ y w z e) x
  step_made (Key n) a b p k vs s seen x = made (record { place = p; tree = Node (Key n) a b; before = s }) seen s.memory.store _ (λ y w z e. put_made s.memory.store n (tuple s.indices) _ y w z e) x
  step_made (Call n l) a b p k vs s seen x = made (record { place = p; tree = Node (Call n l) a b; before = s }) seen s.memory.store _ (λ y w z e. put_made s.memory.store n (tuple s.indices) _ y w z e) x
  step_made (Find l) a b p k vs s seen x = go (chosen (candidates g s.indices s.memory.store a) (t (Find_at l (tuple s.indices))))
    where
      go : (o : Option Candidate) → turn_made (after_find s o)
      go None = x
      go (Some c) = x
  step_made Cons a b p zero vs s seen x = x
  step_made Cons a b p (suc k) vs s seen x = x
  step_made (Event e) a b p k vs s seen x = x
  step_made If a b p k vs s seen x = x
  step_made h a b p k vs s seen x = x

  serve_made : (b : Tree) (p k : ℕ) (vs : List ℕ) (s : Local) → AllByRecursion Seen (visits g t b p k vs s) → AreMade s.memory.store → AreMade (serve g t b p k vs s).last.memory.store
  unfolding serve visits turn_made
  serve_made Empty p k vs s seen x = x
  serve_made (Node h a b) p k vs s seen x = go (step g t h a b p k vs s) (step_made h a b p k vs s seen.0 x) seen.1 (λ j ws n. serve_made a (first_place p h) j ws n) (λ j ws n. serve_made b (second_place p h a) j ws n)
    where
      go : (z : Turn) → turn_made z → AllByRecursion Seen (after_turn (λ r. []) (visits g t a (first_place p h)) (visits g t b (second_place p h a)) z)
          → ((j : ℕ) (ws : List ℕ) (n : Local) → AllByRecursion Seen (visits g t a (first_place p h) j ws n) → AreMade n.memory.store → AreMade (serve g t a (first_place p h) j ws n).last.memory.store)
          → ((j : ℕ) (ws : List ℕ) (n : Local) → AllByRecursion Seen (visits g t b (second_place p h a) j ws n) → AreMade n.memory.store → AreMade (serve g t b (second_place p h a) j ws n).last.memory.store)
          → AreMade (after_turn (λ r. r) (serve g t a (first_place p h)) (serve g t b (second_place p h a)) z).last.memory.store
      go (Ends r) y e ia ib = y
      go (First j ws n) y e ia ib = ia j ws n e y
      go (Second j ws n) y e ia ib = ib j ws n e y

  moved_made : (m : Mode) (st : State) (x : Move) → AllByRecursion Seen (visits_of_move g t st x) → AreMade st.memory.store → AreMade (moved g m t st x).memory.store
  unfolding moved visits_of_move
  moved_made m st (Calls c u vs) seen x = go (admitted g c u vs st.inputs) seen
    where
      go : (o : Option Taken) → AllByRecursion Seen (visits_of_call g t st vs o) → AreMade (called g t st vs o).memory.store
      go None e = x
      go (Some k) e = serve_made k.input.tree k.input.place 0 vs (begun st k.input) e x
  moved_made m st (Tests u) seen x = go (told m t st u)
    where
      go : (o : Option ℕ) → AreMade (tested_with st o).memory.store
      go None = x
      go (Some v) = x
  moved_made m st (Guesses b) seen x = x

  run_made : (m : Mode) (next : List Answer → Option Move) (l : ℕ) (st : State) → AllByRecursion Seen (run_visits g m next t l st) → AreMade st.memory.store → AreMade (run_from g m next t l st).memory.store
  unfolding run_from run_visits
  run_made m next zero st seen x = x
  run_made m next (suc l) st seen x = go (next_move next st) seen (λ y. run_made m next l (moved g m t st y))
    where
      go : (o : Option Move) → AllByRecursion Seen (by_move [] (λ y. visits_of_move g t st y ++ run_visits g m next t l (moved g m t st y)) o)
          → ((y : Move) → AllByRecursion Seen (run_visits g m next t l (moved g m t st y)) → AreMade (moved g m t st y).memory.store → AreMade (run_from g m next t l (moved g m t st y)).memory.store)
          → AreMade (by_move st (λ y. run_from g m next t l (moved g m t st y)) o).memory.store
      go None e ih = x
      go (Some y) e ih =
          let vs : List Visit = visits_of_move g t st y in
          let ws : List Visit = run_visits g m next t l (moved g m t st y) in
          ih y (AllByRecursion_right Seen vs ws e) (moved_made m st y (AllByRecursion_left Seen vs ws e) x)

pub assigned_at : (g : Setting) (m : Mode) (a : Adversary) (game : Tree) (t : Tape) (x : ℕ) (u : List ℕ) (k : ℕ) → (run g m a game t).memory.store x u ≡ Some k
    → (number : ℕ) × (v : Visit) × StandsAt (visits_of_run g m a game t) number v × (made_at v.tree (Variable x) ≡ true) × (tuple v.before.indices ≡ u)
unfolding run visits_of_run
assigned_at g m a game t x u k e =
    let r = run_made g t (λ v. (n : ℕ) × StandsAt (visits_of_run g m a game t) n v) m (a.next (coins_on t 0 a.coins)) a.moves (start g game) (all_stand (visits_of_run g m a game t)) (λ y w z e. absurd (cc)) x u k e in
    (r.1.0, r.0, r.1.1, r.2, r.3)
