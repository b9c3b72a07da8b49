-- The events at the end of a run are those that its visits execute.
use Rattle.std.proofs.Common.{◌≡◌, ℕ, zero, suc, List, [], ◌∷◌, ◌++◌, Option, Some, None, refl, sym, ap, ◌∙◌, append-nil, append_assoc}
use Rattle.cv_syntax_trees.specs.declared.head.Head.{Head}
use Rattle.cv_syntax_trees.specs.declared.head.Head.TheVariants.{In, Event, New, Let, If, Find, Branch, Cons, Key, Call}
use Rattle.cv_syntax_trees.specs.Tree.{Tree, Empty, Node, first_place, second_place}
use Rattle.cv_meaning.specs.Tapes.{Tape, Find_at}
use Rattle.cv_meaning.specs.Interpretation.{Setting}
use Rattle.cv_meaning.specs.Memory.{Happened, Local, tuple}
use Rattle.cv_meaning.specs.Candidates.{Candidate, candidates, chosen}
use Rattle.cv_meaning.specs.Serving.{Turn, Ends, First, Second, after_find, step, serve, after_turn, Visit, visits}
use Rattle.cv_meaning.specs.Runs.{Mode, Answer, Move, Calls, Tests, Guesses, State, Taken, admitted, called, told, tested_with, moved, run_from, begun, next_move, by_move, visits_of_call, visits_of_move, run_visits}
use Rattle.cv_query_laws.specs.correspondences.Happenings.{happening, happening_at, happenings}

happenings_append : (g : Setting) (vs ws : List Visit) → happenings g (vs ++ ws) ≡ happenings g vs ++ happenings g ws
happenings_append g [] ws = refl
happenings_append g (v ∷ vs) ws = ap (λ es. happening_at g v ++ es) (happenings_append g vs ws) ∙ sym (append_assoc (happening_at g v) (happenings g vs) (happenings g ws))

module _ (g : Setting) where
  -- the events after a turn
  Leaves : List Happened → Turn → Type 0
  Leaves es (Ends r) = r.last.memory.events ≡ es
  Leaves es (First k vs s) = s.memory.events ≡ es
  Leaves es (Second k vs s) = s.memory.events ≡ es

  step_leaves : (t : Tape) (h : Head) (a b : Tree) (p k : ℕ) (vs : List ℕ) (s : Local) → Leaves (s.memory.events ++ happening g (Node h a b) s) (step g t h a b p k vs s)
  unfolding step Leaves
  step_leaves t (Event e) a b p k vs s = refl
  step_leaves t (Find l) a b p k vs s = go (chosen (candidates g s.indices s.memory.store a) (t (Find_at l (tuple s.indices))))
    where
      go : (o : Option Candidate) → Leaves (s.memory.events ++ []) (after_find s o)
      go None = sym (append-nil s.memory.events)
      go (Some c) = sym (append-nil s.memory.events)
  step_leaves t Cons a b p zero vs s = sym (append-nil s.memory.events)
  step_leaves t Cons a b p (suc k) vs s = sym (append-nil s.memory.events)
  step_leaves t (In c) a b p k vs s = sym (append-nil s.memory.events)
  step_leaves t (New x T) a b p k vs s = sym (append-nil s.memory.events)
  step_leaves t (Let x T) a b p k vs s = sym (append-nil s.memory.events)
  step_leaves t If a b p k vs s = sym (append-nil s.memory.events)
  step_leaves t Branch a b p k vs s = sym (append-nil s.memory.events)
  step_leaves t (Key x) a b p k vs s = sym (append-nil s.memory.events)
  step_leaves t (Call x l) a b p k vs s = sym (append-nil s.memory.events)
  step_leaves t h a b p k vs s = sym (append-nil s.memory.events)

  more : (es fs ds ks : List Happened) → ks ≡ es ++ fs → ks ++ ds ≡ es ++ (fs ++ ds)
  more es fs ds ks e = ap (λ xs. xs ++ ds) e ∙ append_assoc es fs ds

  serve_happens : (t : Tape) (b : Tree) (p k : ℕ) (vs : List ℕ) (s : Local) → (serve g t b p k vs s).last.memory.events ≡ s.memory.events ++ happenings g (visits g t b p k vs s)
  unfolding serve visits Leaves
  serve_happens t Empty p k vs s = sym (append-nil s.memory.events)
  serve_happens t (Node h a b) p k vs s = go (step g t h a b p k vs s) (step_leaves t h a b p k vs s) (λ j ws n. serve_happens t a (first_place p h) j ws n) (λ j ws n. serve_happens t b (second_place p h a) j ws n)
    where
      go : (x : Turn) → Leaves (s.memory.events ++ happening g (Node h a b) s) x
          → ((j : ℕ) (ws : List ℕ) (n : Local) → (serve g t a (first_place p h) j ws n).last.memory.events ≡ n.memory.events ++ happenings g (visits g t a (first_place p h) j ws n))
          → ((j : ℕ) (ws : List ℕ) (n : Local) → (serve g t b (second_place p h a) j ws n).last.memory.events ≡ n.memory.events ++ happenings g (visits g t b (second_place p h a) j ws n))
          → (after_turn (λ r. r) (serve g t a (first_place p h)) (serve g t b (second_place p h a)) x).last.memory.events
          ≡ s.memory.events ++ (happening g (Node h a b) s ++ happenings g (after_turn (λ r. []) (visits g t a (first_place p h)) (visits g t b (second_place p h a)) x))
      go (Ends r) e f k = e ∙ ap (λ xs. s.memory.events ++ xs) (sym (append-nil (happening g (Node h a b) s)))
      go (First j ws n) e f k = f j ws n ∙ more s.memory.events (happening g (Node h a b) s) _ n.memory.events e
      go (Second j ws n) e f k = k j ws n ∙ more s.memory.events (happening g (Node h a b) s) _ n.memory.events e

  moved_happens : (m : Mode) (t : Tape) (st : State) (x : Move) → (moved g m t st x).memory.events ≡ st.memory.events ++ happenings g (visits_of_move g t st x)
  unfolding moved visits_of_move
  moved_happens m t st (Calls c u vs) = go (admitted g c u vs st.inputs)
    where
      go : (o : Option Taken) → (called g t st vs o).memory.events ≡ st.memory.events ++ happenings g (visits_of_call g t st vs o)
      go None = sym (append-nil st.memory.events)
      go (Some k) = serve_happens t k.input.tree k.input.place 0 vs (begun st k.input)
  moved_happens m t st (Tests u) = go (told m t st u)
    where
      go : (o : Option ℕ) → (tested_with st o).memory.events ≡ st.memory.events ++ []
      go None = sym (append-nil st.memory.events)
      go (Some v) = sym (append-nil st.memory.events)
  moved_happens m t st (Guesses b) = sym (append-nil st.memory.events)

  pub run_happens : (m : Mode) (next : List Answer → Option Move) (t : Tape) (n : ℕ) (st : State) → (run_from g m next t n st).memory.events ≡ st.memory.events ++ happenings g (run_visits g m next t n st)
  unfolding run_visits run_from
  run_happens m next t zero st = sym (append-nil st.memory.events)
  run_happens m next t (suc n) st = go (next_move next st) (λ x. run_happens m next t n (moved g m t st x))
    where
      go : (o : Option Move) → ((x : Move) → (run_from g m next t n (moved g m t st x)).memory.events ≡ (moved g m t st x).memory.events ++ happenings g (run_visits g m next t n (moved g m t st x)))
          → (by_move st (λ x. run_from g m next t n (moved g m t st x)) o).memory.events ≡ st.memory.events ++ happenings g (by_move [] (λ x. visits_of_move g t st x ++ run_visits g m next t n (moved g m t st x)) o)
      go None ih = sym (append-nil st.memory.events)
      go (Some x) ih =
          ih x ∙ more st.memory.events (happenings g (visits_of_move g t st x)) _ (moved g m t st x).memory.events (moved_happens m t st x)
          ∙ ap (λ xs. st.memory.events ++ xs) (sym (happenings_append g (visits_of_move g t st x) (run_visits g m next t n (moved g m t st x))))
