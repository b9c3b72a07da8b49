-- Each cell that is assigned in a run was assigned by a construct of it.
use Rattle.std.proofs.Common.{◌≡◌, ℕ, zero, suc, true, List, [], ◌++◌, ◌⊎◌, inl, inr, Option, Some, None, sym}
use Rattle.std.specs.List.{AllByRecursion}
use Rattle.cv_syntax_trees.specs.declared.head.Head.{Head}
use Rattle.cv_syntax_trees.specs.declared.head.Head.TheVariants.{In, Event, New, Let, If, Find, Branch, Cons, Key, Call}
use Rattle.cv_syntax_trees.specs.Tree.{Tree, Empty, Node, first_place, second, second_place}
use Rattle.cv_meaning.specs.Tapes.{Tape, Find_at}
use Rattle.cv_meaning.specs.Interpretation.{Setting}
use Rattle.cv_meaning.specs.Memory.{Local, tuple}
use Rattle.cv_meaning.specs.Candidates.{Candidate, candidates, chosen}
use Rattle.cv_meaning.specs.Serving.{Turn, Ends, First, Second, Visit, after_find, after_turn, serve, step, visits}
use Rattle.cv_meaning.specs.Runs.{Adversary, Mode, Answer, Move, Calls, Tests, Guesses, State, Taken, admitted, begun, by_move, called, moved, next_move, run_from, run_visits, start, tested_with, told, visits_of_call, visits_of_move}
use Rattle.cv_meaning.specs.Experiments.{coins_on, run, visits_of_run}
use Rattle.cv_scope_rules.specs.Made.{made_by}
use Rattle.cv_scope_rules.specs.Sites.{Variable}
use Rattle.cv_scope_runs.proofs.FreshRuns.{bound_made, put_made}
use Rattle.cv_syntax_trees.proofs.lists.Each.{AllByRecursion_left, AllByRecursion_right}

module _ (g : Setting) (t : Tape) (V : Visit → Type 0) where
  -- a construct that assigns the cell, where it and all that its service goes on to is such a visit
  pub record IsMade (y : ℕ) (u : List ℕ) : Type 0 where
    pub head : Head
    pub one : Tree
    pub two : Tree
    pub place : ℕ
    pub number : ℕ
    pub bound : List ℕ
    pub before : Local
    pub makes : made_by head one (Variable y) ≡ true
    pub at : tuple before.indices ≡ u
    pub visited : AllByRecursion V (visits g t (Node head one two) place number bound before)

  abbrev left_by : Turn → Local
  left_by (Ends r) = r.last
  left_by (First k vs s) = s
  left_by (Second k vs s) = s

  -- one cell, with the value that it gets
  module _ (y : ℕ) (u : List ℕ) (z : ℕ) where
    abbrev There : Local → Type 0
    There s = s.memory.store y u ≡ Some z

    step_makes : (h : Head) (a b : Tree) (p k : ℕ) (vs : List ℕ) (s : Local) → There (left_by (step g t h a b p k vs s)) → There s ⊎ ((made_by h a (Variable y) ≡ true) × (u ≡ tuple s.indices))
    unfolding step
    step_makes (In c) a b p k vs s e = bound_made s.memory.store (tuple s.indices) (second a) vs y u z e
    step_makes Branch a b p k vs s e = bound_made s.memory.store (tuple s.indices) a vs y u z e
    step_makes (New x T) a b p k vs s e = put_made s.memory.store x (tuple s.indices) _ y u z e
    step_makes (Let x T) a b p k vs s e = put_made s.memory.store x (tuple s.indices) _ y u z e
    step_makes (Key x) a b p k vs s e = put_made s.memory.store x (tuple s.indices) _ y u z e
    step_makes (Call x l) a b p k vs s e = put_made s.memory.store x (tuple s.indices) _ y u z e
    step_makes (Find l) a b p k vs s e = go (chosen (candidates g s.indices s.memory.store a) (t (Find_at l (tuple s.indices)))) e
      where
        go : (o : Option Candidate) → There (left_by (after_find s o)) → There s ⊎ ((made_by (Find l) a (Variable y) ≡ true) × (u ≡ tuple s.indices))
        go None e = inl e
        go (Some c) e = inl e
    step_makes Cons a b p zero vs s e = inl e
    step_makes Cons a b p (suc k) vs s e = inl e
    step_makes (Event x) a b p k vs s e = inl e
    step_makes If a b p k vs s e = inl e
    step_makes h a b p k vs s e = inl e

    serve_makes : (b : Tree) (p k : ℕ) (vs : List ℕ) (s : Local) → AllByRecursion V (visits g t b p k vs s) → There (serve g t b p k vs s).last → There s ⊎ IsMade y u
    unfolding serve visits
    serve_makes Empty p k vs s w e = inl e
    serve_makes (Node h a b) p k vs s w e =
        go (step g t h a b p k vs s) (λ f. here (step_makes h a b p k vs s f)) (λ j ws n. serve_makes a (first_place p h) j ws n) (λ j ws n. serve_makes b (second_place p h a) j ws n) w.1 e
      where
        here : There s ⊎ ((made_by h a (Variable y) ≡ true) × (u ≡ tuple s.indices)) → There s ⊎ IsMade y u
        here (inl i) = inl i
        here (inr i) = inr (record { head = h; one = a; two = b; place = p; number = k; bound = vs; before = s; makes = i.0; at = sym i.1; visited = w })

        before : (n : Local) → (There n → There s ⊎ IsMade y u) → There n ⊎ IsMade y u → There s ⊎ IsMade y u
        before n f (inl i) = f i
        before n f (inr i) = inr i

        go : (x : Turn) → (There (left_by x) → There s ⊎ IsMade y u)
            → ((j : ℕ) (ws : List ℕ) (n : Local) → AllByRecursion V (visits g t a (first_place p h) j ws n) → There (serve g t a (first_place p h) j ws n).last → There n ⊎ IsMade y u)
            → ((j : ℕ) (ws : List ℕ) (n : Local) → AllByRecursion V (visits g t b (second_place p h a) j ws n) → There (serve g t b (second_place p h a) j ws n).last → There n ⊎ IsMade y u)
            → AllByRecursion V (after_turn (λ r. []) (visits g t a (first_place p h)) (visits g t b (second_place p h a)) x)
            → There (after_turn (λ r. r) (serve g t a (first_place p h)) (serve g t b (second_place p h a)) x).last → There s ⊎ IsMade y u
        go (Ends r) f ia ib v e = f e
        go (First j ws n) f ia ib v e = before n f (ia j ws n v e)
        go (Second j ws n) f ia ib v e = before n f (ib j ws n v e)

    -- moves

    abbrev ThereIn : State → Type 0
    ThereIn st = st.memory.store y u ≡ Some z

    move_makes : (m : Mode) (st : State) (x : Move) → AllByRecursion V (visits_of_move g t st x) → ThereIn (moved g m t st x) → ThereIn st ⊎ IsMade y u
    unfolding visits_of_move moved
    move_makes m st (Calls c l vs) w e = go (admitted g c l vs st.inputs) w e
      where
        go : (o : Option Taken) → AllByRecursion V (visits_of_call g t st vs o) → ThereIn (called g t st vs o) → ThereIn st ⊎ IsMade y u
        go None w e = inl e
        go (Some k) w e = serve_makes k.input.tree k.input.place 0 vs (begun st k.input) w e
    move_makes m st (Tests l) w e = go (told m t st l) e
      where
        go : (o : Option ℕ) → ThereIn (tested_with st o) → ThereIn st ⊎ IsMade y u
        go None e = inl e
        go (Some v) e = inl e
    move_makes m st (Guesses b) w e = inl e

    run_makes : (m : Mode) (next : List Answer → Option Move) (n : ℕ) (st : State) → AllByRecursion V (run_visits g m next t n st) → ThereIn (run_from g m next t n st) → ThereIn st ⊎ IsMade y u
    unfolding run_visits run_from
    run_makes m next zero st w e = inl e
    run_makes m next (suc n) st w e = go (next_move next st) (λ x. run_makes m next n (moved g m t st x)) w e
      where
        before : (x : Move) → AllByRecursion V (visits_of_move g t st x) → ThereIn (moved g m t st x) ⊎ IsMade y u → ThereIn st ⊎ IsMade y u
        before x v (inl i) = move_makes m st x v i
        before x v (inr i) = inr i

        go : (o : Option Move) → ((x : Move) → AllByRecursion V (run_visits g m next t n (moved g m t st x)) → ThereIn (run_from g m next t n (moved g m t st x)) → ThereIn (moved g m t st x) ⊎ IsMade y u)
            → AllByRecursion V (by_move [] (λ x. visits_of_move g t st x ++ run_visits g m next t n (moved g m t st x)) o) → ThereIn (by_move st (λ x. run_from g m next t n (moved g m t st x)) o) → ThereIn st ⊎ IsMade y u
        go None ih w e = inl e
        go (Some x) ih w e =
            before x (AllByRecursion_left V (visits_of_move g t st x) (run_visits g m next t n (moved g m t st x)) w)
            (ih x (AllByRecursion_right V (visits_of_move g t st x) (run_visits g m next t n (moved g m t st x)) w) e)

    -- by the end of a run, whose visits are such ones
    pub run_assigns : (m : Mode) (a : Adversary) (game : Tree) → AllByRecursion V (visits_of_run g m a game t) → ThereIn (run g m a game t) → IsMade y u
    unfolding visits_of_run run
    run_assigns m a game w e = go (run_makes m (a.next (coins_on t 0 a.coins)) a.moves (start g game) w e)
      where
        go : ThereIn (start g game) ⊎ IsMade y u → IsMade y u
        go (inl i) = absurd (cc)
        go (inr i) = i
