-- What is passed down from the root of a game holds at each visit, and of each available input.
use Rattle.std.proofs.Common.{◌≡◌, ℕ, zero, suc, ◌+◌, ◌-◌, ◌<◌, cond, List, [], ◌∷◌, ◌++◌, Option, Some, None, refl, ap, ap₂, ◌∙◌, arith, le-ltb, lt-ltb, nat_lt}
use Rattle.std.specs.List.{AllByRecursion}
use Rattle.cv_syntax_trees.specs.declared.head.Head.{Head}
use Rattle.cv_syntax_trees.specs.declared.head.Head.TheVariants.{Par, Repl, In, Out, Find, Cons}
use Rattle.cv_syntax_trees.specs.Head.{weight}
use Rattle.cv_syntax_trees.specs.Tree.{Tree, Empty, Node, size, subtree}
use Rattle.cv_meaning.specs.Tapes.{Tape, Find_at}
use Rattle.cv_meaning.specs.Interpretation.{Setting}
use Rattle.cv_meaning.specs.Memory.{Indices, tuple, Local}
use Rattle.cv_meaning.specs.Candidates.{Candidate, below, candidates, chosen}
use Rattle.cv_meaning.specs.Inputs.{inputs_of}
use Rattle.cv_meaning.specs.Serving.{Served, Turn, Ends, First, Second, after_find, step, serve, after_turn, Visit, visits}
use Rattle.cv_meaning.specs.Runs.{Mode, Adversary, Answer, Move, Calls, Tests, Guesses, State, Taken, admitted, called, told, tested_with, moved, run_from, begun, next_move, by_move, visits_of_call, visits_of_move, run_visits, start}
use Rattle.cv_meaning.specs.Experiments.{run, visits_of_run, coins_on}
use Rattle.cv_meaning_laws.proofs.Lists.{each_flat_map}
use Rattle.cv_meaning_laws.proofs.Moves.{TakenEach, admitted_each}
use Rattle.cv_meaning_runs.specs.Placed.{IsPassedDown, IsInputOn, InputHas, VisitHas, IsSubtree, IsSubtreeOrList}
use Rattle.cv_syntax_trees.proofs.lists.Each.{AllByRecursion_append, AllByRecursion_weaker}

module _ (P : ℕ → Tree → Type 0) (down : IsPassedDown P) where
  inputs_have : (g : Setting) (b : Tree) (p : ℕ) (at : Indices) → P p b → AllByRecursion (InputHas P) (inputs_of g b p at)
  unfolding inputs_of
  inputs_have g Empty p at x = tt
  inputs_have g (Node Par a b) p at x = AllByRecursion_append (InputHas P) (inputs_of g a _ at) _ (inputs_have g a _ at (down p Par a b x).0) (inputs_have g b _ at (down p Par a b x).1)
  inputs_have g (Node (Repl i n) a b) p at x = each_flat_map (InputHas P) _ (below (g.interpretation.parameter_value n)) (λ v. inputs_have g b _ (at ++ (i, v) ∷ []) (down p (Repl i n) a b x).1)
  inputs_have g (Node (In c) a b) p at x = ((refl, x), tt)
  inputs_have g (Node k a b) p at x = tt

  ends_have : Turn → Type 0
  ends_have (Ends r) = AllByRecursion (InputHas P) r.opened
  ends_have _ = Unit {0}

  step_has : (g : Setting) (t : Tape) (h : Head) (a b : Tree) (p k : ℕ) (vs : List ℕ) (s : Local) → P p (Node h a b) → ends_have (step g t h a b p k vs s)
  unfolding step ends_have
  step_has g t (Out c) a b p k vs s x = inputs_have g b _ s.indices (down p (Out c) a b x).1
  step_has g t Cons a b p zero vs s x = tt
  step_has g t Cons a b p (suc k) vs s x = tt
  step_has g t (Find l) a b p k vs s x = go (chosen (candidates g s.indices s.memory.store a) (t (Find_at l (tuple s.indices))))
    where
      go : (o : Option Candidate) → ends_have (after_find s o)
      go None = tt
      go (Some c) = tt
  step_has g t h a b p k vs s x = tt

  record Services (r : Served) (vs : List Visit) : Type 0 where
    opened : AllByRecursion (InputHas P) r.opened
    visited : AllByRecursion (VisitHas P) vs

  turn_has : (f h : ℕ → List ℕ → Local → Served) (v w : ℕ → List ℕ → Local → List Visit) → ((k : ℕ) (vs : List ℕ) (s : Local) → Services (f k vs s) (v k vs s)) → ((k : ℕ) (vs : List ℕ) (s : Local) → Services (h k vs s) (w k vs s)) → (x : Turn) → ends_have x → Services (after_turn (λ r. r) f h x) (after_turn (λ r. []) v w x)
  unfolding ends_have
  turn_has f h v w a b (Ends r) e = record { opened = e; visited = tt }
  turn_has f h v w a b (First k vs s) e = a k vs s
  turn_has f h v w a b (Second k vs s) e = b k vs s

  serve_has : (g : Setting) (t : Tape) (b : Tree) (p k : ℕ) (vs : List ℕ) (s : Local) → P p b → Services (serve g t b p k vs s) (visits g t b p k vs s)
  unfolding serve visits
  serve_has g t Empty p k vs s x = record { opened = tt; visited = tt }
  serve_has g t (Node h a b) p k vs s x =
      let d = down p h a b x in
      let r = turn_has _ _ _ _ (λ j ws n. serve_has g t a _ j ws n d.0) (λ j ws n. serve_has g t b _ j ws n d.1) _ (step_has g t h a b p k vs s x) in
      record { opened = r.opened; visited = (x, r.visited) }

  moved_has : (g : Setting) (m : Mode) (t : Tape) (st : State) (a : Move) → AllByRecursion (InputHas P) st.inputs → AllByRecursion (InputHas P) (moved g m t st a).inputs × AllByRecursion (VisitHas P) (visits_of_move g t st a)
  unfolding moved visits_of_move
  moved_has g m t st (Calls c u vs) x = go (admitted g c u vs st.inputs) (admitted_each (InputHas P) g c u vs st.inputs x)
    where
      go : (o : Option Taken) → ((k : Taken) → o ≡ Some k → TakenEach (InputHas P) k) → AllByRecursion (InputHas P) (called g t st vs o).inputs × AllByRecursion (VisitHas P) (visits_of_call g t st vs o)
      go None h = (x, tt)
      go (Some k) h =
          let r = serve_has g t k.input.tree k.input.place 0 vs (begun st k.input) (h k refl).input.1 in
          (AllByRecursion_append (InputHas P) k.others _ (h k refl).others r.opened, r.visited)
  moved_has g m t st (Tests u) x = (go (told m t st u), tt)
    where
      go : (o : Option ℕ) → AllByRecursion (InputHas P) (tested_with st o).inputs
      go None = x
      go (Some v) = x
  moved_has g m t st (Guesses b) x = (x, tt)

  run_has : (g : Setting) (m : Mode) (next : List Answer → Option Move) (t : Tape) (n : ℕ) (st : State) → AllByRecursion (InputHas P) st.inputs → AllByRecursion (InputHas P) (run_from g m next t n st).inputs × AllByRecursion (VisitHas P) (run_visits g m next t n st)
  unfolding run_from run_visits
  run_has g m next t zero st x = (x, tt)
  run_has g m next t (suc n) st x = go (next_move next st) (λ a. run_has g m next t n (moved g m t st a) (moved_has g m t st a x).0)
    where
      go : (o : Option Move) → ((a : Move) → AllByRecursion (InputHas P) (run_from g m next t n (moved g m t st a)).inputs × AllByRecursion (VisitHas P) (run_visits g m next t n (moved g m t st a)))
          → AllByRecursion (InputHas P) (by_move st (λ a. run_from g m next t n (moved g m t st a)) o).inputs × AllByRecursion (VisitHas P) (by_move [] (λ a. visits_of_move g t st a ++ run_visits g m next t n (moved g m t st a)) o)
      go None ih = (x, tt)
      go (Some a) ih = ((ih a).0, AllByRecursion_append (VisitHas P) (visits_of_move g t st a) _ (moved_has g m t st a x).1 (ih a).1)

  game_has : (g : Setting) (m : Mode) (a : Adversary) (game : Tree) (t : Tape) → P 0 game → AllByRecursion (InputHas P) (run g m a game t).inputs × AllByRecursion (VisitHas P) (visits_of_run g m a game t)
  unfolding run visits_of_run
  game_has g m a game t x = run_has g m (a.next (coins_on t 0 a.coins)) t a.moves (start g game) (inputs_have g game 0 [] x)

pub visits_have : (P : ℕ → Tree → Type 0) (g : Setting) (m : Mode) (a : Adversary) (game : Tree) (t : Tape) → IsPassedDown P → P 0 game → AllByRecursion (VisitHas P) (visits_of_run g m a game t)
visits_have P g m a game t down x = (game_has P down g m a game t x).1

pub available_have : (P : ℕ → Tree → Type 0) (g : Setting) (m : Mode) (a : Adversary) (game : Tree) (t : Tape) → IsPassedDown P → P 0 game → AllByRecursion (InputHas P) (run g m a game t).inputs
available_have P g m a game t down x = (game_has P down g m a game t x).0

-- the tree hangs in the game: its subtrees are those of the game at the places from its own on
Hangs : Tree → ℕ → Tree → Type 0
Hangs game p b = (q : ℕ) → q < size b → subtree game (p + q) ≡ subtree b q

hangs_down : (game : Tree) → IsPassedDown (Hangs game)
unfolding Hangs size subtree
hangs_down game p h a b x = (
  λ q l.
      ap (subtree game) (omega arith)
      ∙ x (weight h + q) (omega arith)
      ∙ ap₂ (λ v w. cond v (Some (Node h a b)) (cond w (subtree a (weight h + q - weight h)) (subtree b (weight h + q - (weight h + size a))))) (le-ltb (weight h + q) (weight h) (omega arith)) (lt-ltb (weight h + q) (weight h + size a) (omega arith))
      ∙ ap (subtree a) (omega arith),
  λ q l.
      ap (subtree game) (omega arith)
      ∙ x (weight h + size a + q) (omega arith)
      ∙ ap₂ (λ v w. cond v (Some (Node h a b)) (cond w (subtree a (weight h + size a + q - weight h)) (subtree b (weight h + size a + q - (weight h + size a))))) (le-ltb (weight h + size a + q) (weight h) (omega arith)) (le-ltb (weight h + size a + q) (weight h + size a) (omega arith))
      ∙ ap (subtree b) (omega arith),
)

hangs_root : (game : Tree) → Hangs game 0 game
unfolding Hangs
hangs_root game q l = ap (subtree game) (omega arith)

subtree_at : (game : Tree) (p : ℕ) (b : Tree) → Hangs game p b → IsSubtreeOrList game p b
unfolding Hangs size subtree
subtree_at game p Empty x s = absurd s
subtree_at game p (Node h a b) x s =
    ap (subtree game) (omega arith) ∙ x 0 (omega arith)
    ∙ ap (λ v. cond v (Some (Node h a b)) (cond (nat_lt 0 (weight h + size a)) (subtree a (0 - weight h)) (subtree b (0 - (weight h + size a))))) (lt-ltb 0 (weight h) (omega arith))

pub visits_subtrees : (g : Setting) (m : Mode) (a : Adversary) (game : Tree) (t : Tape) → AllByRecursion (VisitHas (IsSubtreeOrList game)) (visits_of_run g m a game t)
visits_subtrees g m a game t =
    AllByRecursion_weaker (VisitHas (Hangs game)) (VisitHas (IsSubtreeOrList game)) (λ v x. subtree_at game v.place v.tree x) _
    (visits_have (Hangs game) g m a game t (hangs_down game) (hangs_root game))

input_subtree : (game : Tree) (c p : ℕ) (b : Tree) → IsInputOn c b → Hangs game p b → IsSubtree game p b
input_subtree game c p (Node (In d) a b) i x = subtree_at game p (Node (In d) a b) x refl
input_subtree game c p b i x = absurd i

pub inputs_subtrees : (g : Setting) (m : Mode) (a : Adversary) (game : Tree) (t : Tape) → AllByRecursion (InputHas (IsSubtree game)) (run g m a game t).inputs
inputs_subtrees g m a game t =
    AllByRecursion_weaker (InputHas (Hangs game)) (InputHas (IsSubtree game)) (λ i x. (x.0, input_subtree game i.channel i.place i.tree x.0 x.1)) _
    (available_have (Hangs game) g m a game t (hangs_down game) (hangs_root game))
