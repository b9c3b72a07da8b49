-- So it is at each visit of a run: each available copy is of an input, where another body begins.
use Rattle.std.proofs.Common.{◌≡◌, ℕ, zero, suc, Bool, true, false, List, [], ◌∷◌, ◌++◌, Option, Some, None, refl}
use Rattle.std.proofs.lemmas.Bool.{both_ways}
use Rattle.std.specs.List.{AllByRecursion}
use Rattle.cv_syntax_trees.specs.declared.head.Head.{Head}
use Rattle.cv_syntax_trees.specs.declared.head.Head.TheVariants.{Par, Repl, In, Out, Find, Cons}
use Rattle.cv_syntax_trees.specs.Tree.{Tree, Empty, Node, first_place, second_place}
use Rattle.cv_meaning.specs.Tapes.{Tape, Find_at}
use Rattle.cv_meaning.specs.Interpretation.{Setting}
use Rattle.cv_meaning.specs.Memory.{Indices, Local, tuple}
use Rattle.cv_meaning.specs.Candidates.{Candidate, below, candidates, chosen}
use Rattle.cv_meaning.specs.Inputs.{Input, inputs_of}
use Rattle.cv_meaning.specs.Serving.{Served, Turn, Ends, First, Second, after_find, after_turn, serve, step, Visit, visits}
use Rattle.cv_meaning.specs.Runs.{Mode, Answer, Move, Calls, Tests, Guesses, State, Taken, admitted, begun, by_move, called, moved, next_move, run_visits, start, tested_with, told, visits_of_call, visits_of_move}
use Rattle.cv_meaning_laws.proofs.Lists.{each_flat_map}
use Rattle.cv_meaning_laws.proofs.Moves.{TakenEach, admitted_each}
use Rattle.cv_scope_rules.specs.Branches.{Pairs}
use Rattle.cv_scope_rules.specs.Context.{Context, known_at}
use Rattle.cv_scope_rules.specs.Phrases.{Term, is_oracle_phrase}
use Rattle.cv_scope_runs.specs.Promises.{VisitsGrow}
use Rattle.cv_scope_runs.proofs.Contexts.{game_names}
use Rattle.cv_scope_runs.proofs.Games.{Game}
use Rattle.cv_scope_runs.proofs.ServeRuns.{VisitHolds}
use Rattle.cv_rule_fresh.specs.collisions.Choices.{Choice}
use Rattle.cv_costs.specs.names.Reach.{is_in_scope}
use Rattle.cv_rule_fresh.proofs.Missed.{DrawsAnother, MissesThere, is_inner, serve_misses}
use Rattle.cv_scope_runs.proofs.FreshRuns.{pairwise_left, pairwise_right}
use Rattle.cv_syntax_trees.proofs.lists.Each.{AllByRecursion_append, AllByRecursion_left, AllByRecursion_right}

-- copies of inputs

abbrev IsOuter : Input → Type 0
IsOuter i = is_inner i.tree ≡ false

inputs_outer : (g : Setting) (b : Tree) (p : ℕ) (at : Indices) → AllByRecursion IsOuter (inputs_of g b p at)
unfolding inputs_of
inputs_outer g Empty p at = tt
inputs_outer g (Node Par a b) p at = AllByRecursion_append IsOuter (inputs_of g a (first_place p Par) at) _ (inputs_outer g a (first_place p Par) at) (inputs_outer g b (second_place p Par a) at)
inputs_outer g (Node (Repl i n) a b) p at = each_flat_map IsOuter _ (below (g.interpretation.parameter_value n)) (λ v. inputs_outer g b (second_place p (Repl i n) a) (at ++ (i, v) ∷ []))
inputs_outer g (Node (In c) a b) p at = (refl, tt)
inputs_outer g (Node h a b) p at = tt

Opens : Turn → Type 0
Opens (Ends r) = AllByRecursion IsOuter r.opened
Opens o = Unit {0}

step_opens : (g : Setting) (t : Tape) (h : Head) (a b : Tree) (p k : ℕ) (vs : List ℕ) (s : Local) → Opens (step g t h a b p k vs s)
unfolding step Opens
step_opens g t (Out c) a b p k vs s = inputs_outer g b (second_place p (Out c) a) s.indices
step_opens g t Cons a b p zero vs s = tt
step_opens g t Cons a b p (suc k) vs s = tt
step_opens g t (Find l) a b p k vs s = go (chosen (candidates g s.indices s.memory.store a) (t (Find_at l (tuple s.indices))))
  where
    go : (o : Option Candidate) → Opens (after_find s o)
    go None = tt
    go (Some c) = tt
step_opens g t h a b p k vs s = tt

turn_opens : (f h : ℕ → List ℕ → Local → Served) → ((k : ℕ) (vs : List ℕ) (s : Local) → AllByRecursion IsOuter (f k vs s).opened) → ((k : ℕ) (vs : List ℕ) (s : Local) → AllByRecursion IsOuter (h k vs s).opened)
    → (o : Turn) → Opens o → AllByRecursion IsOuter (after_turn (λ r. r) f h o).opened
unfolding Opens
turn_opens f h x y (Ends r) e = e
turn_opens f h x y (First k vs s) e = x k vs s
turn_opens f h x y (Second k vs s) e = y k vs s

serve_opens : (g : Setting) (t : Tape) (b : Tree) (p k : ℕ) (vs : List ℕ) (s : Local) → AllByRecursion IsOuter (serve g t b p k vs s).opened
unfolding serve
serve_opens g t Empty p k vs s = tt
serve_opens g t (Node h a b) p k vs s =
    turn_opens (serve g t a (first_place p h)) (serve g t b (second_place p h a)) (λ j us n. serve_opens g t a (first_place p h) j us n) (λ j us n. serve_opens g t b (second_place p h a) j us n) _ (step_opens g t h a b p k vs s)

moved_outer : (g : Setting) (m : Mode) (t : Tape) (st : State) (a : Move) → AllByRecursion IsOuter st.inputs → AllByRecursion IsOuter (moved g m t st a).inputs
unfolding moved
moved_outer g m t st (Calls c u vs) x = go (admitted g c u vs st.inputs) (admitted_each IsOuter g c u vs st.inputs x)
  where
    go : (o : Option Taken) → ((k : Taken) → o ≡ Some k → TakenEach IsOuter k) → AllByRecursion IsOuter (called g t st vs o).inputs
    go None h = x
    go (Some k) h = AllByRecursion_append IsOuter k.others _ (h k refl).others (serve_opens g t k.input.tree k.input.place 0 vs (begun st k.input))
moved_outer g m t st (Tests u) x = go (told m t st u)
  where
    go : (o : Option ℕ) → AllByRecursion IsOuter (tested_with st o).inputs
    go None = x
    go (Some v) = x
moved_outer g m t st (Guesses b) x = x

module _ (g : Setting) (variable : ℕ → Bool) (game : Tree) (fine : Game g variable game) (x : ℕ) (c : Choice) (other : Tree) (t : Tape) (whole : is_oracle_phrase Term other ≡ true)
    (scope : (Γ : Context) → known_at game c.place ≡ Some Γ → is_in_scope (game_names g variable) Γ other ≡ true) where
  abbrev Holds : Visit → Type 0
  Holds v = VisitHolds g variable game fine v

  abbrev Draws : Visit → Type 0
  Draws v = DrawsAnother g x c other t v

  abbrev Misses : Visit → Type 0
  Misses v = MissesThere g variable game x c other v

  service_misses : (b : Tree) (p : ℕ) (vs : List ℕ) (s : Local) → is_inner b ≡ false → AllByRecursion Holds (visits g t b p 0 vs s) → Pairs VisitsGrow (visits g t b p 0 vs s) → AllByRecursion Draws (visits g t b p 0 vs s) → AllByRecursion Misses (visits g t b p 0 vs s)
  unfolding visits
  service_misses Empty p vs s i h o w = tt
  service_misses (Node h a b) p vs s i hs os ws = serve_misses g variable game fine x c other t whole scope (Node h a b) p 0 vs s hs.0.stands (λ j. absurd (both_ways _ i j)) hs os ws

  move_misses : (st : State) (a : Move) → AllByRecursion IsOuter st.inputs → AllByRecursion Holds (visits_of_move g t st a) → Pairs VisitsGrow (visits_of_move g t st a) → AllByRecursion Draws (visits_of_move g t st a) → AllByRecursion Misses (visits_of_move g t st a)
  unfolding visits_of_move
  move_misses st (Calls d u vs) i h o w = go (admitted g d u vs st.inputs) (admitted_each IsOuter g d u vs st.inputs i) h o w
    where
      go : (k : Option Taken) → ((j : Taken) → k ≡ Some j → TakenEach IsOuter j) → AllByRecursion Holds (visits_of_call g t st vs k) → Pairs VisitsGrow (visits_of_call g t st vs k) → AllByRecursion Draws (visits_of_call g t st vs k) → AllByRecursion Misses (visits_of_call g t st vs k)
      go None e h o w = tt
      go (Some k) e h o w = service_misses k.input.tree k.input.place vs (begun st k.input) (e k refl).input h o w
  move_misses st (Tests u) i h o w = tt
  move_misses st (Guesses b) i h o w = tt

  run_misses : (m : Mode) (next : List Answer → Option Move) (n : ℕ) (st : State) → AllByRecursion IsOuter st.inputs → AllByRecursion Holds (run_visits g m next t n st) → Pairs VisitsGrow (run_visits g m next t n st) → AllByRecursion Draws (run_visits g m next t n st) → AllByRecursion Misses (run_visits g m next t n st)
  unfolding run_visits
  run_misses m next zero st i h o w = tt
  run_misses m next (suc n) st i h o w = go (next_move next st) (λ a. run_misses m next n (moved g m t st a) (moved_outer g m t st a i)) h o w
    where
      all : Option Move → List Visit
      all k = by_move [] (λ a. visits_of_move g t st a ++ run_visits g m next t n (moved g m t st a)) k

      go : (k : Option Move)
          → ((a : Move) → AllByRecursion Holds (run_visits g m next t n (moved g m t st a)) → Pairs VisitsGrow (run_visits g m next t n (moved g m t st a)) → AllByRecursion Draws (run_visits g m next t n (moved g m t st a)) → AllByRecursion Misses (run_visits g m next t n (moved g m t st a)))
          → AllByRecursion Holds (all k) → Pairs VisitsGrow (all k) → AllByRecursion Draws (all k) → AllByRecursion Misses (all k)
      go None ih h o w = tt
      go (Some a) ih h o w =
          let vs : List Visit = visits_of_move g t st a in
          let ws : List Visit = run_visits g m next t n (moved g m t st a) in
          AllByRecursion_append Misses vs ws (move_misses st a i (AllByRecursion_left Holds vs ws h) (pairwise_left VisitsGrow vs ws o) (AllByRecursion_left Draws vs ws w)) (ih a (AllByRecursion_right Holds vs ws h) (pairwise_right VisitsGrow vs ws o) (AllByRecursion_right Draws vs ws w))

  pub game_misses : (m : Mode) (next : List Answer → Option Move) (n : ℕ) → AllByRecursion Holds (run_visits g m next t n (start g game)) → Pairs VisitsGrow (run_visits g m next t n (start g game)) → AllByRecursion Draws (run_visits g m next t n (start g game))
      → AllByRecursion Misses (run_visits g m next t n (start g game))
  game_misses m next n = run_misses m next n (start g game) (inputs_outer g game 0 [])
