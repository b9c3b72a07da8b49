-- Each cell that a run consults is in the list of cells: coins, cells of services, and cells of tests.
use Rattle.std.proofs.Common.{◌≡◌, ℕ, suc, Bool, true, false, cond, ◌&&◌, ◌||◌, is_some, List, [], ◌∷◌, ◌++◌, flat_map, inl, inr, refl, sym, subst}
use Rattle.std.proofs.lemmas.Bool.{both_ways, and_parts}
use Rattle.std.specs.List.{AllByRecursion}
use Rattle.cv_syntax_trees.specs.declared.head.Head.{Head}
use Rattle.cv_syntax_trees.specs.declared.head.Head.TheVariants.{New, Find, Call}
use Rattle.cv_syntax_trees.specs.Tree.{Tree, Empty, Node}
use Rattle.cv_meaning.specs.Tapes.{Cell, Tape, Test_at, same_cell, is_in, cells_of}
use Rattle.cv_meaning.specs.Interpretation.{Setting}
use Rattle.cv_meaning.specs.Memory.{Local}
use Rattle.cv_meaning.specs.Serving.{Visit}
use Rattle.cv_meaning.specs.Cells.{at_each_copy, cells_at, test_cells_at, test_cells, coin_cells, cells}
use Rattle.cv_meaning.specs.Experiments.{coins_on}
use Rattle.cv_meaning.specs.Consulted.{consulted_by, consulted_at, consulted, is_key, IsListed}
use Rattle.cv_meaning_laws.proofs.Counts.{same_cell_exact}
use Rattle.cv_meaning_laws.proofs.Listed.{Has, has_left, has_right, is_in_without_repeats, consulted_listed}
use Rattle.cv_meaning.specs.Runs.{Mode, Events, Real, Random, Adversary, State, start}
use Rattle.cv_meaning_runs.specs.Moments.{Moment, Visited, Tested, cells_of_test, cells_of_moment, moments_of_run, visits_among, cells_of_run}
use Rattle.cv_meaning_runs.specs.Listed.{IsTestable, AreKeysListed, head_is_no_call, has_no_calls}
use Rattle.cv_meaning_runs.specs.Placed.{IsPassedDown}
use Rattle.cv_meaning_runs.proofs.Placed.{visits_have}
use Rattle.cv_meaning_runs.specs.Agreement.{AgreeAt, IsLocal, SameRun}
use Rattle.cv_meaning_runs.proofs.Together.{visits_among_moments, consulted_same}
use Rattle.cv_meaning_runs.proofs.Tested.{Sized, nothing_assigned, inputs_tested, IsCellListed, AreTestsListed, run_listed}
use Rattle.cv_syntax_trees.proofs.lists.Each.{AllByRecursion_append, AllByRecursion_weaker, AllByRecursion_left, AllByRecursion_right}

has_listed : (g : Setting) (m : Mode) (a : Adversary) (game : Tree) (c : Cell) (n : ℕ) → Has (at_each_copy g (cells_at g) [] game ++ (test_cells g m game ++ coin_cells 0 a.coins)) (c, n) → IsListed (cells g m a game) c
unfolding cells
has_listed g m a game c n h k = is_in_without_repeats (at_each_copy g (cells_at g) [] game ++ (test_cells g m game ++ coin_cells 0 a.coins)) (c, n) h

-- the cells of tests alone
abbrev test_cells_of : Mode → Moment → List Cell
test_cells_of m (Visited v) = []
test_cells_of m (Tested u st) = cells_of_test m st u

abbrev AreListed : Setting → Mode → Adversary → Tree → (Moment → List Cell) → List Moment → Type 0
AreListed g m a game f xs = AllByRecursion (λ y. AllByRecursion (IsListed (cells g m a game)) (f y)) xs

none_listed : (g : Setting) (m n : Mode) (a : Adversary) (game : Tree) → ((st : State) (u : List ℕ) → cells_of_test n st u ≡ []) → (xs : List Moment) → AreListed g m a game (test_cells_of n) xs
none_listed g m n a game h [] = tt
none_listed g m n a game h (Visited v ∷ xs) = (tt, none_listed g m n a game h xs)
none_listed g m n a game h (Tested u st ∷ xs) = (subst (AllByRecursion (IsListed (cells g m a game))) (sym (h st u)) tt, none_listed g m n a game h xs)

tests_listed : (g : Setting) (m : Mode) (a : Adversary) (game : Tree) (t : Tape) → IsTestable m game → AreListed g m a game (test_cells_of m) (moments_of_run g m a game t)
unfolding moments_of_run
tests_listed g Events a game t h = none_listed g Events Events a game (λ st u. refl) _
tests_listed g (Real one x) a game t h = none_listed g (Real one x) (Real one x) a game (λ st u. refl) _
tests_listed g (Random one x) a game t h =
    AllByRecursion_weaker (AreTestsListed g x own (Random one x)) (λ y. AllByRecursion (IsListed (cells g (Random one x) a game)) (test_cells_of (Random one x) y)) each _
    (run_listed g x own one (a.next (coins_on t 0 a.coins)) t a.moves (start g game) (record { inputs = inputs_tested g x own game 0 [] [] tt (λ d e. e) h; assigned = nothing_assigned g x own }))
  where
    own : List Sized
    own = at_each_copy g (test_cells_at g x) [] game

    each : (y : Moment) → AreTestsListed g x own (Random one x) y → AllByRecursion (IsListed (cells g (Random one x) a game)) (test_cells_of (Random one x) y)
    each (Visited v) e = tt
    each (Tested u st) e = AllByRecursion_weaker (IsCellListed g x own) (IsListed (cells g (Random one x) a game)) (λ c e. has_listed g (Random one x) a game c e.0 (has_right (at_each_copy g (cells_at g) [] game) _ (c, e.0) (has_left own (coin_cells 0 a.coins) (c, e.0) e.1))) (cells_of_test (Random one x) st u) e

coins_have : (k : ℕ) (ns : List ℕ) → AllByRecursion (λ c. (n : ℕ) × Has (coin_cells k ns) (c, n)) (cells_of (coin_cells k ns))
coins_have k [] = tt
coins_have k (n ∷ ns) = ((n, inl refl), AllByRecursion_weaker (λ c. (n : ℕ) × Has (coin_cells (suc k) ns) (c, n)) _ (λ c e. (e.0, inr e.1)) _ (coins_have (suc k) ns))

moments_listed : (g : Setting) (m : Mode) (a : Adversary) (game : Tree) (xs : List Moment) → AreListed g m a game (test_cells_of m) xs → AllByRecursion (IsListed (cells g m a game)) (consulted g (visits_among xs)) → AllByRecursion (IsListed (cells g m a game)) (flat_map (cells_of_moment g m) xs)
unfolding consulted
moments_listed g m a game [] e f = tt
moments_listed g m a game (Visited v ∷ xs) e f =
    let P = IsListed (cells g m a game) in
    AllByRecursion_append P (consulted_at g v.tree v.before) _ (AllByRecursion_left P (consulted_at g v.tree v.before) _ f) (moments_listed g m a game xs e.1 (AllByRecursion_right P (consulted_at g v.tree v.before) _ f))
moments_listed g m a game (Tested u st ∷ xs) e f = AllByRecursion_append (IsListed (cells g m a game)) (cells_of_test m st u) _ e.0 (moments_listed g m a game xs e.1 f)

pub cells_listed : (g : Setting) (m : Mode) (a : Adversary) (game : Tree) (t : Tape) → IsTestable m game → AllByRecursion (IsListed (cells g m a game)) (cells_of_run g m a game t)
cells_listed g m a game t h =
    AllByRecursion_append (IsListed (cells g m a game)) (cells_of (coin_cells 0 a.coins)) _
    (AllByRecursion_weaker (λ c. (n : ℕ) × Has (coin_cells 0 a.coins) (c, n)) (IsListed (cells g m a game)) (λ c e. has_listed g m a game c e.0 (has_right (at_each_copy g (cells_at g) [] game) _ (c, e.0) (has_right (test_cells g m game) (coin_cells 0 a.coins) (c, e.0) e.1))) _ (coins_have 0 a.coins))
    (moments_listed g m a game (moments_of_run g m a game t) (tests_listed g m a game t h) (subst (λ vs. AllByRecursion (IsListed (cells g m a game)) (consulted g vs)) (sym (visits_among_moments g m a game t)) (consulted_listed g m a game t)))

-- tapes that agree on the list

agree_in : (t u : Tape) (cs : List Sized) → AgreeAt (cells_of cs) t u → (c : Cell) → is_in cs c ≡ true → t c ≡ u c
agree_in t u [] h c e = absurd (both_ways _ refl e)
agree_in t u (d ∷ cs) h c e = go (same_cell d.0 c) refl (agree_in t u cs h.1 c) e
  where
    go : (b : Bool) → same_cell d.0 c ≡ b → (is_in cs c ≡ true → t c ≡ u c) → (b || is_in cs c) ≡ true → t c ≡ u c
    go true q ih k = subst (λ z. t z ≡ u z) (same_cell_exact d.0 c q) h.0
    go false q ih k = ih k

is_in_list : (cs : List Sized) (c : Cell) → IsListed cs c → (is_key c ≡ true → is_in cs c ≡ true) → is_in cs c ≡ true
is_in_list cs c h k = go (is_key c) refl
  where
    go : (b : Bool) → is_key c ≡ b → is_in cs c ≡ true
    go true e = k e
    go false e = h e

all_agree : (t u : Tape) (ls : List Sized) → AgreeAt (cells_of ls) t u → (cs : List Cell) → AllByRecursion (IsListed ls) cs → AllByRecursion (λ c. is_key c ≡ true → is_in ls c ≡ true) cs → AgreeAt cs t u
all_agree t u ls h [] e k = tt
all_agree t u ls h (c ∷ cs) e k = (agree_in t u ls h c (is_in_list ls c e.0 k.0), all_agree t u ls h cs e.1 k.1)

pub listed_same : (g : Setting) (m : Mode) (a : Adversary) (game : Tree) (t u : Tape) → IsLocal g.side → IsTestable m game → AreKeysListed g m a game t → AgreeAt (cells_of (cells g m a game)) t u → SameRun g m a game t u
listed_same g m a game t u l h k e = consulted_same g m a game t u l (all_agree t u (cells g m a game) e (cells_of_run g m a game t) (cells_listed g m a game t h) k)

-- a game without calls consults no key

no_key : Cell → Type 0
no_key c = is_key c ≡ false

consulted_no_key : (g : Setting) (h : Head) (a b : Tree) (s : Local) → has_no_calls (Node h a b) ≡ true → AllByRecursion no_key (consulted_by g h a s)
unfolding no_key
consulted_no_key g (New x T) a b s e = (refl, tt)
consulted_no_key g (Find l) a b s e = (refl, tt)
consulted_no_key g (Call x l) a b s e = absurd (both_ways _ refl e)
consulted_no_key g h a b s e = tt

visit_no_key : (g : Setting) (v : Visit) → has_no_calls v.tree ≡ true → AllByRecursion no_key (consulted_at g v.tree v.before)
visit_no_key g v e = go v.tree e
  where
    go : (b : Tree) → has_no_calls b ≡ true → AllByRecursion no_key (consulted_at g b v.before)
    go Empty e = tt
    go (Node h a b) e = consulted_no_key g h a b v.before e

test_no_key : (m : Mode) (st : State) (u : List ℕ) → AllByRecursion no_key (cells_of_test m st u)
unfolding no_key
test_no_key Events st u = tt
test_no_key (Real one x) st u = tt
test_no_key (Random one x) st u = go (one && st.tested) (is_some (st.memory.store x u))
  where
    go : (b r : Bool) → AllByRecursion no_key (cond b [] (cond r (Test_at u ∷ []) []))
    go true r = tt
    go false false = tt
    go false true = (refl, tt)

moments_no_key : (g : Setting) (m : Mode) (xs : List Moment) → AllByRecursion (λ (v : Visit). has_no_calls v.tree ≡ true) (visits_among xs) → AllByRecursion no_key (flat_map (cells_of_moment g m) xs)
moments_no_key g m [] e = tt
moments_no_key g m (Visited v ∷ xs) e = AllByRecursion_append no_key (consulted_at g v.tree v.before) _ (visit_no_key g v e.0) (moments_no_key g m xs e.1)
moments_no_key g m (Tested u st ∷ xs) e = AllByRecursion_append no_key (cells_of_test m st u) _ (test_no_key m st u) (moments_no_key g m xs e)

coins_no_key : (k : ℕ) (ns : List ℕ) → AllByRecursion no_key (cells_of (coin_cells k ns))
unfolding no_key
coins_no_key k [] = tt
coins_no_key k (n ∷ ns) = (refl, coins_no_key (suc k) ns)

pub no_calls_down : IsPassedDown (λ p b. has_no_calls b ≡ true)
no_calls_down p h a b e = and_parts (has_no_calls a) (has_no_calls b) (and_parts (head_is_no_call h) _ e).1

pub no_keys_consulted : (g : Setting) (m : Mode) (a : Adversary) (game : Tree) (t : Tape) → has_no_calls game ≡ true → AreKeysListed g m a game t
unfolding no_key
no_keys_consulted g m a game t e =
    AllByRecursion_weaker no_key (λ c. is_key c ≡ true → is_in (cells g m a game) c ≡ true) (λ c n k. absurd (both_ways _ n k)) (cells_of_run g m a game t)
    (AllByRecursion_append no_key (cells_of (coin_cells 0 a.coins)) _ (coins_no_key 0 a.coins) (moments_no_key g m (moments_of_run g m a game t)
    (subst (AllByRecursion (λ (v : Visit). has_no_calls v.tree ≡ true)) (sym (visits_among_moments g m a game t)) (visits_have (λ p b. has_no_calls b ≡ true) g m a game t no_calls_down e))))
