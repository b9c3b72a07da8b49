-- A run in two modes whose tests tell the same.
use Rattle.std.proofs.Common.{◌≡◌, ℕ, List, [], ◌∷◌, refl, ap, ap₂, subst}
use Rattle.std.specs.List.{AllByRecursion}
use Rattle.cv_syntax_trees.specs.Tree.{Tree}
use Rattle.cv_meaning.specs.Tapes.{Tape, Cell}
use Rattle.cv_meaning.specs.Interpretation.{Setting}
use Rattle.cv_meaning.specs.Memory.{tuple}
use Rattle.cv_meaning.specs.Binders.{fits}
use Rattle.cv_meaning.specs.Inputs.{Input, message_binders}
use Rattle.cv_meaning.specs.Serving.{visits}
use Rattle.cv_meaning.specs.Runs.{Mode, Adversary, State, begun, told, serve_input}
use Rattle.cv_meaning.specs.Experiments.{run}
use Rattle.cv_meaning_runs.specs.Agreement.{AgreeAt}
use Rattle.cv_meaning_runs.specs.Moments.{Moment, Visited, Tested, moments_of_run}
use Rattle.cv_meaning_runs.specs.Simulation.{InOrder, AreServedAlike, AreAlike}
use Rattle.cv_meaning_runs.specs.simulations.Moments.{AreEqual, AreMomentsAlike, AreVisitedAlike, IsMomentGameSimulation, TellsTheSame}
use Rattle.cv_meaning_runs.proofs.simulations.Together.{games_alike, moments_alike}
use Rattle.cv_meaning_runs.proofs.Replacement.{agree_refl}

in_order_refl : {A : Type 0} (xs : List A) → InOrder AreEqual xs xs
in_order_refl [] = tt
in_order_refl (x ∷ xs) = (refl, in_order_refl xs)

in_order_equal : {A : Type 0} (xs ys : List A) → InOrder AreEqual xs ys → xs ≡ ys
in_order_equal [] [] e = refl
in_order_equal (x ∷ xs) (y ∷ ys) e = ap₂ ◌∷◌ e.0 (in_order_equal xs ys e.1)
in_order_equal [] (y ∷ ys) e = absurd e
in_order_equal (x ∷ xs) [] e = absurd e

state_equal : (x y : State) → AreAlike AreEqual AreEqual x y → x ≡ y
state_equal x y s = λ i. record { memory = s.memory i; inputs = in_order_equal x.inputs y.inputs s.inputs i; answers = s.answers i; tested = s.tested i; guess = s.guess i }

moments_equal : (xs ys : List Moment) → InOrder (AreMomentsAlike AreEqual AreEqual AreEqual) xs ys → xs ≡ ys
moments_equal [] [] e = refl
moments_equal (Visited v ∷ xs) (Visited w ∷ ys) e = ap₂ (λ z zs. Visited z ∷ zs) e.0 (moments_equal xs ys e.1)
moments_equal (Tested v x ∷ xs) (Tested w y ∷ ys) e = λ i. Tested (e.0.0 i) (state_equal x y e.0.1 i) ∷ moments_equal xs ys e.1 i
moments_equal [] (y ∷ ys) e = absurd e
moments_equal (x ∷ xs) [] e = absurd e
moments_equal (Visited v ∷ xs) (Tested w y ∷ ys) e = absurd e.0
moments_equal (Tested w x ∷ xs) (Visited v ∷ ys) e = absurd e.0

expected_in_own_mode : (m : Mode) (t : Tape) (xs : List Moment) → AllByRecursion (TellsTheSame m m t) xs
expected_in_own_mode m t [] = tt
expected_in_own_mode m t (Visited v ∷ xs) = (tt, expected_in_own_mode m t xs)
expected_in_own_mode m t (Tested w x ∷ xs) = (refl, expected_in_own_mode m t xs)

served_alike : (g : Setting) (t : Tape) (x y : State) → x ≡ y → (i j : Input) → i ≡ j → (vs : List ℕ) → AreServedAlike AreEqual AreEqual (serve_input g t x i vs) (serve_input g t y j vs)
served_alike g t x y e i j f vs =
    subst (λ z. AreServedAlike AreEqual AreEqual (serve_input g t x i vs) (serve_input g t z j vs)) e
    (subst (λ k. AreServedAlike AreEqual AreEqual (serve_input g t x i vs) (serve_input g t x k vs)) f (record { reply = refl; memory = refl; opened = in_order_refl _ }))

pub modes_visited_alike : (g : Setting) (m n : Mode) (t : Tape) → AreVisitedAlike AreEqual AreEqual AreEqual (TellsTheSame m n t) g g t t
modes_visited_alike g m n t x y s i j f vs fit w =
    subst (λ z. InOrder AreEqual (visits g t i.tree i.place 0 vs (begun x i)) (visits g t j.tree j.place 0 vs (begun z j))) (state_equal x y s)
    (subst (λ k. InOrder AreEqual (visits g t i.tree i.place 0 vs (begun x i)) (visits g t k.tree k.place 0 vs (begun x k))) f (in_order_refl _))

pub modes_simulate :
    (a : Adversary) (g : Setting) (m n : Mode) (game : Tree) (t : Tape) → AllByRecursion (TellsTheSame m n t) (moments_of_run g m a game t)
    → IsMomentGameSimulation AreEqual AreEqual (TellsTheSame m n t) a g g m n game game t t
modes_simulate a g m n game t w = record {
  steps = record {
    channel = λ i j e. ap (λ (k : Input). k.channel) e;
    tuple = λ i j e. ap (λ (k : Input). tuple k.indices) e;
    message = λ i j e vs. ap (λ (k : Input). fits g.interpretation.type_size (message_binders k) vs) e;
    told = λ x y s v e. subst (λ z. told m t x v ≡ told n t z v) (state_equal x y s) e;
    served = λ x y s i j e vs fit v. served_alike g t x y (state_equal x y s) i j e vs;
  };
  memory = refl;
  begun = in_order_refl _;
  moments = w;
  coins = agree_refl t _;
}

pub itself_simulated : (a : Adversary) (g : Setting) (m : Mode) (game : Tree) (t : Tape) → IsMomentGameSimulation AreEqual AreEqual (TellsTheSame m m t) a g g m m game game t t
itself_simulated a g m game t = modes_simulate a g m m game t (expected_in_own_mode m t _)

pub modes_same_state : (a : Adversary) (g : Setting) (m n : Mode) (game : Tree) (t : Tape) → AllByRecursion (TellsTheSame m n t) (moments_of_run g m a game t) → run g m a game t ≡ run g n a game t
modes_same_state a g m n game t w = state_equal _ _ (games_alike AreEqual AreEqual AreEqual (TellsTheSame m n t) a g g m n game game t t (modes_simulate a g m n game t w))

pub modes_same_moments : (a : Adversary) (g : Setting) (m n : Mode) (game : Tree) (t : Tape) → AllByRecursion (TellsTheSame m n t) (moments_of_run g m a game t) → moments_of_run g m a game t ≡ moments_of_run g n a game t
modes_same_moments a g m n game t w = moments_equal _ _ (moments_alike AreEqual AreEqual AreEqual (TellsTheSame m n t) a g g m n game game t t (modes_simulate a g m n game t w) (modes_visited_alike g m n t))
