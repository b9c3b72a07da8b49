-- Two runs of one quiet game on two tapes. This profile's own.
use Rattle.std.specs.Prelude.{◌≡◌, ℕ, Bool, true, false, not, List, [], map, Option, Some, None, is_some}
use Rattle.std.specs.List.{AllByRecursion}
use Rattle.cv_syntax_trees.specs.declared.head.Head.TheVariants.{Let, New}
use Rattle.cv_syntax_trees.specs.Tree.{Tree, Node}
use Rattle.cv_meaning.specs.Cells.{coin_cells}
use Rattle.cv_meaning.specs.Inputs.{Input}
use Rattle.cv_meaning.specs.Interpretation.{Setting}
use Rattle.cv_meaning.specs.Memory.{Indices, Local, Memory, Store, tuple}
use Rattle.cv_meaning.specs.Runs.{Adversary, Mode, State, told}
use Rattle.cv_meaning.specs.Serving.{Visit}
use Rattle.cv_meaning.specs.Tapes.{Find_at, New_at, Tape, cells_of}
use Rattle.cv_meaning.specs.Terms.{value}
use Rattle.cv_meaning_laws.specs.Agreement.{AgreeOn}
use Rattle.cv_meaning_runs.specs.Agreement.{AgreeAt}
use Rattle.cv_meaning_runs.specs.Moments.{Moment, Tested, Visited, moments_of_run}
use Rattle.cv_meaning_runs.specs.Replacement.{Process}
use Rattle.cv_meaning_runs.specs.Simulation.{AreAlike}
use Rattle.cv_costs.specs.quiet.Quiet.{IsQuiet, Kind}

-- how a variable's two values at a tuple are related
abbrev pub Link : Type 1
Link = ℕ → List ℕ → Option ℕ → Option ℕ → Type 0

-- the stores agree off some variables, and the values of these are related cell by cell
pub record AreRelated (xs : ℕ → Bool) (K : ℕ → List ℕ → Option ℕ → Option ℕ → Type 0) (m n : Store) : Type 0 where
  pub others : AgreeOn (λ x. not (xs x)) m n
  pub own : (x : ℕ) → xs x ≡ true → (u : List ℕ) → K x u (m x u) (n x u)

pub record AgreesBut (xs : ℕ → Bool) (K : ℕ → List ℕ → Option ℕ → Option ℕ → Type 0) (x y : Memory) : Type 0 where
  pub store : AreRelated xs K x.store y.store
  pub events : x.events ≡ y.events
  pub arrays : x.arrays ≡ y.arrays

abbrev pub index_names : Indices → List ℕ
index_names at = map (λ (p : ℕ × ℕ). p.0) at

-- one input, which is quiet
pub record AreOne (k : Kind) (i j : Input) : Type 0 where
  pub same : i ≡ j
  pub quiet : IsQuiet k (index_names i.indices) Process i.tree

-- the state in a service
abbrev pub here : Indices → Memory → Local
here at m = record { indices = at; memory = m }

-- visits of one construct at one copy, with related memories
pub record AreVisitsRelated (xs : ℕ → Bool) (K : ℕ → List ℕ → Option ℕ → Option ℕ → Type 0) (v w : Visit) : Type 0 where
  pub place : v.place ≡ w.place
  pub tree : v.tree ≡ w.tree
  pub indices : v.before.indices ≡ w.before.indices
  pub memory : AgreesBut xs K v.before.memory w.before.memory

-- The tapes choose alike but for the variables of which no value is read, whose values are related as they are drawn and copied at
-- moments that are as expected; and tests tell the same there. Related values are both there, or neither is.
pub record AreTwins (k : Kind) (K : ℕ → List ℕ → Option ℕ → Option ℕ → Type 0) (E : Moment → Type 0) (g : Setting) (m n : Mode) (t u : Tape) : Type 0 where
  pub linked : (x : ℕ) (w : List ℕ) (o q : Option ℕ) → K x w o q → is_some o ≡ is_some q
  pub none : (x : ℕ) (w : List ℕ) → K x w None None
  pub draws :
      (x T p : ℕ) (a b : Tree) (at : Indices) (y : Memory) → k.drawn x → k.unread x ≡ true → E (Visited (record { place = p; tree = Node (New x T) a b; before = here at y }))
      → K x (tuple at) (Some (t (New_at x (tuple at)))) (Some (u (New_at x (tuple at))))
  pub copies :
      (x T p : ℕ) (a b : Tree) (at : Indices) (y z : Memory) → k.copied (index_names at) x a → AgreesBut k.unread K y z → E (Visited (record { place = p; tree = Node (Let x T) a b; before = here at y }))
      → (k.unread x ≡ true) × K x (tuple at) (Some (value g at y.store a)) (Some (value g at z.store a))
  pub others : (x : ℕ) (w : List ℕ) → k.unread x ≡ false → t (New_at x w) ≡ u (New_at x w)
  pub finds : (l : ℕ) (w : List ℕ) → t (Find_at l w) ≡ u (Find_at l w)
  pub tells : (x y : State) → AreAlike (AgreesBut k.unread K) (AreOne k) x y → (w : List ℕ) → E (Tested w x) → told m t x w ≡ told n u y w

-- so are the tapes for a game and an adversary
pub record HasTwins (k : Kind) (K : ℕ → List ℕ → Option ℕ → Option ℕ → Type 0) (E : Moment → Type 0) (g : Setting) (m n : Mode) (a : Adversary) (game : Tree) (t u : Tape) : Type 0 where
  pub twins : AreTwins k K E g m n t u
  pub quiet : IsQuiet k [] Process game
  pub coins : AgreeAt (cells_of (coin_cells 0 a.coins)) t u
  pub moments : AllByRecursion E (moments_of_run g m a game t)
