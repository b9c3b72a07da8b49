-- Which step comes next where steps are looked for, and when none does. A game is settled first. In a settled game open queries are closed, as
-- long as one is direct at least; and a move is made only where one is open and none of them is direct. This profile's own.
use Rattle.std.specs.Prelude.{◌≡◌, ℕ, false, List, Some}
use Rattle.cv_syntax_trees.specs.Tree.{Tree}
use Rattle.cv_bound.specs.closings.Queries.{is_among}
use Rattle.cv_meaning.specs.Queries.{queries_in}
use Rattle.cv_scene.specs.Scenes.{Scene}
use Rattle.cv_scene.specs.Sights.{from_one}
use Rattle.cv_script.specs.Views.{items_of_step}
use Rattle.cv_script.specs.Views as items
use Rattle.cv_direct_rules.specs.Direct.{IsDirect}
use Rattle.cv_settling_rules.specs.Candidates.{Candidate}
use Rattle.cv_strategy_rules.specs.Moves.{HasNoMove, IsBehindMoves, IsFirstMove, IsOfMove, Move}
use Rattle.cv_strategy_rules.specs.Settling.{IsBehind, IsFirst, IsOf, IsSettled, MaySettle}

-- queries

-- a query by its number, from 1, that isn't among the closed ones
pub record IsOpen (s : Scene) (closed : List ℕ) (number : ℕ) (query : Tree) : Type 0 where
  pub there : from_one (queries_in s.declarations) number ≡ Some query
  pub unclosed : is_among closed number ≡ false

abbrev pub SomeIsOpen : Scene → (closed : List ℕ) → Type 0
SomeIsOpen s closed = (k : ℕ) × (query : Tree) × IsOpen s closed k query

abbrev pub NoneIsDirect : Scene → (closed : List ℕ) → Type 0
NoneIsDirect s closed = (k : ℕ) (query : Tree) → IsOpen s closed k query → IsDirect s query → ⊥

-- steps

-- a step that closes an open query
pub record IsClosing (s : Scene) (closed : List ℕ) (step : Tree) : Type 0 where
  pub number : ℕ
  pub query : Tree
  pub certificate : Tree
  pub open_query : IsOpen s closed number query
  pub items : items_of_step step ≡ Some (items.Success number certificate)

-- a move is due: a query is open, and none that is open is direct
pub record IsDue (s : Scene) (closed : List ℕ) : Type 0 where
  pub settled : IsSettled s
  pub some : SomeIsOpen s closed
  pub none : NoneIsDirect s closed

-- the kinds of steps that are found
pub data Kind : Type 0 where
  Settling Closing Moving : Kind

-- what is said of each
abbrev pub ComesNext : Scene → (closed : List ℕ) → Kind → (step : Tree) → Type 0
ComesNext s closed Settling t = (c : Candidate) × IsFirst s c × IsOf c t
ComesNext s closed Closing t = IsSettled s × IsClosing s closed t
ComesNext s closed Moving t = IsDue s closed × (m : Move) × IsFirstMove s m × IsOfMove m t

-- A step that is tried, and may pass a limit: no step before it comes next. A candidate leads to a lower game, if it is a game.
abbrev pub IsTried : Scene → (closed : List ℕ) → Kind → (step : Tree) → Type 0
IsTried s closed Settling t = (c : Candidate) × IsBehind s c × MaySettle s c × IsOf c t
IsTried s closed Closing t = IsSettled s × IsClosing s closed t
IsTried s closed Moving t = IsDue s closed × (m : Move) × IsBehindMoves s m × IsOfMove m t

-- no step comes next: a move is due, and there is none
pub record IsStuck (s : Scene) (closed : List ℕ) : Type 0 where
  pub due : IsDue s closed
  pub unmoved : HasNoMove s
