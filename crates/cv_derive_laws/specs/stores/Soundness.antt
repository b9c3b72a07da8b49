-- What the laws of steps take from the soundness of derivations, for the games of a file. This profile's own.
use Rattle.std.specs.Prelude.{◌≡◌, ℕ, List}
use Rattle.std.specs.List.{All, AllByRecursion}
use Rattle.cv_syntax_trees.specs.Declarations.{Declaration}
use Rattle.cv_syntax_trees.specs.Tree.{Tree}
use Rattle.cv_meaning.specs.Tapes.{blank}
use Rattle.cv_meaning.specs.Interpretation.{Interpretation, setting_of}
use Rattle.cv_meaning.specs.Satisfies.{Satisfies}
use Rattle.cv_meaning.specs.Memory.{Indices, Store}
use Rattle.cv_meaning.specs.Cells.{cells}
use Rattle.cv_meaning.specs.Runs.{Adversary, Mode}
use Rattle.cv_meaning.specs.Serving.{Visit}
use Rattle.cv_meaning.specs.Experiments.{visits_of_run}
use Rattle.cv_meaning_laws.specs.adequacy.Counted.{tapes_of}
use Rattle.cv_scene.specs.Scenes.{Scene}
use Rattle.cv_scene.specs.Derivations.{Derives}
use Rattle.cv_scene.specs.Sights.{sight_at}
use Rattle.cv_scene.specs.lines.Lines.{lines_of, statements}
use Rattle.cv_derive_laws.specs.stores.Truth.{IsTrue}
use Rattle.cv_derive_laws.specs.stores.Holding.{HoldAt, HoldAtConditions, HoldAtVisit, IsReady}
use Rattle.cv_derive_laws.specs.stores.Unreached.{DerivesFalse, HasNoneAt, IsElsewhere}

-- so it is at each visit of each run of the game, on each tape that is counted, where the game is ready
abbrev pub AtEachVisit : Scene → (Interpretation → Visit → Type 0) → Type 0
AtEachVisit s P =
    IsReady s.declarations s.game → (i : Interpretation) → Satisfies s.declarations i → (m : Mode) (a : Adversary) →
    All (λ t. AllByRecursion (P i) (visits_of_run (setting_of s.declarations i) m a s.game t)) (tapes_of (cells (setting_of s.declarations i) m a s.game) blank)

-- Right lines are true at visited places and in the conditions of visited branches, and what a derivation ends with is true
-- wherever its lines are: in each game of a file with these declarations.
pub record DerivationsHold (ds : List Declaration) : Type 0 where
  pub places : (s : Scene) → s.declarations ≡ ds → AtEachVisit s (HoldAtVisit s)
  pub conditions : (s : Scene) → s.declarations ≡ ds → AtEachVisit s (HoldAtConditions s)
  pub targets :
      (s : Scene) (i : Interpretation) (place : ℕ) (at : Indices) (m n : Store) (by targets : Tree) → HoldAt s i place at m n
      → Derives (sight_at s place) by targets → AllByRecursion (IsTrue (setting_of s.declarations i) at m n) (statements (lines_of targets))

-- Where `false` is derived no construct is visited, and a branch whose body stands there is a candidate with no tuple: in each
-- game of a file with these declarations.
pub record DerivedBodiesAreUnreached (ds : List Declaration) : Type 0 where
  pub visits : (s : Scene) → s.declarations ≡ ds → (place : ℕ) (by : Tree) → DerivesFalse s place by → AtEachVisit s (λ i. IsElsewhere place)
  pub candidates : (s : Scene) → s.declarations ≡ ds → (place : ℕ) (by : Tree) → DerivesFalse s place by → AtEachVisit s (λ i. HasNoneAt s i place)
