-- What the facts and cells that stand above a place may name. This profile's own.
use Rattle.std.specs.Prelude.{◌≡◌, ◌⊎◌, ℕ, true, List}
use Rattle.std.specs.List.{AllByRecursion}
use Rattle.cv_syntax_trees.specs.declared.head.Head.TheVariants.{Leaf, Read}
use Rattle.cv_syntax_trees.specs.Declarations.{Declaration}
use Rattle.cv_syntax_trees.specs.Tree.{Tree, Empty, Node}
use Rattle.cv_meaning.specs.Interpretation.{is_constant_of}
use Rattle.cv_scope_rules.specs.Context.{Context}
use Rattle.cv_scope_rules.specs.Rules.{is_index}
use Rattle.cv_scope_rules.specs.Scope.{is_variable}
use Rattle.cv_derive_laws.specs.stores.Truth.{AreOver, IsOver}

-- a bare name is that of a replication above, a constant or a variable of the game
abbrev pub IsNamed : List Declaration → Tree → List (ℕ × ℕ) → ℕ → Type 0
IsNamed ds game rs x = (is_index rs x ≡ true) ⊎ ((is_constant_of ds x ≡ true) ⊎ (is_variable game x ≡ true))

abbrev pub IsFineTerm : List Declaration → Tree → List (ℕ × ℕ) → Tree → Type 0
IsFineTerm ds game rs t = IsOver (IsNamed ds game rs) (Unit {0}) t

-- a cell is of a variable
abbrev pub IsFineCell : List Declaration → Tree → List (ℕ × ℕ) → Tree → Type 0
IsFineCell ds game rs (Node (Leaf x) a b) = is_variable game x ≡ true
IsFineCell ds game rs (Node (Read x) a b) = AreOver (IsNamed ds game rs) (Unit {0}) a
IsFineCell ds game rs t = ⊥

pub record IsFine (ds : List Declaration) (game : Tree) (Γ : Context) : Type 0 where
  pub facts : AllByRecursion (IsFineTerm ds game Γ.replications) Γ.facts
  pub cells : AllByRecursion (IsFineCell ds game Γ.replications) Γ.cells
  pub own : AllByRecursion (IsFineCell ds game Γ.replications) Γ.own
  pub tested : (Γ.tested ≡ Empty) ⊎ IsFineTerm ds game Γ.replications Γ.tested
