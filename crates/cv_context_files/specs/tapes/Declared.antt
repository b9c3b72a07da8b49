-- Equivalences whose sides choose from declared types: keys, coins, and what bodies choose by `new`. This profile's own.
use Rattle.std.specs.Prelude.{ℕ, List}
use Rattle.std.specs.List.{AllByRecursion}
use Rattle.cv_syntax_trees.specs.declared.head.Head.TheVariants.{New}
use Rattle.cv_syntax_trees.specs.Declarations.{Declaration}
use Rattle.cv_syntax_trees.specs.Tree.{Tree, Empty, Node}
use Rattle.cv_meaning.specs.contexts.Groups.{Function, Which, side_group}
use Rattle.cv_meaning_laws.specs.adequacy.Typed.{IsDeclared, OfType}

-- each of these names stands with a declared type
abbrev pub AreOfDeclaredTypes : List Declaration → List (ℕ × ℕ) → Type 0
AreOfDeclaredTypes ds xs = AllByRecursion (λ (x : ℕ × ℕ). IsDeclared ds (OfType x.1)) xs

-- each `new` of a tree chooses from a declared type
unfoldable pub ChoosesFromDeclaredTypes : List Declaration → Tree → Type 0
ChoosesFromDeclaredTypes ds Empty = Unit {0}
ChoosesFromDeclaredTypes ds (Node (New x T) a b) = IsDeclared ds (OfType T) × ChoosesFromDeclaredTypes ds a × ChoosesFromDeclaredTypes ds b
ChoosesFromDeclaredTypes ds (Node h a b) = ChoosesFromDeclaredTypes ds a × ChoosesFromDeclaredTypes ds b

-- so does each body of a side
abbrev pub BodiesChooseFromDeclaredTypes : List Declaration → Tree → Which → Type 0
BodiesChooseFromDeclaredTypes ds equivalence which = AllByRecursion (λ (f : Function). ChoosesFromDeclaredTypes ds f.body) (side_group which equivalence).functions

-- On either side the types of the key, of the coins and of what bodies choose are declared.
pub record HasDeclaredTypes (ds : List Declaration) (equivalence : Tree) : Type 0 where
  pub key : (which : Which) → IsDeclared ds (OfType (side_group which equivalence).key.1)
  pub coins : (which : Which) → AllByRecursion (λ (f : Function). AreOfDeclaredTypes ds f.coins) (side_group which equivalence).functions
  pub bodies : (which : Which) → BodiesChooseFromDeclaredTypes ds equivalence which
