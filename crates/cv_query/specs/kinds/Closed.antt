-- The right side of a query says something of functions, of constants and of the query's own variables alone. This profile's own.
use Rattle.std.specs.Prelude.{◌≡◌, ◌⊎◌, ℕ, true, List}
use Rattle.std.specs.List.{AllByRecursion}
use Rattle.cv_syntax_trees.specs.declared.head.Head.TheVariants.{Cons, Occurs, OccursOnce, Query, SomeOf}
use Rattle.cv_syntax_trees.specs.Declarations.{Declaration}
use Rattle.cv_syntax_trees.specs.Tree.{Tree, Empty, Node, bound_names}
use Rattle.cv_meaning.specs.Interpretation.{is_constant_of}
use Rattle.cv_meaning.specs.Queries.{queries_in}
use Rattle.cv_derive_laws.specs.stores.Truth.{AreOver, IsOver, is_name_of}

-- one of the names, or a constant
abbrev pub IsKnown : List Declaration → List ℕ → ℕ → Type 0
IsKnown ds names x = (is_name_of names x ≡ true) ⊎ (is_constant_of ds x ≡ true)

-- a right event or a right term says something of these names alone
abbrev pub IsClosedAtom : (ℕ → Type 0) → Tree → Type 0
IsClosedAtom L (Node (Occurs e) ms b) = AreOver L ⊥ ms
IsClosedAtom L (Node (OccursOnce e) ms b) = AreOver L ⊥ ms
IsClosedAtom L m = IsOver L ⊥ m

-- so does each one of a right side, in every alternative
abbrev pub AreClosedAtoms : (ℕ → Type 0) → Tree → Type 0
AreClosedAtoms L Empty = Unit {0}
AreClosedAtoms L (Node Cons a b) = AreClosedAtoms L a × AreClosedAtoms L b
AreClosedAtoms L (Node SomeOf a b) = AreClosedAtoms L a × AreClosedAtoms L b
AreClosedAtoms L atom = IsClosedAtom L atom

-- so it is with a correspondence
abbrev pub IsClosedQuery : List Declaration → Tree → Type 0
IsClosedQuery ds (Node Query bs (Node h left right)) = AreClosedAtoms (IsKnown ds (bound_names bs)) right
IsClosedQuery ds query = Unit {0}

-- and with each one of a file
abbrev pub HasClosedQueries : List Declaration → Type 0
HasClosedQueries ds = AllByRecursion (IsClosedQuery ds) (queries_in ds)
