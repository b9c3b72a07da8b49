-- Which queries may be asked of a game.
use Rattle.std.specs.Prelude.{◌≡◌, ◌≤◌, ◌↔◌, ℕ, ◌+◌, true, List, [], ◌∷◌, ◌++◌, ◌⊎◌, Some, map, length}
use Rattle.std.specs.List.{AllByRecursion}
use Rattle.cv_syntax_trees.specs.declared.head.Head.TheVariants.{Leaf, Cons, Query, Occurs, OccursOnce, Secret, SecretOnce, SomeOf}
use Rattle.cv_syntax_trees.specs.Tree.{Tree, Empty, Node, lone, chain}
use Rattle.cv_meaning.specs.Binders.{bound_names}
use Rattle.cv_meaning.specs.Correspondences.{alternatives_of, is_once}
use Rattle.cv_syntax_trees.specs.declared.sites.sort.Sort.TheVariants.{OfType}
use Rattle.cv_syntax_trees.specs.sites.Sites.{first_site}

-- The arguments of a left event are distinct variables of the query.

abbrev pub IsOneOf : List ℕ → ℕ → Type 0
IsOneOf [] x = ⊥
IsOneOf (y ∷ ys) x = (y ≡ x) ⊎ IsOneOf ys x

abbrev pub AreDistinct : List ℕ → Type 0
AreDistinct [] = Unit {0}
AreDistinct (x ∷ xs) = (IsOneOf xs x → ⊥) × AreDistinct xs

abbrev pub reads_of : List ℕ → Tree
reads_of xs = chain (map (λ x. lone (Leaf x)) xs)

-- the terms are reads of some of these variables, one by one, and none is read twice
pub record AreDistinctVariables (xs : List ℕ) (terms : Tree) : Type 0 where
  pub variables : List ℕ
  pub read : terms ≡ reads_of variables
  pub bound : AllByRecursion (IsOneOf xs) variables
  pub distinct : AreDistinct variables

-- an event, perhaps marked `inj`, whose arguments are distinct variables among these
abbrev pub IsLeftEvent : List ℕ → Tree → Type 0
IsLeftEvent xs (Node (Occurs e) terms Empty) = AreDistinctVariables xs terms
IsLeftEvent xs (Node (OccursOnce e) terms Empty) = AreDistinctVariables xs terms
IsLeftEvent xs _ = ⊥

-- `inj` stands on both sides of a correspondence or on none.

abbrev pub IsMarked : Tree → Type 0
IsMarked t = is_once t ≡ true

-- some event of a right side, wherever it stands, is marked
unfoldable pub SomeIsMarked : Tree → Type 0
SomeIsMarked Empty = ⊥
SomeIsMarked (Node Cons a b) = SomeIsMarked a ⊎ SomeIsMarked b
SomeIsMarked (Node SomeOf a b) = SomeIsMarked a ⊎ SomeIsMarked b
SomeIsMarked atom = IsMarked atom

abbrev pub AreMarkedAlike : Tree → Tree → Type 0
AreMarkedAlike left right = IsMarked left ↔ SomeIsMarked right

-- A right side has at most 64 alternatives.
abbrev pub HasFewAlternatives : Tree → Type 0
HasFewAlternatives right = length (alternatives_of right) ≤ 64

-- What is kept secret is a variable of the game with values of a type: it has a site, and is no index of a `find`.
pub record HasValues (game : Tree) (x : ℕ) : Type 0 where
  pub parameters : List ℕ
  pub values : ℕ
  pub site : first_site x [] game ≡ Some (record { parameters = parameters; sort = OfType values })

-- a query may be asked
unfoldable pub MayBeAsked : Tree → Tree → Type 0
MayBeAsked game (Node Query bs (Node Cons left right)) = IsLeftEvent (bound_names bs) left × AreMarkedAlike left right × HasFewAlternatives right
MayBeAsked game (Node (Secret x) Empty Empty) = HasValues game x
MayBeAsked game (Node (SecretOnce x) Empty Empty) = HasValues game x
MayBeAsked game _ = ⊥

abbrev pub AreAsked : Tree → List Tree → Type 0
AreAsked game queries = AllByRecursion (MayBeAsked game) queries

-- the query of this number, from 1, may not be asked, and all before it may
pub record IsFirstRefused (game : Tree) (queries : List Tree) (k : ℕ) : Type 0 where
  pub before : List Tree
  pub query : Tree
  pub behind : List Tree
  pub parts : queries ≡ before ++ query ∷ behind
  pub number : k ≡ length before + 1
  pub asked : AreAsked game before
  pub refused : MayBeAsked game query → ⊥
