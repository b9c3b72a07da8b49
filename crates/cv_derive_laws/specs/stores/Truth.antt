-- When what a derivation says is true: at a copy of its place, in the stores in which it is read. This profile's own.
use Rattle.std.specs.Prelude.{◌≡◌, ◌⊎◌, ℕ, ◌<◌, Bool, true, ◌==◌, List, ◌++◌, Option, Some, None, is_some}
use Rattle.std.specs.List.{AllByRecursion, list_any}
use Rattle.cv_syntax_trees.specs.declared.head.Head.TheVariants.{Forall, Leaf, Read, Apply, Eq, And, Or, Not, Yes, No, Cons}
use Rattle.cv_syntax_trees.specs.Declarations.{Declaration, Equation}
use Rattle.cv_syntax_trees.specs.Tree.{Tree, Empty, Node, bound_names}
use Rattle.cv_meaning.specs.Interpretation.{Interpretation, Setting, is_constant_of, setting_of}
use Rattle.cv_meaning.specs.Memory.{Indices, Store, tuple}
use Rattle.cv_meaning.specs.Terms.{found_in, or_zero, value}
use Rattle.cv_meaning.specs.Candidates.{is_assigned}
use Rattle.cv_meaning_laws.specs.adequacy.Typed.{HasSort, Sort, size_of}
use Rattle.cv_typing_runs.specs.Games.{context_of}
use Rattle.cv_scope_runs.specs.Promises.{AreIndicesOf}
use Rattle.cv_scene.specs.Late.{is_late}
use Rattle.cv_scene.specs.lines.Lines.{Statement, Holds, IsDefined}
use Rattle.cv_scene.specs.Sights.{Pair, Sight, is_cell_under, site_cells, site_facts}

-- a term is 1 in the second store; a cell is assigned in the first one, where its indices have their values in the second
abbrev pub IsTrue : Setting → Indices → (m n : Store) → Statement → Type 0
IsTrue g at m n (Holds t) = value g at n t ≡ 1
IsTrue g at m n (IsDefined c) = is_assigned g at m n c ≡ true

abbrev pub AreTrue : Setting → Indices → (m n : Store) → List Tree → Type 0
AreTrue g at m n ts = AllByRecursion (λ t. value g at n t ≡ 1) ts

abbrev pub AreAssigned : Setting → Indices → (m n : Store) → List Tree → Type 0
AreAssigned g at m n cs = AllByRecursion (λ c. is_assigned g at m n c ≡ true) cs

-- the values of these arrays differ: two assigned cells of one with equal values are one cell
abbrev pub AreApart : List ℕ → (m n : Store) → Type 0
AreApart xs m n =
    (x : ℕ) (u v : List ℕ) → list_any (λ z. z == x) xs ≡ true → is_some (m x u) ≡ true → is_some (m x v) ≡ true → or_zero (n x u) ≡ or_zero (n x v) → u ≡ v

-- a second copy was reached besides: so it is there, the given equations are true, and the values that are taken to differ do
pub record IsMetBeside (g : Setting) (at : Indices) (m n : Store) (o : Pair) : Type 0 where
  pub facts : AreTrue g at m n o.facts
  pub cells : AreAssigned g at m n o.cells
  pub given : AreTrue g at m n o.given
  pub distinct : AreApart o.distinct m n

abbrev pub IfBeside : Setting → Indices → (m n : Store) → Option Pair → Type 0
IfBeside g at m n None = Unit {0}
IfBeside g at m n (Some o) = IsMetBeside g at m n o

-- The place was reached at a copy, now or before: the facts there are true, and the cells that are directly defined are assigned; no
-- current index is named as a constant; a typed term has a value of its sort; and of the variable of an assigned cell with one site
-- what stands there holds, with the cell's index terms. So it is with a second copy, whose indices are among the current ones.
pub record WasReached (s : Sight) (i : Interpretation) (at : Indices) (m n : Store) : Type 0 where
  pub indices : AreIndicesOf (setting_of s.scene.declarations i) at (s.replications)
  pub facts : AreTrue (setting_of s.scene.declarations i) at m n s.facts
  pub cells : AreAssigned (setting_of s.scene.declarations i) at m n s.cells
  pub constants : (x : ℕ) → is_constant_of s.scene.declarations x ≡ true → found_in at x ≡ None
  pub types :
      (t : Tree) (S : Sort) → HasSort (context_of s.scene.declarations s.scene.game) (s.replications) t S
      → value (setting_of s.scene.declarations i) at n t < size_of i S
  pub sites :
      (c : Tree) → is_cell_under s.scene s.replications c ≡ true → is_assigned (setting_of s.scene.declarations i) at m n c ≡ true
      → AreTrue (setting_of s.scene.declarations i) at m n (site_facts s c) × AreAssigned (setting_of s.scene.declarations i) at m n (site_cells s c)
  pub beside : IfBeside (setting_of s.scene.declarations i) at m n s.pair

-- It is reached now: each current index is found by its name, and a variable that comes later than the place is assigned at no outer
-- part of the copy.
pub record IsReached (s : Sight) (i : Interpretation) (at : Indices) (m n : Store) : Type 0 where
  pub was : WasReached s i at m n
  pub found : AllByRecursion (λ (p : ℕ × ℕ). found_in at p.0 ≡ Some p.1) at
  pub late : (x : ℕ) (u more : List ℕ) → is_late x s.scene.game s.place ≡ true → u ++ more ≡ tuple at → m x u ≡ None

-- terms over these names, with reads at indices where they may be
abbrev mutual
  pub IsOver : (ℕ → Type 0) → Type 0 → Tree → Type 0
  IsOver L R (Node (Leaf x) a b) = L x
  IsOver L R (Node (Read x) a b) = R × AreOver L R a
  IsOver L R (Node (Apply f) a b) = AreOver L R a
  IsOver L R (Node Eq a b) = IsOver L R a × IsOver L R b
  IsOver L R (Node And a b) = IsOver L R a × IsOver L R b
  IsOver L R (Node Or a b) = IsOver L R a × IsOver L R b
  IsOver L R (Node Not a b) = IsOver L R a
  IsOver L R (Node Yes a b) = Unit {0}
  IsOver L R (Node No a b) = Unit {0}
  IsOver L R t = ⊥

  pub AreOver : (ℕ → Type 0) → Type 0 → Tree → Type 0
  AreOver L R Empty = Unit {0}
  AreOver L R (Node Cons a b) = IsOver L R a × AreOver L R b
  AreOver L R t = ⊥

-- Equations say something of functions, of constants and of their own variables alone.

abbrev pub is_name_of : List ℕ → ℕ → Bool
is_name_of names x = list_any (λ y. y == x) names

abbrev pub IsClosedEquation : List Declaration → Tree → Type 0
IsClosedEquation ds (Node Forall bs t) = IsOver (λ x. (is_name_of (bound_names bs) x ≡ true) ⊎ (is_constant_of ds x ≡ true)) ⊥ t
IsClosedEquation ds t = ⊥

abbrev pub IfEquation : List Declaration → Declaration → Type 0
IfEquation ds (Equation t) = IsClosedEquation ds t
IfEquation ds d = Unit {0}

abbrev pub HasClosedEquations : List Declaration → Type 0
HasClosedEquations ds = AllByRecursion (IfEquation ds) ds
