-- The first fault of a tree in preorder, where each node inherits a state from above and is faulty or not by itself.
use Rattle.std.specs.Prelude.{◌≡◌, ◌≤◌, ℕ, Option, Some, None}
use Rattle.std.specs.Option.{IfSome}
use Rattle.cv_syntax_trees.specs.declared.head.Head.{Head}
use Rattle.cv_syntax_trees.specs.Tree.{Tree, Empty, Node, first_place, second_place}
pub use Rattle.cv_syntax_trees.specs.lists.Options.{first_of}

-- A walk: states that are inherited, and kinds of fault.
pub record Walk (State Fault : Type 0) : Type 1 where
  -- the fault of a node by itself, by its state, its head and its children
  pub fault : State → Head → Tree → Tree → Option Fault
  -- what its first child inherits, and its second
  pub first : State → Head → Tree → State
  pub second : State → Head → Tree → State
  -- what is asked of a node, and what it says that a node breaks a rule of a kind
  pub Obeys : State → Head → Tree → Tree → Type 0
  pub Breaks : State → Head → Tree → Tree → Fault → Type 0

-- each node of a tree does what is asked of it
unfoldable pub IsObeyed : {S F : Type 0} → Walk S F → S → Tree → Type 0
IsObeyed w s Empty = Unit {0}
IsObeyed w s (Node h a b) = w.Obeys s h a b × IsObeyed w (w.first s h a) a × IsObeyed w (w.second s h a) b

-- in a tree that stands at p a node at q breaks a rule of a kind
pub data Faulty {S F : Type 0} (w : Walk S F) : S → ℕ → Tree → ℕ → F → Type 0 where
  here : {s : S} {p : ℕ} {h : Head} {a b : Tree} {f : F} → w.Breaks s h a b f → Faulty w s p (Node h a b) p f
  in_first : {s : S} {p q : ℕ} {h : Head} {a b : Tree} {f : F} → Faulty w (w.first s h a) (first_place p h) a q f → Faulty w s p (Node h a b) q f
  in_second : {s : S} {p q : ℕ} {h : Head} {a b : Tree} {f : F} → Faulty w (w.second s h a) (second_place p h a) b q f → Faulty w s p (Node h a b) q f

-- a fault, and none at a lesser place
pub record IsFirst {S F : Type 0} (w : Walk S F) (s : S) (p : ℕ) (t : Tree) (q : ℕ) (f : F) : Type 0 where
  pub there : Faulty w s p t q f
  pub least : (r : ℕ) (g : F) → Faulty w s p t r g → q ≤ r

abbrev pub placed : {F : Type 0} → ℕ → Option F → Option (ℕ × F)
placed p None = None
placed p (Some f) = Some (p, f)

-- the place and the fault of the first node in preorder that has one
unfoldable pub first_fault : {S F : Type 0} → Walk S F → S → ℕ → Tree → Option (ℕ × F)
first_fault w s p Empty = None
first_fault w s p (Node h a b) =
    first_of (placed p (w.fault s h a b))
    (first_of (first_fault w (w.first s h a) (first_place p h) a)
    (first_fault w (w.second s h a) (second_place p h a) b))

-- what is computed at a node is what is asked
pub record IsDecided {S F : Type 0} (w : Walk S F) : Type 0 where
  pub obeys : (s : S) (h : Head) (a b : Tree) → w.fault s h a b ≡ None → w.Obeys s h a b
  pub finds_none : (s : S) (h : Head) (a b : Tree) → w.Obeys s h a b → w.fault s h a b ≡ None
  pub breaks : (s : S) (h : Head) (a b : Tree) (f : F) → w.fault s h a b ≡ Some f → w.Breaks s h a b f
  pub not_both : (s : S) (h : Head) (a b : Tree) (f : F) → w.Obeys s h a b → w.Breaks s h a b f → ⊥

-- A refusal names a fault at a place, or none where memory is wanting. It is of what was found, if it names that.
abbrev pub IsRefusalOf : {F : Type 0} → Option (ℕ × F) → Option (ℕ × F) → Type 0
IsRefusalOf found named = IfSome named (λ x. found ≡ Some x)
