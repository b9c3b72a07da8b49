-- Typing: each node of a tree gives what its position asks of it; else the first node in preorder that does not.
use Rattle.std.specs.Prelude.{◌≡◌, ℕ, Bool, false, ◌||◌, not, if◌then◌else◌, Option, Some, None}
use Rattle.cv_syntax_trees.specs.declared.head.Head.{Head}
use Rattle.cv_syntax_trees.specs.declared.head.Head.TheVariants.{In, New, Let, Branch, Binder}
use Rattle.cv_syntax_trees.specs.Tree.{Tree, Empty, Node, second}
use Rattle.cv_syntax.specs.faults.Walk.{Walk, IsObeyed}
use Rattle.cv_syntax.specs.faults.Walk as walk
use Rattle.cv_scope_rules.specs.declared.typing.fault.Fault.{Fault}
use Rattle.cv_scope_rules.specs.declared.typing.fault.Fault.TheVariants.{WrongType, Arity, IndexAsMessage, NotFixed}
use Rattle.cv_syntax_trees.specs.declared.sites.sort.Sort.{Sort}
use Rattle.cv_syntax_trees.specs.declared.sites.sort.Sort.TheVariants.{OfType, BelowParameter}
use Rattle.cv_scope_rules.specs.typing.Signature.{Signature, Arrays, Above, variable_sort, defined_sort, is_fixed_in, sort_by, arity_by, is_arity}
use Rattle.cv_syntax_trees.specs.sites.Sorts.{differs_from}
use Rattle.cv_syntax_trees.specs.sites.Counting.{count}
use Rattle.cv_scope_rules.specs.typing.Wants.{Want, wants, is_wrong, is_index_sent, above_second}

-- A definition of a variable has the sort of its first site. In a body of an equivalence a name that its function binds
-- has one sort wherever the function binds it, but for the indices of branches.

unfoldable pub binders_differ : Arrays → (ℕ → Sort) → Tree → Bool
binders_differ arrays sort Empty = false
binders_differ arrays sort (Node (Binder x T) a b) = differs_from (variable_sort arrays x) (sort T) || binders_differ arrays sort b
binders_differ arrays sort (Node h a b) = binders_differ arrays sort b

abbrev pub site_differs : Arrays → Head → Tree → Bool
site_differs arrays (New x T) a = differs_from (defined_sort arrays x) (OfType T)
site_differs arrays (Let x T) a = differs_from (defined_sort arrays x) (OfType T)
site_differs arrays (In c) a = binders_differ arrays OfType (second a)
site_differs arrays Branch a = binders_differ arrays BelowParameter a
site_differs arrays h a = false

abbrev pub is_unfixed : Signature → Head → Bool
is_unfixed e (New x T) = not (is_fixed_in e.declarations T)
is_unfixed e h = false

-- an index where a value is sent, and `new` of a type that isn't fixed
abbrev pub value_fault : Signature → Want → Option Sort → Head → Option Fault
value_fault e w S h = if is_index_sent w S then Some IndexAsMessage else if is_unfixed e h then Some NotFixed else None

-- the fault of a node by itself
abbrev pub fault_of : Signature → Above → Want → Head → Tree → Option Fault
fault_of e above w h a =
    if is_wrong w (sort_by e above h a) || site_differs e.arrays h a then Some WrongType
    else if is_arity (arity_by e above h) (count a) then value_fault e w (sort_by e above h a) h
    else Some Arity

-- A tree inherits the names that are bound above it, and what its position asks of it.
abbrev pub typing_walk : Signature → Walk (Above × Want) Fault
typing_walk e = record {
  fault = λ s h a b. fault_of e s.0 s.1 h a;
  first = λ s h a. (s.0, (wants e s.0 s.1 h a).0);
  second = λ s h a. (above_second s.1 h a s.0, (wants e s.0 s.1 h a).1);
  Obeys = λ s h a b. fault_of e s.0 s.1 h a ≡ None;
  Breaks = λ s h a b f. fault_of e s.0 s.1 h a ≡ Some f;
}

-- every node of the tree gives what its position asks
abbrev pub IsTyped : Signature → Above → Want → Tree → Type 0
IsTyped e above w t = IsObeyed (typing_walk e) (above, w) t

-- the place and the fault of the first node in preorder that does not, in a tree that stands at a place
abbrev pub first_fault : Signature → Above → Want → ℕ → Tree → Option (ℕ × Fault)
first_fault e above w p t = walk.first_fault (typing_walk e) (above, w) p t

-- in a tree that stands at p a node at q has the fault
abbrev pub Faulty : Signature → Above → Want → ℕ → Tree → ℕ → Fault → Type 0
Faulty e above w p t q f = walk.Faulty (typing_walk e) (above, w) p t q f

-- a fault, and none at a lesser place
abbrev pub IsFirst : Signature → Above → Want → ℕ → Tree → ℕ → Fault → Type 0
IsFirst e above w p t q f = walk.IsFirst (typing_walk e) (above, w) p t q f
