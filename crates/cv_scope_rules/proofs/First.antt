-- What is computed is the first fault in preorder, and there is none exactly where all is scoped.
use Rattle.std.proofs.Common.{◌≡◌, ℕ, ◌+◌, ◌≤◌, Some, None}
use Rattle.cv_syntax_trees.specs.Tree.{Tree, size}
use Rattle.cv_syntax.specs.faults.Walk.{IsDecided}
use Rattle.cv_syntax.proofs.faults.First as walk
use Rattle.cv_scope_rules.specs.declared.fault.Fault.{Fault}
use Rattle.cv_scope_rules.specs.Standing.{Standing}
use Rattle.cv_scope_rules.specs.Rules.{Names}
use Rattle.cv_scope_rules.specs.Scope.{IsScopedAt, Faulty, IsFirst, first_fault, scope_walk}
use Rattle.cv_scope_rules.proofs.Decided.{node_obeys, no_node_fault, node_breaks, not_both_law}

module _ (names : Names) where
  -- the computed fault of a node is what is asked
  scope_decided : IsDecided (scope_walk names)
  scope_decided = record { obeys = node_obeys names; finds_none = no_node_fault names; breaks = node_breaks names; not_both = not_both_law names }

  module _ (s : Standing) (t : Tree) where
    -- no fault is found only in a scoped tree
    pub scoped_where_none : first_fault names s t ≡ None → IsScopedAt names s t
    scoped_where_none e = walk.obeyed_where_none (scope_walk names) scope_decided s s.place t e

    -- in a scoped tree no fault is found
    pub none_where_scoped : IsScopedAt names s t → first_fault names s t ≡ None
    none_where_scoped o = walk.none_where_obeyed (scope_walk names) scope_decided s s.place t o

    -- a fault lies in the tree
    pub earlier : (q : ℕ) (f : Fault) → Faulty names s t q f → q ≤ s.place + size t
    earlier q f d = walk.earlier (scope_walk names) scope_decided s s.place t q f d

    -- what is found is the first fault
    pub finds_first : (q : ℕ) (f : Fault) → first_fault names s t ≡ Some (q, f) → IsFirst names s t q f
    finds_first q f e = walk.finds_first (scope_walk names) scope_decided s s.place t q f e
