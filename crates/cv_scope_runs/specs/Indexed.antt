-- Index variables: those that branches of a `find` bind, and no other construct. Blanchet, TDSC 2008, section 2.
use Rattle.std.specs.Prelude.{◌≡◌, ◌<◌, ℕ, Bool, true, ◌&&◌, ◌||◌, ◌==◌, not, List, Some}
use Rattle.cv_syntax_trees.specs.declared.head.Head.{Head}
use Rattle.cv_syntax_trees.specs.declared.head.Head.TheVariants.{Branch, Binder}
use Rattle.cv_syntax_trees.specs.Tree.{Tree, Empty, Node}
use Rattle.cv_meaning.specs.Interpretation.{Setting}
use Rattle.cv_meaning.specs.Memory.{Store}
use Rattle.cv_meaning.specs.Runs.{State}
use Rattle.cv_meaning.specs.Serving.{Visit}
use Rattle.cv_scope_rules.specs.Sites.{Variable}
use Rattle.cv_scope_rules.specs.Made.{made_by}

-- each binder of the variable in the list has this parameter
abbrev pub binds_below : ℕ → ℕ → Tree → Bool
binds_below x n (Node (Binder y m) a b) = (not (y == x) || (m == n)) && binds_below x n b
binds_below x n t = true

-- the node defines the variable as an index below the parameter, or not at all
abbrev pub head_indexes : ℕ → ℕ → Head → Tree → Bool
head_indexes x n Branch a = binds_below x n a
head_indexes x n h a = not (made_by h a (Variable x))

-- so does each node of the tree
unfoldable pub is_index_below : ℕ → ℕ → Tree → Bool
is_index_below x n Empty = true
is_index_below x n (Node h a b) = head_indexes x n h a && (is_index_below x n a && is_index_below x n b)

-- the values of the variable are below the parameter
abbrev pub HasValuesBelow : Setting → ℕ → ℕ → Store → Type 0
HasValuesBelow g x n m = (u : List ℕ) (v : ℕ) → m x u ≡ Some v → v < g.interpretation.parameter_value n

-- so they are before a visit
abbrev pub VisitHasValuesBelow : Setting → ℕ → ℕ → Visit → Type 0
VisitHasValuesBelow g x n v = HasValuesBelow g x n v.before.memory.store

-- and in a state of a run
abbrev pub StateHasValuesBelow : Setting → ℕ → ℕ → State → Type 0
StateHasValuesBelow g x n st = HasValuesBelow g x n st.memory.store
