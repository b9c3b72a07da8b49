-- The value of a term. Blanchet, TDSC 2008, section 2.
-- That an unassigned read is 0, and that connectives are total, is this profile's own.
use Rattle.std.specs.Prelude.{ℕ, Bool, true, false, ◌&&◌, ◌||◌, not, ◌==◌, if◌then◌else◌, List, [], ◌∷◌, Option, Some, None}
use Rattle.cv_syntax_trees.specs.declared.head.Head.TheVariants.{Leaf, Read, Apply, Eq, And, Or, Not, Yes}
use Rattle.cv_syntax_trees.specs.Tree.{Tree, Empty, Node}
use Rattle.cv_meaning.specs.Interpretation.{Setting}
use Rattle.cv_meaning.specs.Memory.{Store, Indices, Local}

abbrev pub or_zero : Option ℕ → ℕ
or_zero None = 0
or_zero (Some v) = v

-- the value of an index
abbrev pub found_in : Indices → ℕ → Option ℕ
found_in [] x = None
found_in (p ∷ ps) x = if p.0 == x then Some p.1 else found_in ps x

abbrev pub bit : Bool → ℕ
bit true = 1
bit false = 0

abbrev pub is_one : ℕ → Bool
is_one v = v == 1

abbrev pub leaf_value_from : Setting → Store → ℕ → Option ℕ → ℕ
leaf_value_from g m x (Some v) = v
leaf_value_from g m x None = if g.is_constant x then g.interpretation.table x [] else or_zero (m x [])

-- an index, a constant, or a variable without indices
abbrev pub leaf_value : Setting → Indices → Store → ℕ → ℕ
leaf_value g at m x = leaf_value_from g m x (found_in at x)

unfoldable mutual
  pub value : Setting → Indices → Store → Tree → ℕ
  value g at m Empty = 0
  value g at m (Node (Leaf x) a b) = leaf_value g at m x
  value g at m (Node (Read x) a b) = or_zero (m x (values g at m a))
  value g at m (Node (Apply f) a b) = g.interpretation.table f (values g at m a)
  value g at m (Node Eq a b) = bit (value g at m a == value g at m b)
  value g at m (Node And a b) = bit (is_one (value g at m a) && is_one (value g at m b))
  value g at m (Node Or a b) = bit (is_one (value g at m a) || is_one (value g at m b))
  value g at m (Node Not a b) = bit (not (is_one (value g at m a)))
  value g at m (Node Yes a b) = 1
  value g at m (Node h a b) = 0

  -- the values of a list of terms
  pub values : Setting → Indices → Store → Tree → List ℕ
  values g at m Empty = []
  values g at m (Node h a b) = value g at m a ∷ values g at m b

-- the value in the state of a service, and those of a list of terms
abbrev pub value_here : Setting → Local → Tree → ℕ
value_here g s m = value g s.indices s.memory.store m

abbrev pub values_here : Setting → Local → Tree → List ℕ
values_here g s ms = values g s.indices s.memory.store ms
