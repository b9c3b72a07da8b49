-- The value of a term of a body. Blanchet and Pointcheval, CRYPTO 2006.
-- That an unassigned read is 0, and that connectives are total, is this profile's own.
use Rattle.std.specs.Prelude.{ℕ, Bool, ◌&&◌, ◌||◌, not, ◌==◌, if◌then◌else◌, List, [], ◌∷◌, Option, Some, None}
use Rattle.cv_syntax_trees.specs.declared.head.Head.TheVariants.{Leaf, Read, Apply, Eq, And, Or, Not, Yes}
use Rattle.cv_syntax_trees.specs.Tree.{Tree, Empty, Node, first}
use Rattle.cv_meaning.specs.Side.{CallNumber}
use Rattle.cv_meaning.specs.Interpretation.{Setting}
use Rattle.cv_meaning.specs.Terms.{or_zero, bit, is_one}
use Rattle.cv_meaning.specs.contexts.Frames.{Meaning, IsValue, IsCall, Frame, same_number, meaning_of}

-- the call that a term stands for, if it is an index

abbrev pub call_meant : Option Meaning → Option CallNumber
call_meant (Some (IsCall n)) = Some n
call_meant _ = None

abbrev pub call_at : Frame → Tree → Option CallNumber
call_at e (Node (Leaf u) a b) = call_meant (meaning_of e.names u)
call_at e _ = None

-- v[u]: at this call's key, and at the call of the index
abbrev pub array_at : Frame → ℕ → Option CallNumber → Option ℕ
array_at e v None = None
array_at e v (Some n) = e.arrays v e.key n

-- a name that the body doesn't bind is a constant; an index is only compared
abbrev pub plain_value : Setting → ℕ → Option Meaning → ℕ
plain_value g x (Some (IsValue v)) = v
plain_value g x (Some (IsCall n)) = 0
plain_value g x None = if g.is_constant x then g.interpretation.table x [] else 0

-- two indices are equal where they stand for the same call
abbrev pub are_equal : Option CallNumber → Option CallNumber → Bool → Bool
are_equal (Some m) (Some n) same_values = same_number m n
are_equal _ _ same_values = same_values

unfoldable mutual
  pub body_value : Setting → Frame → Tree → ℕ
  body_value g e Empty = 0
  body_value g e (Node (Leaf x) a b) = plain_value g x (meaning_of e.names x)
  body_value g e (Node (Read v) a b) = or_zero (array_at e v (call_at e (first a)))
  body_value g e (Node (Apply f) a b) = g.interpretation.table f (body_values g e a)
  body_value g e (Node Eq a b) = bit (are_equal (call_at e a) (call_at e b) (body_value g e a == body_value g e b))
  body_value g e (Node And a b) = bit (is_one (body_value g e a) && is_one (body_value g e b))
  body_value g e (Node Or a b) = bit (is_one (body_value g e a) || is_one (body_value g e b))
  body_value g e (Node Not a b) = bit (not (is_one (body_value g e a)))
  body_value g e (Node Yes a b) = 1
  body_value g e (Node h a b) = 0

  -- the values of a list of terms
  pub body_values : Setting → Frame → Tree → List ℕ
  body_values g e Empty = []
  body_values g e (Node h a b) = body_value g e a ∷ body_values g e b
