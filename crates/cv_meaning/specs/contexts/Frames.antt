-- Where the body of a function is evaluated: at a call, with what its names stand for there and the
-- side's arrays. Blanchet and Pointcheval, CRYPTO 2006, for the arrays of a side. That they are kept by
-- key tuple and call number is this profile's own.
use Rattle.std.specs.Prelude.{ℕ, Bool, ◌&&◌, ◌==◌, if◌then◌else◌, List, [], ◌∷◌, Option, Some, None}
use Rattle.cv_meaning.specs.Tapes.{same_tuple}
use Rattle.cv_meaning.specs.Side.{CallNumber, Arrays}

-- what a name stands for: a value, or for the index of a find the call that was found
pub data Meaning : Type 0 where
  IsValue : (value : ℕ) → Meaning
  IsCall : CallNumber → Meaning

pub record Frame : Type 0 where
  pub key : List ℕ  -- the tuple of the call's key
  pub number : CallNumber
  pub names : List (ℕ × Meaning)  -- the newest first
  pub arrays : Arrays

abbrev pub same_number : CallNumber → CallNumber → Bool
same_number m n = (m.site == n.site) && same_tuple m.tuple n.tuple

-- the arrays with a cell assigned, or assigned anew
unfoldable pub put_at : Arrays → ℕ → List ℕ → CallNumber → ℕ → Arrays
put_at m x key n v y other k = if (y == x) && (same_tuple other key && same_number k n) then Some v else m y other k

-- Of a name that a body binds twice, the newest binding counts. In the arrays its cell is overwritten.

abbrev pub meaning_of : List (ℕ × Meaning) → ℕ → Option Meaning
meaning_of [] x = None
meaning_of (p ∷ ps) x = if p.0 == x then Some p.1 else meaning_of ps x

-- a variable of the body gets a value
abbrev pub assigned : Frame → ℕ → ℕ → Frame
assigned e x v = record e { names = (x, IsValue v) ∷ e.names; arrays = put_at e.arrays x e.key e.number v }

-- an index stands for a call
abbrev pub with_call : Frame → ℕ → CallNumber → Frame
with_call e u n = record e { names = (u, IsCall n) ∷ e.names }
