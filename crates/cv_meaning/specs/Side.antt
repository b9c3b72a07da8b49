-- What answers the calls of a context: one side of an equivalence, or the play of a strategy.
-- Contexts and sides are those of Blanchet and Pointcheval, CRYPTO 2006. Arrays by key tuple and call
-- number are this profile's own.
use Rattle.std.specs.Prelude.{ℕ, List, [], Option}
use Rattle.cv_meaning.specs.Tapes.{Cell, Tape}

-- a call, by the tuple of the current indices and the site
pub record CallNumber : Type 0 where
  pub tuple : List ℕ
  pub site : ℕ

-- what a side has assigned, by name, key tuple and call number
abbrev pub Arrays : Type 0
Arrays = ℕ → List ℕ → CallNumber → Option ℕ

-- an oracle call
pub record OracleCall : Type 0 where
  pub key : List ℕ
  pub number : CallNumber
  pub arguments : List ℕ

-- its answer, with the arrays after it
pub record OracleAnswer : Type 0 where
  pub value : ℕ
  pub arrays : Arrays

-- how a side answers a call from its arrays and the tape, the cells of a call with their sizes, and
-- the size of a key
pub record Side : Type 0 where
  pub reply : Tape → Arrays → OracleCall → OracleAnswer
  pub cells : CallNumber → List (Cell × ℕ)
  pub key_size : ℕ

-- the side of a game, which has no calls
abbrev pub no_side : Side
no_side = record { reply = λ t arrays call. record { value = 0; arrays = arrays }; cells = λ number. []; key_size = 1 }
