-- What shelves and sinks tell of their bytes.
use Rattle.std.specs.Prelude.{ℕ, ◌≡◌, ◌==◌, List, [], ◌∷◌, ◌++◌, length, Option, Some, None, if◌then◌else◌, unwrap_or, nat_le, IfSome, IsOkAnd, IsErrOf, MatchBool, Result, Bool, string_bytes}
use Rattle.std.specs.Str.{bytes_eq}
use Rattle.std.specs.List.{list_any}
use Rattle.std.specs.declared.string.String.{String}
use Rattle.std.specs.declared.vec.Vec.{Vec}
use Rattle.std.specs.declared.alloc.Global.{Global}
use Rattle.cv_outside.specs.declared.shelf.FetchError.{FetchError}
use Rattle.cv_outside.specs.declared.shelf.FetchError.TheVariants.{Failed, Long}

-- the bytes of each file, by its name
abbrev pub Files : Type 0
Files = List ℕ → Option (List ℕ)

-- the named bytes; a name that isn't there has none
abbrev pub bytes_of : Files → List ℕ → List ℕ
bytes_of files name = unwrap_or (files name) []

-- the file of the first entry of the name
abbrev pub entry_of : List (String Global × Vec ℕ Global) → List ℕ → Option (List ℕ)
entry_of [] name = None
entry_of (e ∷ es) name = if bytes_eq (string_bytes e.0) name then Some e.1.items else entry_of es name

-- whether the call of this number is to fail
abbrev pub is_to_fail : List ℕ → ℕ → Bool
is_to_fail failing number = list_any (λ k. k == number) failing

-- A file of these bytes is answered whole, or as too long.
abbrev pub GivesWithin : List ℕ → ℕ → Result (Vec ℕ Global) FetchError → Type 0
GivesWithin bytes limit result =
    MatchBool (nat_le (length bytes) limit) (IsOkAnd result (λ v. v.items ≡ bytes)) (IsErrOf result Long)

-- The file is answered where there is one, and else a fault.
abbrev pub Gives : Option (List ℕ) → ℕ → Result (Vec ℕ Global) FetchError → Type 0
Gives None limit result = IsErrOf result Failed
Gives (Some bytes) limit result = GivesWithin bytes limit result

-- These bytes went to the end of what was taken, where that is told.
abbrev pub Takes : Option (List ℕ) → Option (List ℕ) → List ℕ → Type 0
Takes before now bytes = IfSome now (λ after. IfSome before (λ first. after ≡ first ++ bytes))
