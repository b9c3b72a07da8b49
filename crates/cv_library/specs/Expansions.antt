-- What stands for the uses of definitions: their bodies, with other names.
use Rattle.std.specs.Prelude.{◌≡◌, ◌==◌, nat_lt, if◌then◌else◌, ℕ, ◌+◌, ◌-◌, List, [], ◌∷◌, ◌++◌, codes, decimal, length, map, drop, slice_get, slice_range, take, Option, Some, None, Result, Ok, Err}
use Rattle.cv_lex.specs.Lexis.{Token}
use Rattle.cv_lex.specs.View.{token_at}
use Rattle.cv_parse_tables.specs.terminals.Signs.{place_of}
use Rattle.cv_library.specs.declared.error.ExpandError.{ExpandError}
use Rattle.cv_library.specs.declared.error.ExpandError.TheVariants.{Unknown, Count, Tokens, OutOfMemory}
use Rattle.cv_library.specs.declared.uses.Use.{Use}
use Rattle.cv_library.specs.Words.{is_id}
use Rattle.cv_library.specs.Heads.{listed}
use Rattle.cv_library.specs.Libraries.{Definition}
use Rattle.cv_library.specs.Uses.{uses_of}

-- the most tokens that an expanded file may have before the end token
abbrev pub most_tokens : ℕ
most_tokens = 1048576

-- the definition of a name
abbrev pub defined : List Definition → List ℕ → Option Definition
defined library name = slice_get library (place_of (map (λ (d : Definition). d.name) library) name)

-- what a use has

abbrev pub used_name : List Token → Use → List ℕ
used_name ts u = (token_at ts (u.word + 1)).text

abbrev pub arguments : List Token → Use → List Token
arguments ts u = listed ts u.word u.dot

-- the first use that has no definition, or another number of names

abbrev pub fault_by : List Token → Use → Option Definition → Option ExpandError
fault_by ts u None = Some (Unknown (u.word + 1))
fault_by ts u (Some d) = if length (arguments ts u) == length d.parameters then None else Some (Count (u.word + 1))

abbrev pub fault_of : List Definition → List Token → Use → Option ExpandError
fault_of library ts u = fault_by ts u (defined library (used_name ts u))

abbrev pub earlier_fault : Option ExpandError → Option ExpandError → Option ExpandError
earlier_fault (Some e) other = Some e
earlier_fault None other = other

unfoldable pub first_fault : List Definition → List Token → List Use → Option ExpandError
first_fault library ts [] = None
first_fault library ts (u ∷ us) = earlier_fault (fault_of library ts u) (first_fault library ts us)

-- the body that stands for a use

-- the name that stands for another one in the use with this number
abbrev pub renamed : ℕ → List ℕ → List ℕ
renamed number name = name ++ codes "_e" ++ decimal number

-- the name that stands for a parameter, where the text is one
abbrev pub argument : (parameters : List (List ℕ)) → (names : List Token) → List ℕ → Option Token
argument parameters names text = slice_get (take (length parameters) names) (place_of parameters text)

abbrev pub of_argument : (number : ℕ) → Token → Option Token → Token
of_argument number t (Some name) = name
of_argument number t None = record { kind = t.kind; text = renamed number t.text; offset = t.offset }

-- a parameter becomes the use's name, and every other name becomes its own; all else stays
abbrev pub replaced : (number : ℕ) → (parameters : List (List ℕ)) → (names : List Token) → Token → Token
replaced number parameters names t = if is_id t.kind t.text then of_argument number t (argument parameters names t.text) else t

abbrev pub at_offset : ℕ → Token → Token
at_offset offset t = record { kind = t.kind; text = t.text; offset = offset }

-- what is written for a token of a body
abbrev pub put_for : List Token → (number : ℕ) → Use → (parameters : List (List ℕ)) → Token → Token
put_for ts number u parameters t = at_offset (token_at ts u.word).offset (replaced number parameters (arguments ts u) t)

abbrev pub body_for : List Token → (number : ℕ) → Use → Option Definition → List Token
body_for ts number u None = []
body_for ts number u (Some d) = map (put_for ts number u d.parameters) d.body

abbrev pub stands_for : List Definition → List Token → (number : ℕ) → Use → List Token
stands_for library ts number u = body_for ts number u (defined library (used_name ts u))

-- the tokens from one on, with bodies for uses, the first of which has this number
unfoldable pub written : List Definition → List Token → (from number : ℕ) → List Use → List Token
written library ts from number [] = drop from ts
written library ts from number (u ∷ us) = slice_range ts from u.word ++ stands_for library ts number u ++ written library ts (u.dot + 1) (number + 1) us

abbrev pub limited : List Token → Result (List Token) ExpandError
limited ts = if nat_lt most_tokens (length ts - 1) then Err (Tokens (length ts - 1)) else Ok ts

abbrev pub by_fault : List Token → Option ExpandError → Result (List Token) ExpandError
by_fault ts None = limited ts
by_fault ts (Some e) = Err e

-- a file's tokens with bodies for all uses
abbrev pub expanded : List Definition → List Token → Result (List Token) ExpandError
expanded library ts = by_fault (written library ts 0 1 (uses_of ts)) (first_fault library ts (uses_of ts))

-- Memory may run out anywhere; every other error is the one that is meant.
abbrev pub IsNotExpanded : ExpandError → List Definition → List Token → Type 0
IsNotExpanded OutOfMemory library ts = Unit {0}
IsNotExpanded e library ts = expanded library ts ≡ Err e
