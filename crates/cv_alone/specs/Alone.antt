-- The bytes of a file with one of its queries alone: what is left out becomes spaces, so that all else has the lines and columns that it had.
use Rattle.std.specs.Prelude.{Bool, not, ◌==◌, ◌&&◌, ◌||◌, nat_le, nat_lt, if◌then◌else◌, ℕ, ◌+◌, List, [], ◌∷◌, length, Result, Ok, Err}
use Rattle.std.specs.List.{list_any}
use Rattle.cv_lex.specs.Lexis.{Token, tokens_of}
use Rattle.cv_lex.specs.declared.LexError.{LexError}
use Rattle.cv_alone.specs.Parts.{tokens_left_out, queries_in}

-- the bytes from an offset on, with a space in the place of each that is so
unfoldable pub with_spaces_from : (is : (at byte : ℕ) → Bool) → (at : ℕ) → List ℕ → List ℕ
with_spaces_from is at [] = []
with_spaces_from is at (byte ∷ bytes) = (if is at byte then 32 else byte) ∷ with_spaces_from is (at + 1) bytes

abbrev pub with_spaces : (is : (at byte : ℕ) → Bool) → List ℕ → List ℕ
with_spaces is bytes = with_spaces_from is 0 bytes

-- one of so many bytes from an offset on
abbrev pub is_among : (from count at : ℕ) → Bool
is_among from count at = nat_le from at && nat_lt at (from + count)

-- a byte of one of these tokens
abbrev pub is_of : List Token → (at : ℕ) → Bool
is_of ts at = list_any (λ t. is_among t.offset (length t.text) at) ts

-- a byte that ends no line
abbrev pub is_in_line : (byte : ℕ) → Bool
is_in_line byte = not ((byte == 10) || (byte == 13))

-- there is a query with this number
abbrev pub has_query : (number : ℕ) → List Token → Bool
has_query number ts = nat_lt 0 number && nat_le number (queries_in ts)

-- the tokens that are left out become spaces; where there is no query with this number, all bytes do that end no line
abbrev pub alone_by : (number : ℕ) → List ℕ → Result (List Token) LexError → List ℕ
alone_by number bytes (Ok ts) = if has_query number ts then with_spaces (λ at _. is_of (tokens_left_out number ts) at) bytes else with_spaces (λ _ byte. is_in_line byte) bytes
alone_by number bytes (Err e) = bytes

-- the bytes of a file with the query alone that has this number; a text with a fault of the lexis stays
abbrev pub alone : (number : ℕ) → List ℕ → List ℕ
alone number bytes = alone_by number bytes (tokens_of bytes)
