-- The parts of a file, and those that are left out where one query stands alone: the other queries, and the proof block.
use Rattle.std.specs.Prelude.{Bool, true, false, not, ◌==◌, if◌then◌else◌, ℕ, ◌+◌, ◌-◌, List, [], ◌∷◌, codes}
use Rattle.std.specs.Str.{bytes_eq}
use Rattle.cv_lex.specs.declared.TokenKind.{TokenKind}
use Rattle.cv_lex.specs.declared.TokenKind.TheVariants.{End}
use Rattle.cv_lex.specs.Lexis.{Token}
use Rattle.cv_alone.specs.declared.parts.Part.{Part}
use Rattle.cv_alone.specs.declared.parts.Part.TheVariants.{Outside, Query, Block}
use Rattle.cv_alone.specs.declared.parts.Reading.{Reading}

-- A query is what stands from a word `query` up to the next `.`, and a proof block what stands from a word `proof` up to the brace that
-- closes the first one behind it; where this doesn't follow, up to the end. No part begins in another one.

-- the part to which a token with this text belongs, by the one that is open before it
abbrev pub part_at : Part → List ℕ → Part
part_at Outside text = if bytes_eq text (codes "query") then Query else (if bytes_eq text (codes "proof") then Block 0 else Outside)
part_at part text = part

-- behind a closing brace of a block, where so many were open before it
abbrev pub block_behind : (depth : ℕ) → Part
block_behind depth = if depth == 1 then Outside else Block (depth - 1)

-- the part that is open behind a token of one
abbrev pub part_behind : Part → List ℕ → Part
part_behind Outside text = Outside
part_behind Query text = if bytes_eq text (codes ".") then Outside else Query
part_behind (Block depth) text = if bytes_eq text (codes "{") then Block (depth + 1) else (if bytes_eq text (codes "}") then block_behind depth else Block depth)

-- a query begins at a token, by the part that is open before it
abbrev pub begins_query : Part → List ℕ → Bool
begins_query Outside text = bytes_eq text (codes "query")
begins_query part text = false

-- A reading has the part, and how many queries have begun: before the first token, at a token, and behind it.

abbrev pub at_start : Reading
at_start = record { part = Outside; queries = 0 }

abbrev pub at_token : Reading → List ℕ → Reading
at_token r text = record { part = part_at r.part text; queries = if begins_query r.part text then r.queries + 1 else r.queries }

abbrev pub behind_token : Reading → List ℕ → Reading
behind_token r text = record { part = part_behind r.part text; queries = r.queries }

-- behind tokens
unfoldable pub behind_all : Reading → List Token → Reading
behind_all r [] = r
behind_all r (t ∷ ts) = behind_all (behind_token (at_token r t.text) t.text) ts

-- how many queries tokens have
abbrev pub queries_in : List Token → ℕ
queries_in ts = (behind_all at_start ts).queries

-- what is left out: proof blocks, and queries with another number; the first one has number 1

abbrev pub is_other : Part → (is_number : Bool) → Bool
is_other Outside is_number = false
is_other Query is_number = not is_number
is_other (Block depth) is_number = true

abbrev pub is_left_out : (number : ℕ) → Reading → Bool
is_left_out number r = is_other r.part (r.queries == number)

abbrev pub put_if : Bool → Token → List Token → List Token
put_if true t ts = t ∷ ts
put_if false t ts = ts

unfoldable pub left_out_from : (number : ℕ) → Reading → List Token → List Token
left_out_from number r [] = []
left_out_from number r (t ∷ ts) =
    let here = at_token r t.text in
    put_if (is_left_out number here) t (left_out_from number (behind_token here t.text) ts)

-- the tokens that are left out for the query with this number
abbrev pub tokens_left_out : (number : ℕ) → List Token → List Token
tokens_left_out number ts = left_out_from number at_start ts

-- what stays: all other tokens, and the end token

abbrev pub stays : (number : ℕ) → Reading → TokenKind → Bool
stays number r End = true
stays number r kind = not (is_left_out number r)

unfoldable pub kept_from : (number : ℕ) → Reading → List Token → List Token
kept_from number r [] = []
kept_from number r (t ∷ ts) =
    let here = at_token r t.text in
    put_if (stays number here t.kind) t (kept_from number (behind_token here t.text) ts)

abbrev pub tokens_kept : (number : ℕ) → List Token → List Token
tokens_kept number ts = kept_from number at_start ts
