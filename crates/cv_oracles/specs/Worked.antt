-- A small oracle file: behind `else` the oracle is the one of the test, and not the one that was defined last.
use Rattle.std.specs.Prelude.{ℕ, List, [], ◌∷◌, codes, map}
use Rattle.cv_lex.specs.Lexis.{Token, end_token}
use Rattle.cv_parse_tables.specs.terminals.Worked.{symbol, word}

-- `oracles process O(a: bool) := if a then return; P() := end else return`, without its places
abbrev pub small : List Token
small =
    word (codes "oracles") ∷ word (codes "process") ∷ word (codes "O") ∷ symbol (codes "(") ∷ word (codes "a") ∷ symbol (codes ":") ∷ word (codes "bool") ∷
    symbol (codes ")") ∷ symbol (codes ":=") ∷ word (codes "if") ∷ word (codes "a") ∷ word (codes "then") ∷ word (codes "return") ∷ symbol (codes ";") ∷
    word (codes "P") ∷ symbol (codes "(") ∷ symbol (codes ")") ∷ symbol (codes ":=") ∷ word (codes "end") ∷ word (codes "else") ∷ word (codes "return") ∷
    end_token 0 ∷ []

-- `channel O, P. process in(O, (a: bool)); if a then out(O, ()); in(P, ()); yield else out(O, ())`
abbrev pub small_texts : List (List ℕ)
small_texts =
    codes "channel" ∷ codes "O" ∷ codes "," ∷ codes "P" ∷ codes "." ∷ codes "process" ∷ codes "in" ∷ codes "(" ∷ codes "O" ∷ codes "," ∷ codes "(" ∷ codes "a" ∷
    codes ":" ∷ codes "bool" ∷ codes ")" ∷ codes ")" ∷ codes ";" ∷ codes "if" ∷ codes "a" ∷ codes "then" ∷ codes "out" ∷ codes "(" ∷ codes "O" ∷ codes "," ∷
    codes "(" ∷ codes ")" ∷ codes ")" ∷ codes ";" ∷ codes "in" ∷ codes "(" ∷ codes "P" ∷ codes "," ∷ codes "(" ∷ codes ")" ∷ codes ")" ∷ codes ";" ∷
    codes "yield" ∷ codes "else" ∷ codes "out" ∷ codes "(" ∷ codes "O" ∷ codes "," ∷ codes "(" ∷ codes ")" ∷ codes ")" ∷ codes "" ∷ []

-- the tokens that these are written for
abbrev pub small_numbers : List ℕ
small_numbers =
    1 ∷ 2 ∷ 1 ∷ 14 ∷ 1 ∷ 1 ∷ 2 ∷ 2 ∷ 2 ∷ 2 ∷ 3 ∷ 4 ∷ 5 ∷ 6 ∷ 7 ∷ 8 ∷ 8 ∷ 9 ∷ 10 ∷ 11 ∷ 12 ∷ 12 ∷ 12 ∷ 12 ∷ 12 ∷ 12 ∷ 12 ∷ 13 ∷ 14 ∷ 14 ∷ 14 ∷ 14 ∷ 15 ∷ 16 ∷ 17 ∷ 17 ∷
    18 ∷ 19 ∷ 20 ∷ 20 ∷ 20 ∷ 20 ∷ 20 ∷ 20 ∷ 20 ∷ 21 ∷ []

abbrev pub text_of : Token → List ℕ
text_of t = t.text

abbrev pub number_of : Token → ℕ
number_of t = t.offset
