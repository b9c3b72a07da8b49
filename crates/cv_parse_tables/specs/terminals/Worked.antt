-- A small file with a proof block, and a right side.
use Rattle.std.specs.Prelude.{ℕ, List, [], ◌∷◌, codes}
use Rattle.cv_lex.specs.declared.TokenKind.TheVariants as kind
use Rattle.cv_lex.specs.Lexis.{Token, end_token}
use Rattle.cv_parse_notation.specs.declared.script.ScriptWord.TheVariants.{Plain}
use Rattle.cv_parse_notation.specs.declared.sign.Mark.{Mark}
use Rattle.cv_parse_notation.specs.declared.sign.Mark.TheVariants as mark
use Rattle.cv_parse_notation.specs.declared.sign.Sign.{Sign}
use Rattle.cv_parse_notation.specs.declared.sign.Sign.TheVariants as sign

-- an identifier, or a symbol, at the front
abbrev pub word : List ℕ → Token
word text = record { kind = kind.Ident; text = text; offset = 0 }

abbrev pub symbol : List ℕ → Token
symbol text = record { kind = kind.Symbol; text = text; offset = 0 }

-- `channel c. proof { c { x find } collision new y } process in(c, z)`, without its places
abbrev pub small : List Token
small =
    word (codes "channel") ∷ word (codes "c") ∷ symbol (codes ".") ∷
    word (codes "proof") ∷ symbol (codes "{") ∷
    word (codes "c") ∷ symbol (codes "{") ∷ word (codes "x") ∷ word (codes "find") ∷ symbol (codes "}") ∷
    word (codes "collision") ∷ word (codes "new") ∷ word (codes "y") ∷ symbol (codes "}") ∷
    word (codes "process") ∷ word (codes "in") ∷ symbol (codes "(") ∷ word (codes "c") ∷ symbol (codes ",") ∷
    word (codes "z") ∷ symbol (codes ")") ∷ end_token 0 ∷ []

-- its names
abbrev pub small_names : List (List ℕ)
small_names = codes "bool" ∷ codes "c" ∷ codes "z" ∷ []

-- a right side, `==> ((x) = y && event e) || (x) = y .`, whose first parenthesis is of this kind
abbrev pub small_right_side : Mark → List Sign
small_right_side first =
    sign.Mark mark.Implies ∷ sign.Mark first ∷ sign.Mark mark.Open ∷ sign.Word 1 Plain ∷ sign.Mark mark.Close ∷ sign.Mark mark.Equal ∷ sign.Word 2 Plain ∷
    sign.Mark mark.Both ∷ sign.Mark mark.EventWord ∷ sign.Word 3 Plain ∷ sign.Mark mark.Close ∷
    sign.Mark mark.Either ∷ sign.Mark mark.Open ∷ sign.Word 1 Plain ∷ sign.Mark mark.Close ∷ sign.Mark mark.Equal ∷ sign.Word 2 Plain ∷ sign.Mark mark.Dot ∷ []
