-- The texts of the marks, and the mark of a text.
use Rattle.std.specs.Prelude.{ℕ, List, [], ◌∷◌, Option, Bool, codes, find}
use Rattle.std.specs.Str.{bytes_eq}
use Rattle.cv_parse_notation.specs.declared.sign.Mark.{Mark}
use Rattle.cv_parse_notation.specs.declared.sign.Mark.TheVariants as mark

-- how a mark is written
abbrev pub spelling : Mark → List ℕ
spelling mark.Proof = codes "proof"
spelling mark.Process = codes "process"
spelling mark.Param = codes "param"
spelling mark.Channel = codes "channel"
spelling mark.Proba = codes "proba"
spelling mark.TypeWord = codes "type"
spelling mark.Fixed = codes "fixed"
spelling mark.Large = codes "large"
spelling mark.Bounded = codes "bounded"
spelling mark.ConstWord = codes "const"
spelling mark.Fun = codes "fun"
spelling mark.Data = codes "data"
spelling mark.Compos = codes "compos"
spelling mark.EventWord = codes "event"
spelling mark.EquationWord = codes "equation"
spelling mark.Forall = codes "forall"
spelling mark.Collision = codes "collision"
spelling mark.New = codes "new"
spelling mark.Equiv = codes "equiv"
spelling mark.QueryWord = codes "query"
spelling mark.Secret = codes "secret"
spelling mark.SecretOnce = codes "secret1"
spelling mark.Inj = codes "inj"
spelling mark.Let = codes "let"
spelling mark.In = codes "in"
spelling mark.If = codes "if"
spelling mark.Then = codes "then"
spelling mark.Else = codes "else"
spelling mark.Orfind = codes "orfind"
spelling mark.Suchthat = codes "suchthat"
spelling mark.Yield = codes "yield"
spelling mark.Out = codes "out"
spelling mark.Defined = codes "defined"
spelling mark.Not = codes "not"
spelling mark.True = codes "true"
spelling mark.False = codes "false"
spelling mark.Bool = codes "bool"
spelling mark.Cases = codes "cases"
spelling mark.Open = codes "("
spelling mark.Close = codes ")"
spelling mark.OpenSquare = codes "["
spelling mark.CloseSquare = codes "]"
spelling mark.OpenBrace = codes "{"
spelling mark.CloseBrace = codes "}"
spelling mark.Comma = codes ","
spelling mark.Semicolon = codes ";"
spelling mark.Colon = codes ":"
spelling mark.Dot = codes "."
spelling mark.Bar = codes "|"
spelling mark.Bang = codes "!"
spelling mark.At = codes "@"
spelling mark.Prime = codes "'"
spelling mark.Equal = codes "="
spelling mark.Differ = codes "<>"
spelling mark.AtMost = codes "<="
spelling mark.Gives = codes "=>"
spelling mark.Implies = codes "==>"
spelling mark.Arrow = codes "->"
spelling mark.Both = codes "&&"
spelling mark.Either = codes "||"
spelling mark.OpenAtoms = codes "("
spelling mark.Becomes = codes ":="
spelling mark.LeftArrow = codes "<-"

-- the marks that a text tells, the most frequent ones first: of the two kinds of an opening parenthesis what follows tells
abbrev pub marks : List Mark
marks =
    mark.Comma ∷ mark.Open ∷ mark.Close ∷ mark.Semicolon ∷ mark.Colon ∷ mark.In ∷ mark.Out ∷ mark.New ∷ mark.Equal ∷ mark.Let ∷
    mark.Dot ∷ mark.If ∷ mark.Then ∷ mark.Else ∷ mark.OpenSquare ∷ mark.CloseSquare ∷ mark.Bang ∷ mark.AtMost ∷ mark.Bar ∷ mark.Not ∷
    mark.Suchthat ∷ mark.Orfind ∷ mark.Defined ∷ mark.Both ∷ mark.Either ∷ mark.Differ ∷ mark.Yield ∷ mark.Arrow ∷ mark.Gives ∷ mark.Implies ∷
    mark.At ∷ mark.OpenBrace ∷ mark.CloseBrace ∷ mark.Prime ∷ mark.EventWord ∷ mark.TypeWord ∷ mark.Channel ∷ mark.Fun ∷ mark.ConstWord ∷ mark.Param ∷
    mark.Bool ∷ mark.Data ∷ mark.Fixed ∷ mark.Large ∷ mark.True ∷ mark.False ∷ mark.QueryWord ∷ mark.Secret ∷ mark.SecretOnce ∷ mark.Forall ∷
    mark.EquationWord ∷ mark.Collision ∷ mark.Equiv ∷ mark.Inj ∷ mark.Bounded ∷ mark.Compos ∷ mark.Proba ∷ mark.Process ∷ mark.Proof ∷ mark.Cases ∷ mark.Becomes ∷ mark.LeftArrow ∷ []

-- a mark has this text
abbrev pub is_spelled : List ℕ → Mark → Bool
is_spelled text m = bytes_eq (spelling m) text

-- the mark with this text, if there is one
unfoldable pub mark_of_text : List ℕ → Option Mark
mark_of_text text = find (is_spelled text) marks

-- the mark that its text tells
abbrev pub as_told : Mark → Mark
as_told mark.OpenAtoms = mark.Open
as_told m = m
