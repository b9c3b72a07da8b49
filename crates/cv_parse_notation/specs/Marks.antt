-- Codes of marks, by which marks are compared.
use Rattle.std.specs.Prelude.{◌≡◌, ℕ, Bool, ◌==◌, ◌<◌, List, [], ◌∷◌, slice_index_or, refl}
use Rattle.std.proofs.Common.{lit<}
use Rattle.cv_parse_notation.specs.declared.sign.Mark.{Mark}
use Rattle.cv_parse_notation.specs.declared.sign.Mark.TheVariants as mark

abbrev pub mark_code : Mark → ℕ
mark_code mark.Proof = 0
mark_code mark.Process = 1
mark_code mark.Param = 2
mark_code mark.Channel = 3
mark_code mark.Proba = 4
mark_code mark.TypeWord = 5
mark_code mark.Fixed = 6
mark_code mark.Large = 7
mark_code mark.Bounded = 8
mark_code mark.ConstWord = 9
mark_code mark.Fun = 10
mark_code mark.Data = 11
mark_code mark.Compos = 12
mark_code mark.EventWord = 13
mark_code mark.EquationWord = 14
mark_code mark.Forall = 15
mark_code mark.Collision = 16
mark_code mark.New = 17
mark_code mark.Equiv = 18
mark_code mark.QueryWord = 19
mark_code mark.Secret = 20
mark_code mark.SecretOnce = 21
mark_code mark.Inj = 22
mark_code mark.Let = 23
mark_code mark.In = 24
mark_code mark.If = 25
mark_code mark.Then = 26
mark_code mark.Else = 27
mark_code mark.Orfind = 28
mark_code mark.Suchthat = 29
mark_code mark.Yield = 30
mark_code mark.Out = 31
mark_code mark.Defined = 32
mark_code mark.Not = 33
mark_code mark.True = 34
mark_code mark.False = 35
mark_code mark.Bool = 36
mark_code mark.Cases = 37
mark_code mark.Open = 38
mark_code mark.Close = 39
mark_code mark.OpenSquare = 40
mark_code mark.CloseSquare = 41
mark_code mark.OpenBrace = 42
mark_code mark.CloseBrace = 43
mark_code mark.Comma = 44
mark_code mark.Semicolon = 45
mark_code mark.Colon = 46
mark_code mark.Dot = 47
mark_code mark.Bar = 48
mark_code mark.Bang = 49
mark_code mark.At = 50
mark_code mark.Prime = 51
mark_code mark.Equal = 52
mark_code mark.Differ = 53
mark_code mark.AtMost = 54
mark_code mark.Gives = 55
mark_code mark.Implies = 56
mark_code mark.Arrow = 57
mark_code mark.Both = 58
mark_code mark.Either = 59
mark_code mark.OpenAtoms = 60
mark_code mark.Becomes = 61
mark_code mark.LeftArrow = 62

-- all of them, by their codes
abbrev pub every_mark : List Mark
every_mark =
    mark.Proof ∷ mark.Process ∷ mark.Param ∷ mark.Channel ∷ mark.Proba ∷ mark.TypeWord ∷ mark.Fixed ∷ mark.Large ∷ mark.Bounded ∷ mark.ConstWord ∷
    mark.Fun ∷ mark.Data ∷ mark.Compos ∷ mark.EventWord ∷ mark.EquationWord ∷ mark.Forall ∷ mark.Collision ∷ mark.New ∷ mark.Equiv ∷ mark.QueryWord ∷
    mark.Secret ∷ mark.SecretOnce ∷ mark.Inj ∷ mark.Let ∷ mark.In ∷ mark.If ∷ mark.Then ∷ mark.Else ∷ mark.Orfind ∷ mark.Suchthat ∷
    mark.Yield ∷ mark.Out ∷ mark.Defined ∷ mark.Not ∷ mark.True ∷ mark.False ∷ mark.Bool ∷ mark.Cases ∷ mark.Open ∷ mark.Close ∷
    mark.OpenSquare ∷ mark.CloseSquare ∷ mark.OpenBrace ∷ mark.CloseBrace ∷ mark.Comma ∷ mark.Semicolon ∷ mark.Colon ∷ mark.Dot ∷ mark.Bar ∷ mark.Bang ∷
    mark.At ∷ mark.Prime ∷ mark.Equal ∷ mark.Differ ∷ mark.AtMost ∷ mark.Gives ∷ mark.Implies ∷ mark.Arrow ∷ mark.Both ∷ mark.Either ∷
    mark.OpenAtoms ∷ mark.Becomes ∷ mark.LeftArrow ∷ []

abbrev pub mark_of : ℕ → Mark
mark_of n = slice_index_or every_mark n mark.Proof

pub mark_of_code : (m : Mark) → mark_of (mark_code m) ≡ m
mark_of_code mark.Proof = refl
mark_of_code mark.Process = refl
mark_of_code mark.Param = refl
mark_of_code mark.Channel = refl
mark_of_code mark.Proba = refl
mark_of_code mark.TypeWord = refl
mark_of_code mark.Fixed = refl
mark_of_code mark.Large = refl
mark_of_code mark.Bounded = refl
mark_of_code mark.ConstWord = refl
mark_of_code mark.Fun = refl
mark_of_code mark.Data = refl
mark_of_code mark.Compos = refl
mark_of_code mark.EventWord = refl
mark_of_code mark.EquationWord = refl
mark_of_code mark.Forall = refl
mark_of_code mark.Collision = refl
mark_of_code mark.New = refl
mark_of_code mark.Equiv = refl
mark_of_code mark.QueryWord = refl
mark_of_code mark.Secret = refl
mark_of_code mark.SecretOnce = refl
mark_of_code mark.Inj = refl
mark_of_code mark.Let = refl
mark_of_code mark.In = refl
mark_of_code mark.If = refl
mark_of_code mark.Then = refl
mark_of_code mark.Else = refl
mark_of_code mark.Orfind = refl
mark_of_code mark.Suchthat = refl
mark_of_code mark.Yield = refl
mark_of_code mark.Out = refl
mark_of_code mark.Defined = refl
mark_of_code mark.Not = refl
mark_of_code mark.True = refl
mark_of_code mark.False = refl
mark_of_code mark.Bool = refl
mark_of_code mark.Cases = refl
mark_of_code mark.Open = refl
mark_of_code mark.Close = refl
mark_of_code mark.OpenSquare = refl
mark_of_code mark.CloseSquare = refl
mark_of_code mark.OpenBrace = refl
mark_of_code mark.CloseBrace = refl
mark_of_code mark.Comma = refl
mark_of_code mark.Semicolon = refl
mark_of_code mark.Colon = refl
mark_of_code mark.Dot = refl
mark_of_code mark.Bar = refl
mark_of_code mark.Bang = refl
mark_of_code mark.At = refl
mark_of_code mark.Prime = refl
mark_of_code mark.Equal = refl
mark_of_code mark.Differ = refl
mark_of_code mark.AtMost = refl
mark_of_code mark.Gives = refl
mark_of_code mark.Implies = refl
mark_of_code mark.Arrow = refl
mark_of_code mark.Both = refl
mark_of_code mark.Either = refl
mark_of_code mark.OpenAtoms = refl
mark_of_code mark.Becomes = refl
mark_of_code mark.LeftArrow = refl

abbrev pub same_mark : Mark → Mark → Bool
same_mark m k = mark_code m == mark_code k

pub mark_code_below : (m : Mark) → mark_code m < 63
mark_code_below mark.Proof = lit< tt
mark_code_below mark.Process = lit< tt
mark_code_below mark.Param = lit< tt
mark_code_below mark.Channel = lit< tt
mark_code_below mark.Proba = lit< tt
mark_code_below mark.TypeWord = lit< tt
mark_code_below mark.Fixed = lit< tt
mark_code_below mark.Large = lit< tt
mark_code_below mark.Bounded = lit< tt
mark_code_below mark.ConstWord = lit< tt
mark_code_below mark.Fun = lit< tt
mark_code_below mark.Data = lit< tt
mark_code_below mark.Compos = lit< tt
mark_code_below mark.EventWord = lit< tt
mark_code_below mark.EquationWord = lit< tt
mark_code_below mark.Forall = lit< tt
mark_code_below mark.Collision = lit< tt
mark_code_below mark.New = lit< tt
mark_code_below mark.Equiv = lit< tt
mark_code_below mark.QueryWord = lit< tt
mark_code_below mark.Secret = lit< tt
mark_code_below mark.SecretOnce = lit< tt
mark_code_below mark.Inj = lit< tt
mark_code_below mark.Let = lit< tt
mark_code_below mark.In = lit< tt
mark_code_below mark.If = lit< tt
mark_code_below mark.Then = lit< tt
mark_code_below mark.Else = lit< tt
mark_code_below mark.Orfind = lit< tt
mark_code_below mark.Suchthat = lit< tt
mark_code_below mark.Yield = lit< tt
mark_code_below mark.Out = lit< tt
mark_code_below mark.Defined = lit< tt
mark_code_below mark.Not = lit< tt
mark_code_below mark.True = lit< tt
mark_code_below mark.False = lit< tt
mark_code_below mark.Bool = lit< tt
mark_code_below mark.Cases = lit< tt
mark_code_below mark.Open = lit< tt
mark_code_below mark.Close = lit< tt
mark_code_below mark.OpenSquare = lit< tt
mark_code_below mark.CloseSquare = lit< tt
mark_code_below mark.OpenBrace = lit< tt
mark_code_below mark.CloseBrace = lit< tt
mark_code_below mark.Comma = lit< tt
mark_code_below mark.Semicolon = lit< tt
mark_code_below mark.Colon = lit< tt
mark_code_below mark.Dot = lit< tt
mark_code_below mark.Bar = lit< tt
mark_code_below mark.Bang = lit< tt
mark_code_below mark.At = lit< tt
mark_code_below mark.Prime = lit< tt
mark_code_below mark.Equal = lit< tt
mark_code_below mark.Differ = lit< tt
mark_code_below mark.AtMost = lit< tt
mark_code_below mark.Gives = lit< tt
mark_code_below mark.Implies = lit< tt
mark_code_below mark.Arrow = lit< tt
mark_code_below mark.Both = lit< tt
mark_code_below mark.Either = lit< tt
mark_code_below mark.OpenAtoms = lit< tt
mark_code_below mark.Becomes = lit< tt
mark_code_below mark.LeftArrow = lit< tt
