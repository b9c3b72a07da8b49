-- The mark of a text and the text of a mark.
use Rattle.std.proofs.Common.{◌≡◌, ℕ, List, [], ◌∷◌, Option, Some, None, Bool, true, false, refl, codes, cond, find}
use Rattle.std.proofs.lemmas.Slice.Eq.{bytes_eq-Decides}
use Rattle.cv_parse_notation.specs.declared.sign.Mark.{Mark}
use Rattle.cv_parse_notation.specs.declared.sign.Mark.TheVariants as mark
use Rattle.cv_parse_tables.specs.spelling.Spelling.{as_told, spelling, marks, is_spelled, mark_of_text}

-- each mark is found by its text
pub found : (m : Mark) → mark_of_text (spelling m) ≡ Some (as_told m)
unfolding mark_of_text
found mark.Proof = refl
found mark.Process = refl
found mark.Param = refl
found mark.Channel = refl
found mark.Proba = refl
found mark.TypeWord = refl
found mark.Fixed = refl
found mark.Large = refl
found mark.Bounded = refl
found mark.ConstWord = refl
found mark.Fun = refl
found mark.Data = refl
found mark.Compos = refl
found mark.EventWord = refl
found mark.EquationWord = refl
found mark.Forall = refl
found mark.Collision = refl
found mark.New = refl
found mark.Equiv = refl
found mark.QueryWord = refl
found mark.Secret = refl
found mark.SecretOnce = refl
found mark.Inj = refl
found mark.Let = refl
found mark.In = refl
found mark.If = refl
found mark.Then = refl
found mark.Else = refl
found mark.Orfind = refl
found mark.Suchthat = refl
found mark.Yield = refl
found mark.Out = refl
found mark.Defined = refl
found mark.Not = refl
found mark.True = refl
found mark.False = refl
found mark.Bool = refl
found mark.Cases = refl
found mark.Open = refl
found mark.Close = refl
found mark.OpenSquare = refl
found mark.CloseSquare = refl
found mark.OpenBrace = refl
found mark.CloseBrace = refl
found mark.Comma = refl
found mark.Semicolon = refl
found mark.Colon = refl
found mark.Dot = refl
found mark.Bar = refl
found mark.Bang = refl
found mark.At = refl
found mark.Prime = refl
found mark.Equal = refl
found mark.Differ = refl
found mark.AtMost = refl
found mark.Gives = refl
found mark.Implies = refl
found mark.Arrow = refl
found mark.Both = refl
found mark.Either = refl
found mark.OpenAtoms = refl
found mark.Becomes = refl
found mark.LeftArrow = refl

-- `find` is no mark
pub find_is_none : mark_of_text (codes "find") ≡ None
unfolding mark_of_text
find_is_none = refl

-- what is found among marks passes the test
passes_at : (b : Bool) (text : List ℕ) (k m : Mark) (rest : Option Mark) → is_spelled text k ≡ b → (rest ≡ Some m → is_spelled text m ≡ true) → cond b (Some k) rest ≡ Some m → is_spelled text m ≡ true
passes_at true text k m rest is later e = let same : k ≡ m = cc in cc
passes_at false text k m rest is later e = later e

passes : (text : List ℕ) (ms : List Mark) (m : Mark) → find (is_spelled text) ms ≡ Some m → is_spelled text m ≡ true
passes text [] m e = absurd (cc)
passes text (k ∷ ms) m e = passes_at (is_spelled text k) text k m (find (is_spelled text) ms) refl (passes text ms m) e

-- what is found has the text
pub only : (text : List ℕ) (m : Mark) → mark_of_text text ≡ Some m → spelling m ≡ text
unfolding mark_of_text
only text m e = (bytes_eq-Decides (spelling m) text).0 (passes text marks m e)
