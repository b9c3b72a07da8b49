-- Codes of the words of scripts, by which these words are compared.
use Rattle.std.specs.Prelude.{◌≡◌, ℕ, Bool, ◌==◌, ◌<◌, List, [], ◌∷◌, slice_index_or, refl}
use Rattle.std.proofs.Common.{lit<}
use Rattle.cv_parse_notation.specs.declared.script.ScriptWord.{ScriptWord}
use Rattle.cv_parse_notation.specs.declared.script.ScriptWord.TheVariants as script

abbrev pub word_code : ScriptWord → ℕ
word_code script.Plain = 0
word_code script.Rename = 1
word_code script.To = 2
word_code script.Rewrite = 3
word_code script.By = 4
word_code script.Prune = 5
word_code script.Pick = 6
word_code script.Merge = 7
word_code script.Split = 8
word_code script.Unlet = 9
word_code script.Unnew = 10
word_code script.Move = 11
word_code script.ArrayRename = 12
word_code script.Codef = 13
word_code script.Add = 14
word_code script.Drop = 15
word_code script.From = 16
word_code script.Birthday = 17
word_code script.At = 18
word_code script.Guess = 19
word_code script.Fresh = 20
word_code script.Crypto = 21
word_code script.Success = 22
word_code script.Simplify = 23
word_code script.Events = 24
word_code script.Never = 25
word_code script.With = 26
word_code script.Above = 27
word_code script.Cell = 28
word_code script.Holds = 29
word_code script.Distinct = 30
word_code script.Pair = 31
word_code script.Fact = 32
word_code script.Here = 33
word_code script.Of = 34
word_code script.Site = 35
word_code script.Refl = 36
word_code script.Sym = 37
word_code script.Trans = 38
word_code script.Cong = 39
word_code script.Mp = 40
word_code script.And = 41
word_code script.Left = 42
word_code script.Right = 43
word_code script.Contra = 44
word_code script.Exfalso = 45
word_code script.Given = 46
word_code script.Again = 47
word_code script.OtherFact = 48
word_code script.OtherHere = 49
word_code script.Same = 50
word_code script.Late = 51
word_code script.Alt = 52

-- all of them, by their codes
abbrev pub every_word : List ScriptWord
every_word =
    script.Plain ∷ script.Rename ∷ script.To ∷ script.Rewrite ∷ script.By ∷ script.Prune ∷ script.Pick ∷ script.Merge ∷ script.Split ∷ script.Unlet ∷
    script.Unnew ∷ script.Move ∷ script.ArrayRename ∷ script.Codef ∷ script.Add ∷ script.Drop ∷ script.From ∷ script.Birthday ∷ script.At ∷ script.Guess ∷
    script.Fresh ∷ script.Crypto ∷ script.Success ∷ script.Simplify ∷ script.Events ∷ script.Never ∷ script.With ∷ script.Above ∷ script.Cell ∷ script.Holds ∷
    script.Distinct ∷ script.Pair ∷ script.Fact ∷ script.Here ∷ script.Of ∷ script.Site ∷ script.Refl ∷ script.Sym ∷ script.Trans ∷ script.Cong ∷
    script.Mp ∷ script.And ∷ script.Left ∷ script.Right ∷ script.Contra ∷ script.Exfalso ∷ script.Given ∷ script.Again ∷ script.OtherFact ∷ script.OtherHere ∷
    script.Same ∷ script.Late ∷ script.Alt ∷ []

abbrev pub word_of : ℕ → ScriptWord
word_of n = slice_index_or every_word n script.Plain

pub word_of_code : (w : ScriptWord) → word_of (word_code w) ≡ w
word_of_code script.Plain = refl
word_of_code script.Rename = refl
word_of_code script.To = refl
word_of_code script.Rewrite = refl
word_of_code script.By = refl
word_of_code script.Prune = refl
word_of_code script.Pick = refl
word_of_code script.Merge = refl
word_of_code script.Split = refl
word_of_code script.Unlet = refl
word_of_code script.Unnew = refl
word_of_code script.Move = refl
word_of_code script.ArrayRename = refl
word_of_code script.Codef = refl
word_of_code script.Add = refl
word_of_code script.Drop = refl
word_of_code script.From = refl
word_of_code script.Birthday = refl
word_of_code script.At = refl
word_of_code script.Guess = refl
word_of_code script.Fresh = refl
word_of_code script.Crypto = refl
word_of_code script.Success = refl
word_of_code script.Simplify = refl
word_of_code script.Events = refl
word_of_code script.Never = refl
word_of_code script.With = refl
word_of_code script.Above = refl
word_of_code script.Cell = refl
word_of_code script.Holds = refl
word_of_code script.Distinct = refl
word_of_code script.Pair = refl
word_of_code script.Fact = refl
word_of_code script.Here = refl
word_of_code script.Of = refl
word_of_code script.Site = refl
word_of_code script.Refl = refl
word_of_code script.Sym = refl
word_of_code script.Trans = refl
word_of_code script.Cong = refl
word_of_code script.Mp = refl
word_of_code script.And = refl
word_of_code script.Left = refl
word_of_code script.Right = refl
word_of_code script.Contra = refl
word_of_code script.Exfalso = refl
word_of_code script.Given = refl
word_of_code script.Again = refl
word_of_code script.OtherFact = refl
word_of_code script.OtherHere = refl
word_of_code script.Same = refl
word_of_code script.Late = refl
word_of_code script.Alt = refl

abbrev pub same_word : ScriptWord → ScriptWord → Bool
same_word v w = word_code v == word_code w

pub word_code_below : (w : ScriptWord) → word_code w < 53
word_code_below script.Plain = lit< tt
word_code_below script.Rename = lit< tt
word_code_below script.To = lit< tt
word_code_below script.Rewrite = lit< tt
word_code_below script.By = lit< tt
word_code_below script.Prune = lit< tt
word_code_below script.Pick = lit< tt
word_code_below script.Merge = lit< tt
word_code_below script.Split = lit< tt
word_code_below script.Unlet = lit< tt
word_code_below script.Unnew = lit< tt
word_code_below script.Move = lit< tt
word_code_below script.ArrayRename = lit< tt
word_code_below script.Codef = lit< tt
word_code_below script.Add = lit< tt
word_code_below script.Drop = lit< tt
word_code_below script.From = lit< tt
word_code_below script.Birthday = lit< tt
word_code_below script.At = lit< tt
word_code_below script.Guess = lit< tt
word_code_below script.Fresh = lit< tt
word_code_below script.Crypto = lit< tt
word_code_below script.Success = lit< tt
word_code_below script.Simplify = lit< tt
word_code_below script.Events = lit< tt
word_code_below script.Never = lit< tt
word_code_below script.With = lit< tt
word_code_below script.Above = lit< tt
word_code_below script.Cell = lit< tt
word_code_below script.Holds = lit< tt
word_code_below script.Distinct = lit< tt
word_code_below script.Pair = lit< tt
word_code_below script.Fact = lit< tt
word_code_below script.Here = lit< tt
word_code_below script.Of = lit< tt
word_code_below script.Site = lit< tt
word_code_below script.Refl = lit< tt
word_code_below script.Sym = lit< tt
word_code_below script.Trans = lit< tt
word_code_below script.Cong = lit< tt
word_code_below script.Mp = lit< tt
word_code_below script.And = lit< tt
word_code_below script.Left = lit< tt
word_code_below script.Right = lit< tt
word_code_below script.Contra = lit< tt
word_code_below script.Exfalso = lit< tt
word_code_below script.Given = lit< tt
word_code_below script.Again = lit< tt
word_code_below script.OtherFact = lit< tt
word_code_below script.OtherHere = lit< tt
word_code_below script.Same = lit< tt
word_code_below script.Late = lit< tt
word_code_below script.Alt = lit< tt
