-- The texts of the words of scripts, and the word of a text.
use Rattle.std.specs.Prelude.{ℕ, List, [], ◌∷◌, Option, Some, None, Bool, codes, find}
use Rattle.std.specs.Str.{bytes_eq}
use Rattle.cv_parse_notation.specs.declared.script.ScriptWord.{ScriptWord}
use Rattle.cv_parse_notation.specs.declared.script.ScriptWord.TheVariants as script

-- how a word is written; a plain word has no text of its own
abbrev pub word_spelling : ScriptWord → List ℕ
word_spelling script.Plain = codes ""
word_spelling script.Rename = codes "rename"
word_spelling script.To = codes "to"
word_spelling script.Rewrite = codes "rewrite"
word_spelling script.By = codes "by"
word_spelling script.Prune = codes "prune"
word_spelling script.Pick = codes "pick"
word_spelling script.Merge = codes "merge"
word_spelling script.Split = codes "split"
word_spelling script.Unlet = codes "unlet"
word_spelling script.Unnew = codes "unnew"
word_spelling script.Move = codes "move"
word_spelling script.ArrayRename = codes "SArename"
word_spelling script.Codef = codes "codef"
word_spelling script.Add = codes "add"
word_spelling script.Drop = codes "drop"
word_spelling script.From = codes "from"
word_spelling script.Birthday = codes "birthday"
word_spelling script.At = codes "at"
word_spelling script.Guess = codes "guess"
word_spelling script.Fresh = codes "fresh"
word_spelling script.Crypto = codes "crypto"
word_spelling script.Success = codes "success"
word_spelling script.Simplify = codes "simplify"
word_spelling script.Events = codes "events"
word_spelling script.Never = codes "never"
word_spelling script.With = codes "with"
word_spelling script.Above = codes "above"
word_spelling script.Cell = codes "cell"
word_spelling script.Holds = codes "holds"
word_spelling script.Distinct = codes "distinct"
word_spelling script.Pair = codes "pair"
word_spelling script.Fact = codes "fact"
word_spelling script.Here = codes "here"
word_spelling script.Of = codes "of"
word_spelling script.Site = codes "site"
word_spelling script.Refl = codes "refl"
word_spelling script.Sym = codes "sym"
word_spelling script.Trans = codes "trans"
word_spelling script.Cong = codes "cong"
word_spelling script.Mp = codes "mp"
word_spelling script.And = codes "and"
word_spelling script.Left = codes "left"
word_spelling script.Right = codes "right"
word_spelling script.Contra = codes "contra"
word_spelling script.Exfalso = codes "exfalso"
word_spelling script.Given = codes "given"
word_spelling script.Again = codes "again"
word_spelling script.OtherFact = codes "fact2"
word_spelling script.OtherHere = codes "here2"
word_spelling script.Same = codes "same"
word_spelling script.Late = codes "late"
word_spelling script.Alt = codes "alt"

-- the words of scripts
abbrev pub words : List ScriptWord
words =
    script.Rename ∷ script.To ∷ script.Rewrite ∷ script.By ∷ script.Prune ∷ script.Pick ∷ script.Merge ∷ script.Split ∷ script.Unlet ∷ script.Unnew ∷
    script.Move ∷ script.ArrayRename ∷ script.Codef ∷ script.Add ∷ script.Drop ∷ script.From ∷ script.Birthday ∷ script.At ∷ script.Guess ∷ script.Fresh ∷
    script.Crypto ∷ script.Success ∷ script.Simplify ∷ script.Events ∷ script.Never ∷ script.With ∷ script.Above ∷ script.Cell ∷ script.Holds ∷ script.Distinct ∷
    script.Pair ∷ script.Fact ∷ script.Here ∷ script.Of ∷ script.Site ∷ script.Refl ∷ script.Sym ∷ script.Trans ∷ script.Cong ∷ script.Mp ∷
    script.And ∷ script.Left ∷ script.Right ∷ script.Contra ∷ script.Exfalso ∷ script.Given ∷ script.Again ∷ script.OtherFact ∷ script.OtherHere ∷ script.Same ∷
    script.Late ∷ script.Alt ∷ []

-- a word has this text
abbrev pub is_word_spelled : List ℕ → ScriptWord → Bool
is_word_spelled text w = bytes_eq (word_spelling w) text

-- the word with this text, if there is one
unfoldable pub word_with : List ℕ → Option ScriptWord
word_with text = find (is_word_spelled text) words

-- a word, or a plain one
abbrev pub word_or_plain : Option ScriptWord → ScriptWord
word_or_plain None = script.Plain
word_or_plain (Some w) = w

-- the word with this text, or a plain one
abbrev pub word_of_text : List ℕ → ScriptWord
word_of_text text = word_or_plain (word_with text)
