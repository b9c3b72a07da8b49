-- Which word of its text is a node's own: that of its construct, its operator, or the name that it reads or calls.
use Rattle.std.specs.Prelude.{◌≡◌, ◌⊎◌, ◌+◌, ◌<◌, ℕ, length, Bool, true, false, List, [], Option, None, Some, codes, slice_get}
use Rattle.cv_lex.specs.Lexis.{Token}
use Rattle.cv_lex.specs.View.{token_at}
use Rattle.cv_syntax_trees.specs.declared.head.Head.{Head}
use Rattle.cv_syntax_trees.specs.declared.head.Head.TheVariants.{And, Apply, Branch, Eq, Event, Find, If, In, Leaf, Let, New, No, Not, Or, Out, Par, Read, Repl, Stop, Yes, Yield}

-- the word of a construct or an operator, or the second one of those that have two
abbrev pub word_of : Head → Bool → List ℕ
word_of Branch true = codes "orfind"
word_of Eq true = codes "<>"
word_of Not true = codes "<>"
word_of Stop b = codes "0"
word_of Yield b = codes "yield"
word_of (Repl i n) b = codes "!"
word_of (In c) b = codes "in"
word_of (Out c) b = codes "out"
word_of (New x T) b = codes "new"
word_of (Let x T) b = codes "let"
word_of (Event e) b = codes "event"
word_of If b = codes "if"
word_of (Find k) b = codes "find"
word_of Branch false = codes "find"
word_of Par b = codes "|"
word_of Eq false = codes "="
word_of Not false = codes "not"
word_of And b = codes "&&"
word_of Or b = codes "||"
word_of Yes b = codes "true"
word_of No b = codes "false"
word_of h b = []

-- the name that a term reads or calls
abbrev pub name_of : Head → Option ℕ
name_of (Leaf x) = Some x
name_of (Read x) = Some x
name_of (Apply x) = Some x
name_of h = None

-- the name itself where a node has one, and else a word of its construct
abbrev pub IsWordBy : List (List ℕ) → Head → Option ℕ → List ℕ → Type 0
IsWordBy names h (Some x) word = slice_get names x ≡ Some word
IsWordBy names h None word = (word ≡ word_of h false) ⊎ (word ≡ word_of h true)

abbrev pub IsOwnWord : List (List ℕ) → Head → List ℕ → Type 0
IsOwnWord names h word = IsWordBy names h (name_of h) word

-- a token before the end token, with such a word
abbrev pub IsOwnToken : List (List ℕ) → Head → List Token → ℕ → Type 0
IsOwnToken names h ts k = (k + 1 < length ts) × IsOwnWord names h (token_at ts k).text
