-- The heads of definitions and uses: a word, a name, and a list of names in parentheses.
use Rattle.std.specs.Prelude.{Bool, true, false, if◌then◌else◌, ℕ, zero, suc, ◌+◌, ◌-◌, ◌/◌, List, [], ◌∷◌, codes, drop, Option, Some, None, Result, Ok, Err}
use Rattle.std.specs.Str.{bytes_eq}
use Rattle.cv_lex.specs.declared.TokenKind.{TokenKind}
use Rattle.cv_lex.specs.Lexis.{Token}
use Rattle.cv_lex.specs.View.{token_at}
use Rattle.cv_library.specs.declared.heads.Awaited.{Awaited}
use Rattle.cv_library.specs.declared.heads.Awaited.TheVariants.{Name, Opening, First, Behind, Next, Nothing}
use Rattle.cv_library.specs.Words.{is_id}

abbrev pub only_if : Bool → Awaited → Option Awaited
only_if b awaited = if b then Some awaited else None

-- what is awaited behind a token, where it may stand
abbrev pub awaited_behind : Awaited → TokenKind → List ℕ → Option Awaited
awaited_behind Name kind text = only_if (is_id kind text) Opening
awaited_behind Opening kind text = only_if (bytes_eq text (codes "(")) First
awaited_behind First kind text = if bytes_eq text (codes ")") then Some Nothing else only_if (is_id kind text) Behind
awaited_behind Behind kind text = if bytes_eq text (codes ")") then Some Nothing else only_if (bytes_eq text (codes ",")) Next
awaited_behind Next kind text = only_if (is_id kind text) Behind
awaited_behind Nothing kind text = None

-- nothing more is awaited
abbrev pub is_nothing : Awaited → Bool
is_nothing Nothing = true
is_nothing awaited = false

abbrev pub go_on : (Awaited → Result ℕ ℕ) → (at : ℕ) → Option Awaited → Result ℕ ℕ
go_on behind k None = Err k
go_on behind k (Some awaited) = if is_nothing awaited then Ok (k + 1) else behind awaited

-- the number of the token behind a head that is read so far, or of the first that doesn't fit
unfoldable pub head_from : Awaited → (at : ℕ) → List Token → Result ℕ ℕ
head_from awaited k [] = Err k
head_from awaited k (t ∷ ts) = go_on (λ a. head_from a (k + 1) ts) k (awaited_behind awaited t.kind t.text)

-- the same for the head whose word has this number
abbrev pub head_at : List Token → (word : ℕ) → Result ℕ ℕ
head_at ts word = head_from Name (word + 1) (drop (word + 1) ts)

-- every second token from one on
abbrev pub alternate : List Token → (from count : ℕ) → List Token
alternate ts from zero = []
alternate ts from (suc count) = token_at ts from ∷ alternate ts (from + 2) count

-- the names in the list of a head, by the numbers of its word and of the token behind its list
abbrev pub listed : List Token → (word behind : ℕ) → List Token
listed ts word behind = alternate ts (word + 3) ((behind - (word + 3)) / 2)
