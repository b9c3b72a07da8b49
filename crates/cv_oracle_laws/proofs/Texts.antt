-- Which texts are names, and which words stand where.
use Rattle.std.proofs.Common.{◌≡◌, ℕ, Bool, true, false, ◌&&◌, ◌||◌, inl, inr, List, length, codes, refl, ap, sym, ◌∙◌}
use Rattle.std.specs.Prelude.{not}
use Rattle.std.specs.Str.{bytes_eq}
use Rattle.std.proofs.lemmas.Bool.{both_ways, or_left, or_right}
use Rattle.cv_parse_tables.proofs.terminals.Naming.{text_test}
use Rattle.cv_lex.specs.declared.TokenKind.{TokenKind}
use Rattle.cv_lex.specs.declared.scan.Piece.TheVariants.{Lexeme}
use Rattle.cv_lex.specs.Lexis.{IsToken, piece}
use Rattle.cv_library.specs.Words.{is_identifier, is_reserved}
use Rattle.cv_parse_tables.specs.spelling.Spelling.{mark_of_text}
use Rattle.cv_oracles.specs.Steps.{is_number}
use Rattle.cv_oracles.specs.Regions.{is_name, is_own_word}

no_name_by : (b c : Bool) → c ≡ true → (b && not c) ≡ false
no_name_by true c e = ap not e
no_name_by false c e = refl

-- a word that is reserved is no name
pub own_is_no_name : (k : TokenKind) (text : List ℕ) → is_own_word text ≡ true → is_name k text ≡ false
own_is_no_name k text e = no_name_by (is_identifier k) (is_reserved text || is_own_word text) (or_right (is_reserved text) (is_own_word text) e)

pub reserved_is_no_name : (k : TokenKind) (text : List ℕ) → is_reserved text ≡ true → is_name k text ≡ false
reserved_is_no_name k text e = no_name_by (is_identifier k) (is_reserved text || is_own_word text) (or_left (is_reserved text) (is_own_word text) e)

-- so a name is no such word
pub isnt : (k : TokenKind) (text word : List ℕ) → is_name k text ≡ true → is_name k word ≡ false → bytes_eq text word ≡ false
isnt k text word e f = elim (text_test text word) [
  | inl a ↦ absurd (both_ways (is_name k text) (ap (is_name k) a.1 ∙ f) e)
  | inr b ↦ b
]

pub open_no_name : (k : TokenKind) → is_name k (codes "(") ≡ false
unfolding mark_of_text
open_no_name k = reserved_is_no_name k (codes "(") refl

pub if_no_name : (k : TokenKind) → is_name k (codes "if") ≡ false
unfolding mark_of_text
if_no_name k = reserved_is_no_name k (codes "if") refl

pub event_no_name : (k : TokenKind) → is_name k (codes "event") ≡ false
unfolding mark_of_text
event_no_name k = reserved_is_no_name k (codes "event") refl

pub find_no_name : (k : TokenKind) → is_name k (codes "find") ≡ false
unfolding mark_of_text
find_no_name k = reserved_is_no_name k (codes "find") refl

pub foreach_no_name : (k : TokenKind) → is_name k (codes "foreach") ≡ false
foreach_no_name k = own_is_no_name k (codes "foreach") refl

pub end_no_name : (k : TokenKind) → is_name k (codes "end") ≡ false
end_no_name k = own_is_no_name k (codes "end") refl

pub return_no_name : (k : TokenKind) → is_name k (codes "return") ≡ false
return_no_name k = own_is_no_name k (codes "return") refl

-- a number is no such word
pub same_kind : (k w : TokenKind) (n m : ℕ) → Lexeme k n ≡ Lexeme w m → k ≡ w
same_kind k w n m e = cc

pub number_isnt : (k : TokenKind) (text word : List ℕ) (w : TokenKind) (n : ℕ) → IsToken k text → is_number k ≡ true → piece word ≡ Lexeme w n → is_number w ≡ false → bytes_eq text word ≡ false
number_isnt k text word w n l e p f = elim (text_test text word) [
  | inl a ↦ absurd (both_ways (is_number k) (ap is_number (same_kind k w (length text) n (sym l ∙ ap piece a.1 ∙ p)) ∙ f) e)
  | inr b ↦ b
]
