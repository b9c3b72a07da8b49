-- The braces of tokens are those of their signs.
use Rattle.std.proofs.Common.{◌≡◌, ℕ, zero, suc, ◌+◌, ◌<◌, ◌≤◌, Bool, true, false, ◌||◌, if◌then◌else◌, inl, inr, List, [], ◌∷◌, length, refl, ap, sym, ◌∙◌, subst, arith, codes, Some, None}
use Rattle.std.specs.Prelude.{slice_get}
use Rattle.std.specs.Str.{bytes_eq}
use Rattle.std.proofs.lemmas.Bool.{false_from_ne_true}
use Rattle.std.proofs.lemmas.Bool.Decides.{nat_tests}
use Rattle.std.proofs.lemmas.Slice.Eq.{bytes_eq-Decides}
use Rattle.cv_syntax_trees.proofs.lists.Tests.{or_first, or_second}
use Rattle.cv_lex.specs.declared.TokenKind.TheVariants as kind
use Rattle.cv_lex.specs.Lexis.{Token, IsToken}
use Rattle.cv_lex.specs.View.{token_at, AreTokens}
use Rattle.cv_lex.proofs.Places.{inner_token}
use Rattle.cv_parse_notation.specs.declared.sign.Mark.{Mark}
use Rattle.cv_parse_notation.specs.declared.sign.Mark.TheVariants as mark
use Rattle.cv_parse_notation.specs.declared.sign.Sign.{Sign}
use Rattle.cv_parse_notation.specs.declared.sign.Sign.TheVariants as sign
use Rattle.cv_parse_notation.specs.Marks.{same_mark}
use Rattle.cv_parse_notation.specs.Spells.{is_mark, kind_of}
use Rattle.cv_parse_notation.proofs.Sound.{same_mark_eq}
use Rattle.cv_parse_tables.specs.terminals.Braces.{closes, file_tokens, is_end, is_read, open_behind, opens, read_at, read_from, semicolon}
use Rattle.cv_parse_tables.specs.terminals.Signs.{Tells, signs_of}
use Rattle.cv_parse_tables.specs.spelling.Spelling.{as_told, mark_of_text, spelling}
use Rattle.cv_parse_tables.proofs.terminals.FileTokens.{are_read, length_read_from}
use Rattle.cv_parse_tables.proofs.terminals.Naming.{text_test}
use Rattle.cv_parse_tables.proofs.spelling.Table.{found}
use Rattle.cv_parse_tables.proofs.terminals.Telling.{count_all, tell_all}

-- a sign of a brace
abbrev pub is_brace : Mark → Sign → Bool
is_brace m s = is_mark m (kind_of s)

-- a text and a sign are braces alike
pub record IsAlike (text : List ℕ) (s : Sign) : Type 0 where
  pub opens : opens text ≡ is_brace mark.OpenBrace s
  pub closes : closes text ≡ is_brace mark.CloseBrace s

-- the first tokens and the signs are so, one by one
abbrev pub Alike : List Token → List Sign → Type 0
Alike ts [] = Unit {0}
Alike [] (s ∷ ss) = ⊥
Alike (t ∷ ts) (s ∷ ss) = IsAlike t.text s × Alike ts ss

-- a mark whose text tells it alone
record IsAlone (b : Mark) : Type 0 where
  told : as_told b ≡ b
  alone : (m : Mark) → as_told m ≡ b → m ≡ b

opening_alone : IsAlone mark.OpenBrace
opening_alone = record { told = refl; alone = alone } where
  alone : (m : Mark) → as_told m ≡ mark.OpenBrace → m ≡ mark.OpenBrace
  alone mark.OpenAtoms e = absurd (cc)
  alone m e = e

closing_alone : IsAlone mark.CloseBrace
closing_alone = record { told = refl; alone = alone } where
  alone : (m : Mark) → as_told m ≡ mark.CloseBrace → m ≡ mark.CloseBrace
  alone mark.OpenAtoms e = absurd (cc)
  alone m e = e

-- the text of a mark is a brace where the mark is that brace
mark_alike : (m b : Mark) → IsAlone b → bytes_eq (spelling m) (spelling b) ≡ same_mark m b
mark_alike m b only =
    elim (text_test (spelling m) (spelling b)) [
      | inl a ↦ let e : m ≡ b = only.alone m (let f = found m in let g = found b in let h = ap mark_of_text a.1 in let k = only.told in cc) in
          a.0 ∙ sym (subst (λ k. same_mark k b ≡ true) (sym e) (same_self b))
      | inr a ↦ a ∙ sym (false_from_ne_true (same_mark m b) (λ e. let f = ap spelling (same_mark_eq m b e) in let g : bytes_eq (spelling m) (spelling b) ≡ true = (bytes_eq-Decides (spelling m) (spelling b)).1 f in cc))
    ]
  where
    same_self : (k : Mark) → same_mark k k ≡ true
    same_self k = grind (arith, nat_tests)

-- a text that is no mark is no brace
no_mark_alike : (text : List ℕ) (b : Mark) → mark_of_text text ≡ None → bytes_eq text (spelling b) ≡ false
no_mark_alike text b none =
    elim (text_test text (spelling b)) [
      | inl a ↦ absurd (let f = found b in let h = ap mark_of_text a.1 in cc)
      | inr a ↦ a
    ]

-- a number is none

pub number_plain : (b : Mark) (v : ℕ) → is_brace b (sign.Number v) ≡ false
number_plain b zero = refl
number_plain b (suc v) = refl

number_alike : (text : List ℕ) (v : ℕ) → IsToken (kind.Number v) text → IsAlike text (sign.Number v)
number_alike text v is = record {
  opens = elim (text_test text (codes "{")) [ inl a ↦ absurd (let e : IsToken (kind.Number v) (codes "{") = subst (IsToken (kind.Number v)) a.1 is in cc) | inr a ↦ a ∙ sym (number_plain mark.OpenBrace v) ];
  closes = elim (text_test text (codes "}")) [ inl a ↦ absurd (let e : IsToken (kind.Number v) (codes "}") = subst (IsToken (kind.Number v)) a.1 is in cc) | inr a ↦ a ∙ sym (number_plain mark.CloseBrace v) ];
}

told_alike : (names : List (List ℕ)) (t : Token) (s : Sign) → IsToken t.kind t.text → Tells names t s → IsAlike t.text s
told_alike names t (sign.Word n w) is h = record { opens = no_mark_alike t.text mark.OpenBrace h.1; closes = no_mark_alike t.text mark.CloseBrace h.1 }
told_alike names t (sign.Number v) is h = number_alike t.text v (subst (λ k. IsToken k t.text) h is)
told_alike names t (sign.Find n) is h = subst (λ w. IsAlike w (sign.Find n)) (sym h) (record { opens = refl; closes = refl })
told_alike names t (sign.Unnamed n) is h = subst (λ w. IsAlike w (sign.Unnamed n)) (sym h.0) (record { opens = refl; closes = refl })
told_alike names t (sign.Mark m) is h = subst (λ w. IsAlike w (sign.Mark m)) (sym h) (record { opens = mark_alike m mark.OpenBrace opening_alone; closes = mark_alike m mark.CloseBrace closing_alone })

-- what holds place by place holds one by one
by_places : (ts : List Token) (ss : List Sign) → length ss ≤ length ts → ((k : ℕ) → k < length ss → (s : Sign) × (slice_get ss k ≡ Some s) × IsAlike (token_at ts k).text s) → Alike ts ss
by_places ts [] few at = tt
by_places [] (s ∷ ss) few at = absurd (omega arith)
by_places (t ∷ ts) (s ∷ ss) few at =
    let first = at 0 (omega arith) in
    let same : first.0 ≡ s = (let e = first.1 in cc) in
    (subst (IsAlike t.text) same first.2, by_places ts ss (omega arith) (λ k h. at (suc k) (omega arith)))

-- a token is a brace where it is one as it is read

kept_opens : (b : Bool) (t : Token) → (b ≡ false → opens t.text ≡ false) → opens (if b then t else semicolon t.offset).text ≡ opens t.text
kept_opens true t h = refl
kept_opens false t h = sym (h refl)

kept_closes : (b : Bool) (t : Token) → (b ≡ false → closes t.text ≡ false) → closes (if b then t else semicolon t.offset).text ≡ closes t.text
kept_closes true t h = refl
kept_closes false t h = sym (h refl)

read_alike : (depth : ℕ) (t : Token) (s : Sign) → IsAlike (read_at depth t).text s → IsAlike t.text s
read_alike zero t s a = a
read_alike (suc depth) t s a = record {
  opens = sym (kept_opens (is_read t.kind t.text) t (λ e. or_first (opens t.text) (closes t.text || is_end t.kind) e)) ∙ a.opens;
  closes = sym (kept_closes (is_read t.kind t.text) t (λ e. or_first (closes t.text) (is_end t.kind) (or_second (opens t.text) (closes t.text || is_end t.kind) e))) ∙ a.closes;
}

all_read_alike : (depth : ℕ) (ts : List Token) (ss : List Sign) → Alike (read_from depth ts) ss → Alike ts ss
unfolding read_from
all_read_alike depth ts [] a = tt
all_read_alike depth [] (s ∷ ss) a = a
all_read_alike depth (t ∷ ts) (s ∷ ss) a = (read_alike depth t s a.0, all_read_alike (open_behind depth t.text) ts ss a.1)

-- the braces of a file's tokens are those of its signs
pub file_alike : (ts : List Token) → AreTokens ts → Alike ts (signs_of ts).signs
file_alike ts are =
    let us = file_tokens ts in
    let their = are_read ts are in
    let names = (signs_of ts).names in
    let ss = (signs_of ts).signs in
    let count : length ss + 1 ≡ length us = count_all ts are ∙ sym (length_read_from 0 ts) in
    all_read_alike 0 ts ss (by_places us ss (omega arith) (λ k h.
    let told = tell_all ts are k (omega arith) in
    (told.0, told.1, told_alike names (token_at us k) told.0 (inner_token us their k (omega arith)) told.2)))
