-- New names are identifiers, and tell the numbers of their uses.
use Rattle.std.proofs.Common.{◌≡◌, ℕ, zero, suc, ◌+◌, ◌<◌, ◌≤◌, ◌^◌, Bool, true, false, ◌&&◌, ◌==◌, inl, inr, cond, if◌then◌else◌, List, [], ◌∷◌, ◌++◌, codes, decimal, length, drop, take, nat_lt, refl, ap, sym, ◌∙◌, subst, arith, append_assoc}
use Rattle.std.specs.List.{prefix_len}
use Rattle.std.specs.Char.{is_ascii_alphabetic, is_ascii_digit}
use Rattle.std.specs.Str.Parse.{AllDigits, digits_value}
use Rattle.std.proofs.lemmas.Bool.{cases_Bool, cond_both}
use Rattle.std.proofs.lemmas.Bool.Decides.{nat_tests}
use Rattle.std.proofs.lemmas.Fmt.{decimal_is_IsNumeral_wide}
use Rattle.std.proofs.lemmas.Str.Parse.{digit_from_value}
use Rattle.cv_lex.specs.declared.TokenKind.TheVariants.{Ident, Number}
use Rattle.cv_lex.specs.declared.scan.Piece.{Piece}
use Rattle.cv_lex.specs.declared.scan.Piece.TheVariants.{Between, Lexeme, WideNumber}
use Rattle.cv_lex.specs.Lexis.{IsToken, a_comment, a_number, a_symbol, comment_end, has_front, is_blank, is_inner, longest, opens_comment, piece, symbols, value_of}
use Rattle.cv_lex.proofs.Pieces.{comment_no_lexeme}
use Rattle.cv_library.specs.Expansions.{renamed}

-- numbers tell uses

abbrev NoBar : List ℕ → Type 0
NoBar [] = Unit {0}
NoBar (c ∷ cs) = (c ≡ 95 → ⊥) × NoBar cs

no_bar : (a ds es : List ℕ) → NoBar ds → ds ≡ a ++ 95 ∷ es → ⊥
no_bar [] [] es n e = cc
no_bar [] (c ∷ ds) es n e = n.0 (cc)
no_bar (x ∷ a) [] es n e = cc
no_bar (x ∷ a) (c ∷ ds) es n e = no_bar a ds es n.1 (cc)

ends_alike : (a b ds es : List ℕ) → NoBar ds → NoBar es → a ++ 95 ∷ ds ≡ b ++ 95 ∷ es → ds ≡ es
ends_alike [] [] ds es p q e = cc
ends_alike [] (y ∷ b) ds es p q e = absurd (no_bar b ds es p (cc))
ends_alike (x ∷ a) [] ds es p q e = absurd (no_bar a es ds q (let z : es ≡ a ++ 95 ∷ ds = cc in z))
ends_alike (x ∷ a) (y ∷ b) ds es p q e = ends_alike a b ds es p q (cc)

digits_no_bar : (ds : List ℕ) → AllDigits 10 ds → NoBar ds
digits_no_bar [] d = tt
digits_no_bar (c ∷ ds) d = (λ e. omega (arith, digit_from_value c d.0), digits_no_bar ds d.1)

pub one_use : (j k : ℕ) (name other : List ℕ) → j < 10 ^ 64 → k < 10 ^ 64 → renamed j name ≡ renamed k other → j ≡ k
one_use j k name other p q e =
    let f = decimal_is_IsNumeral_wide j p in
    let g = decimal_is_IsNumeral_wide k q in
    let ends : 101 ∷ decimal j ≡ 101 ∷ decimal k =
    ends_alike name other (101 ∷ decimal j) (101 ∷ decimal k) (λ h. omega (arith, h), digits_no_bar (decimal j) f.0.1) (λ h. omega (arith, h), digits_no_bar (decimal k) g.0.1)
    (sym (append_assoc name (codes "_e") (decimal j)) ∙ e ∙ append_assoc other (codes "_e") (decimal k))
    in
    let same : decimal j ≡ decimal k = cc in
    sym f.1 ∙ ap (digits_value 10) same ∙ g.1

-- new names are identifiers

abbrev AllInner : List ℕ → Type 0
AllInner bs = prefix_len is_inner bs ≡ length bs

inner_append : (a b : List ℕ) → AllInner a → AllInner b → AllInner (a ++ b)
inner_append [] b p q = q
inner_append (x ∷ a) b p q =
    elim (cases_Bool (is_inner x)) [
      | inl t ↦
          let here : 1 + prefix_len is_inner a ≡ suc (length a) = ap (λ c. cond c (1 + prefix_len is_inner a) 0) (sym t) ∙ p in
          let rest = inner_append a b (omega arith) q in
          ap (λ c. cond c (1 + prefix_len is_inner (a ++ b)) 0) t ∙ omega arith
      | inr f ↦ let none : 0 ≡ suc (length a) = ap (λ c. cond c (1 + prefix_len is_inner a) 0) (sym f) ∙ p in absurd (omega arith)
    ]

digit_inner : (c : ℕ) → 48 ≤ c → c ≤ 57 → is_inner c ≡ true
digit_inner c l h = grind (arith, nat_tests)

digits_inner : (ds : List ℕ) → AllDigits 10 ds → AllInner ds
digits_inner [] d = refl
digits_inner (c ∷ ds) d =
    let range = digit_from_value c d.0 in
    let t : is_inner c ≡ true = digit_inner c (omega (arith, range)) (omega (arith, range)) in
    let rest = digits_inner ds d.1 in
    ap (λ b. cond b (1 + prefix_len is_inner ds) 0) t ∙ omega arith

letter_blank : (b : ℕ) → is_ascii_alphabetic b ≡ true → is_blank b ≡ false
letter_blank b e = grind (arith, nat_tests)

letter_opens : (b : ℕ) → is_ascii_alphabetic b ≡ true → (b == 40) ≡ false
letter_opens b e = grind (arith, nat_tests)

abbrev decided : (blank comments letter : Bool) → List ℕ → Piece → Piece
decided t c l bs other = if t then Between 1 else (if c then a_comment (comment_end 0 2 (drop 2 bs)) else (if l then Lexeme Ident (prefix_len is_inner bs) else other))

abbrev otherwise : ℕ → List ℕ → Piece
otherwise b bs = if is_ascii_digit b then a_number (prefix_len is_ascii_digit (b ∷ bs)) (value_of (take (prefix_len is_ascii_digit (b ∷ bs)) (b ∷ bs))) else a_symbol (longest symbols (b ∷ bs))

letter_piece : (b : ℕ) (bs : List ℕ) → is_ascii_alphabetic b ≡ true → piece (b ∷ bs) ≡ Lexeme Ident (prefix_len is_inner (b ∷ bs))
letter_piece b bs e =
    let blank = letter_blank b e in
    let opens : opens_comment (b ∷ bs) ≡ false = ap (λ x. x && has_front (42 ∷ []) bs) (letter_opens b e) in
    λ i. decided (blank i) (opens i) (e i) (b ∷ bs) (otherwise b bs)

number_no_name : (n v m : ℕ) → a_number n v ≡ Lexeme Ident m → ⊥
number_no_name n v m = cond_both (nat_lt v (2 ^ 64)) (Lexeme (Number v) n) WideNumber (λ p. p ≡ Lexeme Ident m → ⊥) (λ _ e. cc) (λ _ e. cc)

symbol_no_name : (n m : ℕ) → a_symbol n ≡ Lexeme Ident m → ⊥
symbol_no_name zero m e = cc
symbol_no_name (suc n) m e = cc

-- an identifier begins with a letter, and is of its bytes alone
name_begins : (t c l d : Bool) (b : ℕ) (bs : List ℕ) (n : ℕ) → is_ascii_alphabetic b ≡ l → decided t c l (b ∷ bs) (if d then a_number (prefix_len is_ascii_digit (b ∷ bs)) (value_of (take (prefix_len is_ascii_digit (b ∷ bs)) (b ∷ bs))) else a_symbol (longest symbols (b ∷ bs))) ≡ Lexeme Ident n → (is_ascii_alphabetic b ≡ true) × (prefix_len is_inner (b ∷ bs) ≡ n)
name_begins true c l d b bs n h e = absurd (cc)
name_begins false true l d b bs n h e = absurd (comment_no_lexeme (comment_end 0 2 (drop 2 (b ∷ bs))) Ident n e)
name_begins false false true d b bs n h e = (h, cc)
name_begins false false false true b bs n h e = absurd (number_no_name (prefix_len is_ascii_digit (b ∷ bs)) (value_of (take (prefix_len is_ascii_digit (b ∷ bs)) (b ∷ bs))) n e)
name_begins false false false false b bs n h e = absurd (symbol_no_name (longest symbols (b ∷ bs)) n e)

longer_name : (name more : List ℕ) → IsToken Ident name → AllInner more → IsToken Ident (name ++ more)
longer_name [] more e i = absurd (cc)
longer_name (b ∷ bs) more e i =
    let f = name_begins (is_blank b) (opens_comment (b ∷ bs)) (is_ascii_alphabetic b) (is_ascii_digit b) b bs (length (b ∷ bs)) refl e in
    letter_piece b (bs ++ more) f.0 ∙ ap (Lexeme Ident) (inner_append (b ∷ bs) more f.1 i)

pub renamed_token : (number : ℕ) (name : List ℕ) → number < 10 ^ 64 → IsToken Ident name → IsToken Ident (renamed number name)
renamed_token number name h e =
    let digits = decimal_is_IsNumeral_wide number h in
    let more : AllInner (codes "_e" ++ decimal number) = inner_append (codes "_e") (decimal number) refl (digits_inner (decimal number) digits.0.1) in
    subst (IsToken Ident) (sym (append_assoc name (codes "_e") (decimal number))) (longer_name name (codes "_e" ++ decimal number) e more)
