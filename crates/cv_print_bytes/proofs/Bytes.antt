-- An identifier and a number are tokens in front of any byte that no identifier has.
use Rattle.std.proofs.Common.{◌≡◌, ℕ, zero, suc, ◌+◌, ◌*◌, ◌-◌, ◌/◌, ◌%◌, ◌^◌, ◌<◌, Bool, true, false, not, ◌&&◌, ◌||◌, ◌==◌, nat_lt, cond, if◌then◌else◌, List, [], ◌∷◌, ◌++◌, length, take, drop, fold, Option, Some, None, refl, ap, sym, ◌∙◌, subst, arith, codes, decimal, take_at}
use Rattle.std.specs.List.{prefix_len}
use Rattle.std.specs.Char.{digit_value, is_ascii_alphabetic, is_ascii_digit}
use Rattle.std.specs.Fmt.{digits, digit_glyph, digits_onto}
use Rattle.std.specs.Str.Parse.{AllDigits, digits_value_after}
use Rattle.std.specs.Int.{IsInRange}
use Rattle.std.proofs.lemmas.Bool.{cond_both, ne_eqb, lt-leb, le-leb, lt-ltb, or_from, or_left, or_right, and_from, and_left}
use Rattle.std.proofs.lemmas.Fmt.{decimal_is_IsNumeral}
use Rattle.std.proofs.lemmas.Str.{digit_value_digit}
use Rattle.std.proofs.lemmas.Str.Parse.{digit_from_value}
use Rattle.cv_lex.specs.declared.TokenKind.{TokenKind}
use Rattle.cv_lex.specs.declared.TokenKind.TheVariants.{Ident, Number, Symbol}
use Rattle.cv_lex.specs.declared.scan.Piece.{Piece}
use Rattle.cv_lex.specs.declared.scan.Piece.TheVariants.{Between, Lexeme, WideNumber}
use Rattle.cv_lex.specs.Lexis.{is_blank, is_inner, has_front, symbols, longest, value_of, comment_end, opens_comment, a_comment, a_number, a_symbol, piece, IsToken}
use Rattle.cv_print_bytes.proofs.Fronts.{is_apart}
use Rattle.cv_lex.proofs.Pieces.{comment_no_lexeme}

-- runs of bytes

longer : (b : Bool) (m k n j : ℕ) → cond b (1 + m) 0 ≡ suc n → (m ≡ n → k ≡ j) → cond b (1 + k) 0 ≡ suc j
longer true m k n j e f = omega (arith, f (omega arith))
longer false m k n j e f = absurd (cc)

run_before : (p : ℕ → Bool) (ds rest : List ℕ) → prefix_len p ds ≡ length ds → prefix_len p rest ≡ 0 → prefix_len p (ds ++ rest) ≡ length ds
run_before p [] rest e s = s
run_before p (c ∷ cs) rest e s = longer (p c) (prefix_len p cs) (prefix_len p (cs ++ rest)) (length cs) (length cs) e (λ h. run_before p cs rest h s)

-- two runs are one
run_join : (p : ℕ → Bool) (ds bs : List ℕ) → prefix_len p ds ≡ length ds → prefix_len p bs ≡ length bs → prefix_len p (ds ++ bs) ≡ length (ds ++ bs)
run_join p [] bs e s = s
run_join p (c ∷ cs) bs e s = longer (p c) (prefix_len p cs) (prefix_len p (cs ++ bs)) (length cs) (length (cs ++ bs)) e (λ h. run_join p cs bs h s)

no_inner : (b : Bool) (k : ℕ) → not b ≡ true → cond b (1 + k) 0 ≡ 0
no_inner true k e = absurd (cc)
no_inner false k e = refl

inner_stops : (rest : List ℕ) → is_apart rest ≡ true → prefix_len is_inner rest ≡ 0
inner_stops [] e = refl
inner_stops (b ∷ bs) e = no_inner (is_inner b) (prefix_len is_inner bs) e

no_digit : (a d u : Bool) (k : ℕ) → not (a || (d || u)) ≡ true → cond d (1 + k) 0 ≡ 0
no_digit true d u k e = absurd (cc)
no_digit false true u k e = absurd (cc)
no_digit false false u k e = refl

digits_stop : (rest : List ℕ) → is_apart rest ≡ true → prefix_len is_ascii_digit rest ≡ 0
digits_stop [] e = refl
digits_stop (b ∷ bs) e = no_digit (is_ascii_alphabetic b) (is_ascii_digit b) (b == 95) (prefix_len is_ascii_digit bs) e

-- the piece of bytes whose first one has these tests
abbrev told : (blank comment letter digit : Bool) → List ℕ → Piece
told t c l d bs =
    if t then Between 1
    else (if c then a_comment (comment_end 0 2 (drop 2 bs))
    else (if l then Lexeme Ident (prefix_len is_inner bs)
    else (if d then a_number (prefix_len is_ascii_digit bs) (value_of (take (prefix_len is_ascii_digit bs) bs))
    else a_symbol (longest symbols bs))))

as_told : (t c l d : Bool) (b : ℕ) (bs : List ℕ) → is_blank b ≡ t → opens_comment (b ∷ bs) ≡ c → is_ascii_alphabetic b ≡ l → is_ascii_digit b ≡ d → piece (b ∷ bs) ≡ told t c l d (b ∷ bs)
as_told t c l d b bs blank comment letter digit = λ i. told (blank i) (comment i) (letter i) (digit i) (b ∷ bs)

-- identifiers

number_no_ident : (m v n : ℕ) → a_number m v ≡ Lexeme Ident n → ⊥
number_no_ident m v n = cond_both (nat_lt v (2 ^ 64)) (Lexeme (Number v) m) WideNumber (λ p. p ≡ Lexeme Ident n → ⊥) (λ _ e. cc) (λ _ e. cc)

symbol_no_ident : (m n : ℕ) → a_symbol m ≡ Lexeme Ident n → ⊥
symbol_no_ident zero n e = cc
symbol_no_ident (suc m) n e = cc

record IsWord (t l : Bool) (bs : List ℕ) (n : ℕ) : Type 0 where
  blank : t ≡ false
  letter : l ≡ true
  run : prefix_len is_inner bs ≡ n

word_parts : (t c l d : Bool) (bs : List ℕ) (n : ℕ) → told t c l d bs ≡ Lexeme Ident n → IsWord t l bs n
word_parts true c l d bs n e = absurd (cc)
word_parts false true l d bs n e = absurd (comment_no_lexeme (comment_end 0 2 (drop 2 bs)) Ident n e)
word_parts false false true d bs n e = record { blank = refl; letter = refl; run = cc }
word_parts false false false true bs n e = absurd (number_no_ident (prefix_len is_ascii_digit bs) (value_of (take (prefix_len is_ascii_digit bs) bs)) n e)
word_parts false false false false bs n e = absurd (symbol_no_ident (longest symbols bs) n e)

no_parenthesis : (b : ℕ) → is_ascii_alphabetic b ≡ true → b ≡ 40 → ⊥
no_parenthesis b e h = let no : false ≡ true = subst (λ x. is_ascii_alphabetic x ≡ true) h e in cc

no_comment : (b : ℕ) (bs : List ℕ) → (b ≡ 40 → ⊥) → opens_comment (b ∷ bs) ≡ false
no_comment b bs n = ap (λ x. x && has_front (codes "*") bs) (ne_eqb b 40 n)

pub word_before : (w rest : List ℕ) → IsToken Ident w → is_apart rest ≡ true → piece (w ++ rest) ≡ Lexeme Ident (length w)
word_before [] rest e apart = absurd (cc)
word_before (b ∷ bs) rest e apart =
    let h = word_parts (is_blank b) (opens_comment (b ∷ bs)) (is_ascii_alphabetic b) (is_ascii_digit b) (b ∷ bs) (length (b ∷ bs)) e in
    as_told false false true (is_ascii_digit b) b (bs ++ rest) h.blank (no_comment b (bs ++ rest) (no_parenthesis b h.letter)) h.letter refl
    ∙ ap (Lexeme Ident) (run_before is_inner (b ∷ bs) rest h.run (inner_stops rest apart))

-- numbers

digit_run : (ds : List ℕ) → AllDigits 10 ds → prefix_len is_ascii_digit ds ≡ length ds
digit_run [] d = refl
digit_run (c ∷ cs) d =
    let r = digit_from_value c d.0 in
    let digit : is_ascii_digit c ≡ true = and_from _ _ (le-leb 48 c r.0) (le-leb c 57 r.1) in
    ap (λ x. cond x (1 + prefix_len is_ascii_digit cs) 0) digit ∙ omega (arith, digit_run cs d.1)

abbrev further : ℕ → ℕ → ℕ
further value b = value * 10 + (b - 48)

value_same : (n : ℕ) (ds : List ℕ) → AllDigits 10 ds → fold further n ds ≡ digits_value_after 10 n ds
value_same n [] d = refl
value_same n (c ∷ cs) d =
    let here : further n c ≡ n * 10 + digit_value c = omega (arith, digit_value_digit c (digit_from_value c d.0)) in
    ap (λ v. fold further v cs) here ∙ value_same (n * 10 + digit_value c) cs d.1

digit_blank : (c : ℕ) → IsInRange 48 57 c → is_blank c ≡ false
digit_blank c r = or_from _ _ (ne_eqb c 32 (λ e. omega (arith, r.0))) (or_from _ _ (ne_eqb c 9 (λ e. omega (arith, r.0))) (or_from _ _ (ne_eqb c 13 (λ e. omega (arith, r.0))) (ne_eqb c 10 (λ e. omega (arith, r.0)))))

digit_no_letter : (c : ℕ) → IsInRange 48 57 c → is_ascii_alphabetic c ≡ false
digit_no_letter c r = or_from _ _ (and_left _ _ (lt-leb 65 c (omega (arith, r.1)))) (and_left _ _ (lt-leb 97 c (omega (arith, r.1))))

pub number_before : (ds rest : List ℕ) (v : ℕ) → 0 < length ds → AllDigits 10 ds → digits_value_after 10 0 ds ≡ v → v < 2 ^ 64 → is_apart rest ≡ true → piece (ds ++ rest) ≡ Lexeme (Number v) (length ds)
number_before [] rest v some d e small apart = absurd (omega arith)
number_before (c ∷ cs) rest v some d e small apart =
    let ds : List ℕ = c ∷ cs in
    let r = digit_from_value c d.0 in
    let digit : is_ascii_digit c ≡ true = and_from _ _ (le-leb 48 c r.0) (le-leb c 57 r.1) in
    let run : prefix_len is_ascii_digit (ds ++ rest) ≡ length ds = run_before is_ascii_digit ds rest (digit_run ds d) (digits_stop rest apart) in
    let value : value_of (take (length ds) (ds ++ rest)) ≡ v = ap value_of (take_at ds rest (length ds) refl) ∙ value_same 0 ds d ∙ e in
    as_told false false false true c (cs ++ rest) (digit_blank c r) (no_comment c (cs ++ rest) (λ h. omega (arith, r.0))) (digit_no_letter c r) digit
    ∙ ap (λ n. a_number n (value_of (take n (ds ++ rest)))) run ∙ ap (a_number (length ds)) value
    ∙ ap (λ b. if b then Lexeme (Number v) (length ds) else WideNumber) (lt-ltb v (2 ^ 64) small)

pub decimal_before : (v : ℕ) (rest : List ℕ) → v < 2 ^ 64 → is_apart rest ≡ true → piece (decimal v ++ rest) ≡ Lexeme (Number v) (length (decimal v))
decimal_before v rest small apart = let d = decimal_is_IsNumeral v small in number_before (decimal v) rest v d.0.0 d.0.1 d.1 small apart

-- the name of a collision without one

digits_inner : (ds : List ℕ) → AllDigits 10 ds → prefix_len is_inner ds ≡ length ds
digits_inner [] d = refl
digits_inner (c ∷ cs) d =
    let r = digit_from_value c d.0 in
    let digit : is_ascii_digit c ≡ true = and_from _ _ (le-leb 48 c r.0) (le-leb c 57 r.1) in
    let inner : is_inner c ≡ true = or_right (is_ascii_alphabetic c) (is_ascii_digit c || (c == 95)) (or_left (is_ascii_digit c) (c == 95) digit) in
    ap (λ x. cond x (1 + prefix_len is_inner cs) 0) inner ∙ omega (arith, digits_inner cs d.1)

digit_written : (d : ℕ) → d < 10 → digit_value (digit_glyph false d) < 10
digit_written d h =
    let e : digit_glyph false d ≡ 48 + d = ap (λ b. if b then 48 + d else 87 + d) (lt-ltb d 10 h) in
    subst (λ c. digit_value c < 10) (sym e) (omega (arith, digit_value_digit (48 + d) (omega arith, omega arith)))

digits_all : (k n : ℕ) (acc : List ℕ) → AllDigits 10 acc → AllDigits 10 (digits_onto k 10 false n acc)
digits_all zero n acc a = a
digits_all (suc k) n acc a =
    let one : digit_value (digit_glyph false (n % 10)) < 10 = digit_written (n % 10) (omega arith) in
    cond_both (n / 10 == 0) _ _ (AllDigits 10) (λ _. (one, a)) (λ _. digits_all k (n / 10) (digit_glyph false (n % 10) ∷ acc) (one, a))

decimal_digits : (n : ℕ) → AllDigits 10 (decimal n)
unfolding digits
decimal_digits n = digits_all 64 n [] tt

pub collision_token : (n : ℕ) → IsToken Ident (codes "collision_" ++ decimal n)
collision_token n = ap (Lexeme Ident) (run_join is_inner (codes "collision_") (decimal n) refl (digits_inner (decimal n) (decimal_digits n)))

-- symbols

number_no_symbol : (m v n : ℕ) → a_number m v ≡ Lexeme Symbol n → ⊥
number_no_symbol m v n = cond_both (nat_lt v (2 ^ 64)) (Lexeme (Number v) m) WideNumber (λ p. p ≡ Lexeme Symbol n → ⊥) (λ _ e. cc) (λ _ e. cc)

symbol_is : (m n : ℕ) → a_symbol m ≡ Lexeme Symbol n → m ≡ n
symbol_is zero n e = absurd (cc)
symbol_is (suc m) n e = cc

longest_is : (t c l d : Bool) (bs : List ℕ) (n : ℕ) → told t c l d bs ≡ Lexeme Symbol n → longest symbols bs ≡ n
longest_is true c l d bs n e = absurd (cc)
longest_is false true l d bs n e = absurd (comment_no_lexeme (comment_end 0 2 (drop 2 bs)) Symbol n e)
longest_is false false true d bs n e = absurd (cc)
longest_is false false false true bs n e = absurd (number_no_symbol (prefix_len is_ascii_digit bs) (value_of (take (prefix_len is_ascii_digit bs) bs)) n e)
longest_is false false false false bs n e = symbol_is (longest symbols bs) n e

pub symbol_length : (text : List ℕ) → IsToken Symbol text → (0 < length text) × (longest symbols text ≡ length text)
symbol_length [] e = absurd (cc)
symbol_length (b ∷ bs) e = (omega arith, longest_is (is_blank b) (opens_comment (b ∷ bs)) (is_ascii_alphabetic b) (is_ascii_digit b) (b ∷ bs) (length (b ∷ bs)) e)
