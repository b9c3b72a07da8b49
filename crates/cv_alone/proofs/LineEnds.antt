-- No token has the byte of a line end, so that line ends stay.
use Rattle.std.proofs.Common.{◌≡◌, ℕ, zero, suc, ◌+◌, ◌-◌, ◌<◌, ◌≤◌, inl, inr, Bool, true, false, ◌==◌, ◌&&◌, ◌||◌, if◌then◌else◌, max, List, [], ◌∷◌, length, take, drop, get_or, Result, Ok, Err, refl, ap, ◌∙◌, subst, arith}
use Rattle.std.specs.Prelude.{not}
use Rattle.std.specs.List.{prefix_len}
use Rattle.std.specs.Char.{is_ascii_alphabetic, is_ascii_digit}
use Rattle.std.proofs.lemmas.Bool.{and_parts, cases_Bool, cases_lt, cond_both, eqb-true}
use Rattle.std.proofs.lemmas.List.{get_or-drop, length-drop, length-take-le}
use Rattle.std.proofs.lemmas.List.Sums.{prefix_len_passes}
use Rattle.cv_lex.specs.declared.LexError.{LexError}
use Rattle.cv_lex.specs.declared.TokenKind.{TokenKind}
use Rattle.cv_lex.specs.declared.TokenKind.TheVariants.{End}
use Rattle.cv_lex.specs.declared.scan.Piece.TheVariants.{Lexeme}
use Rattle.cv_lex.specs.Lexis.{Token, Lexed, ends, between, token, later, unclosed, wide, foreign, is_blank, is_inner, has_front, symbols, longest, opens_comment, comment_end, piece, tokens_of}
use Rattle.cv_lex.proofs.Exact.{computed}
use Rattle.cv_lex.proofs.Pieces.{comment_no_lexeme, lexeme}
use Rattle.cv_alone.specs.declared.parts.Reading.{Reading}
use Rattle.cv_alone.specs.Alone.{alone, alone_by, has_query, is_in_line, is_of, with_spaces}
use Rattle.cv_alone.specs.Parts.{at_start, at_token, behind_token, is_left_out, tokens_left_out, left_out_from}
use Rattle.cv_alone.proofs.Fronts.{number_len, symbol_len_is, told}
use Rattle.cv_alone.proofs.Relexing.{AreBehind, are_behind, none_before, over}
use Rattle.cv_alone.proofs.Spacing.{Test, at_whole, in_line, of}

-- a test that neither LF nor CR passes
in_line_by : (q : ℕ → Bool) → q 10 ≡ false → q 13 ≡ false → (b : ℕ) → q b ≡ true → is_in_line b ≡ true
in_line_by q lf cr b e =
    elim (cases_Bool (b == 10)) [
      | inl f ↦ let no : q 10 ≡ true = subst (λ x. q x ≡ true) (eqb-true b 10 f) e in absurd (cc)
      | inr f ↦ elim (cases_Bool (b == 13)) [
        | inl g ↦ let no : q 13 ≡ true = subst (λ x. q x ≡ true) (eqb-true b 13 g) e in absurd (cc)
        | inr g ↦ λ i. not (f i || g i)
      ]
    ]

run_in_line : (q : ℕ → Bool) → q 10 ≡ false → q 13 ≡ false → (bs : List ℕ) (i n : ℕ) → prefix_len q bs ≡ n → i < n → is_in_line (get_or bs i 0) ≡ true
run_in_line q lf cr bs i n e h = in_line_by q lf cr (get_or bs i 0) (prefix_len_passes q bs i 0 (omega arith))

-- symbols

abbrev all_in_line : List ℕ → Bool
all_in_line [] = true
all_in_line (b ∷ bs) = is_in_line b && all_in_line bs

abbrev each_in_line : List (List ℕ) → Bool
each_in_line [] = true
each_in_line (s ∷ ss) = all_in_line s && each_in_line ss

front_in_line : (s bs : List ℕ) (i : ℕ) → all_in_line s ≡ true → has_front s bs ≡ true → i < length s → is_in_line (get_or bs i 0) ≡ true
front_in_line [] bs i a e h = absurd (omega arith)
front_in_line (c ∷ s) [] i a e h = absurd (cc)
front_in_line (c ∷ s) (b ∷ bs) zero a e h =
    let same = eqb-true b c (and_parts (b == c) (has_front s bs) e).0 in
    ap is_in_line same ∙ (and_parts (is_in_line c) (all_in_line s) a).0
front_in_line (c ∷ s) (b ∷ bs) (suc i) a e h = front_in_line s bs i (and_parts (is_in_line c) (all_in_line s) a).1 (and_parts (b == c) (has_front s bs) e).1 (omega arith)

longest_in_line : (ss : List (List ℕ)) (bs : List ℕ) (i : ℕ) → each_in_line ss ≡ true → i < longest ss bs → is_in_line (get_or bs i 0) ≡ true
longest_in_line [] bs i a = λ h. absurd (omega arith)
longest_in_line (s ∷ ss) bs i a =
    let f = and_parts (all_in_line s) (each_in_line ss) a in
    cond_both (has_front s bs) (max (length s) (longest ss bs)) (longest ss bs) (λ n. i < n → is_in_line (get_or bs i 0) ≡ true)
    (λ e h. elim (cases_lt i (length s)) [
      | inl inside ↦ front_in_line s bs i f.0 e inside
      | inr past ↦ longest_in_line ss bs i f.1 (omega arith)
    ])
    (λ _ h. longest_in_line ss bs i f.1 h)

-- tokens

lexeme_at : (ss : List (List ℕ)) → each_in_line ss ≡ true → (t c l d : Bool) (bs : List ℕ) (kind : TokenKind) (n i : ℕ) → told ss t c l d bs ≡ Lexeme kind n → i < n → is_in_line (get_or bs i 0) ≡ true
lexeme_at ss a true c l d bs kind n i e h = absurd (cc)
lexeme_at ss a false true l d bs kind n i e h = absurd (comment_no_lexeme (comment_end 0 2 (drop 2 bs)) kind n e)
lexeme_at ss a false false true d bs kind n i e h = let len : prefix_len is_inner bs ≡ n = cc in run_in_line is_inner refl refl bs i n len h
lexeme_at ss a false false false true bs kind n i e h = run_in_line is_ascii_digit refl refl bs i n (number_len _ _ n kind e) h
lexeme_at ss a false false false false bs kind n i e h = let len = symbol_len_is (longest ss bs) n kind e in longest_in_line ss bs i a (omega arith)

lexeme_in_line : (bs : List ℕ) (kind : TokenKind) (n i : ℕ) → piece bs ≡ Lexeme kind n → i < n → is_in_line (get_or bs i 0) ≡ true
lexeme_in_line [] kind n i e h = absurd (cc)
lexeme_in_line (b ∷ bs) kind n i e h = lexeme_at symbols refl (is_blank b) (opens_comment (b ∷ bs)) (is_ascii_alphabetic b) (is_ascii_digit b) (b ∷ bs) kind n i e h

abbrev Lexing : Type 0
Lexing = Result (List Token) LexError

-- a line end is no byte of a token that is left out
abbrev IsClear : (number k : ℕ) → List ℕ → Lexing → Type 0
IsClear number k bs (Ok ts) = (s : Reading) (i : ℕ) → i < length bs → is_in_line (get_or bs i 0) ≡ false → is_of (left_out_from number s ts) (k + i) ≡ false
IsClear number k bs (Err e) = Unit {0}

end_clear : (number k : ℕ) (bs : List ℕ) → IsClear number k bs (Ok (record { kind = End; text = []; offset = k } ∷ []))
unfolding left_out_from
end_clear number k bs s i h line = over (record { kind = End; text = []; offset = k }) (k + i) (is_left_out number (at_token s [])) [] (omega arith)

-- what stands before the token, and behind it
past_clear : (number k : ℕ) (bs : List ℕ) (n : ℕ) (ts : List Token) → IsClear number (k + n) (drop n bs) (Ok ts) → (s : Reading) (i : ℕ) → n ≤ i → i < length bs → is_in_line (get_or bs i 0) ≡ false → is_of (left_out_from number s ts) (k + i) ≡ false
past_clear number k bs n ts rest s i past h line =
    let same : n + (i - n) ≡ i = omega arith in
    let place : k + n + (i - n) ≡ k + i = omega arith in
    subst (λ j. is_of (left_out_from number s ts) j ≡ false) place
    (rest s (i - n) (omega (arith, length-drop n bs)) (ap is_in_line (get_or-drop n bs (i - n) 0 ∙ ap (λ j. get_or bs j 0) same) ∙ line))

between_clear : (number k : ℕ) (bs : List ℕ) (n : ℕ) (r : Lexing) → AreBehind (k + n) r → IsClear number (k + n) (drop n bs) r → IsClear number k bs r
between_clear number k bs n (Err e) far rest = tt
between_clear number k bs n (Ok ts) far rest = λ s i h line.
    elim (cases_lt i n) [
      | inl inside ↦ none_before number s (k + n) (k + i) (omega arith) ts far
      | inr past ↦ past_clear number k bs n ts rest s i past h line
    ]

token_clear : (number k : ℕ) (bs : List ℕ) (n : ℕ) (kind : TokenKind) (ts : List Token) → piece bs ≡ Lexeme kind n → IsClear number (k + n) (drop n bs) (Ok ts) → IsClear number k bs (Ok (record { kind = kind; text = take n bs; offset = k } ∷ ts))
unfolding left_out_from
token_clear number k bs n kind ts e rest s i h line =
    elim (cases_lt i n) [
      | inl inside ↦ let no = lexeme_in_line bs kind n i e inside in absurd (cc)
      | inr past ↦
          let here = at_token s (take n bs) in
          let next = behind_token here (take n bs) in
          let long = length-take-le n bs (lexeme bs kind n e).within in
          over (record { kind = kind; text = take n bs; offset = k }) (k + i) (is_left_out number here) (left_out_from number next ts) (omega (arith, long))
          ∙ past_clear number k bs n ts rest next i past h line
    ]

clear : (number : ℕ) {k : ℕ} {bs : List ℕ} {r : Lexing} → Lexed k bs r → IsClear number k bs r
clear number {k = k} {bs = bs} (ends e) = end_clear number k bs
clear number {k = k} {bs = bs} {r = r} (between n e d) = between_clear number k bs n r (are_behind {k = k + n} {bs = drop n bs} d) (clear number {k = k + n} {bs = drop n bs} d)
clear number {k = k} {bs = bs} (token {ts = ts} kind n e d) = token_clear number k bs n kind ts e (clear number {k = k + n} {bs = drop n bs} d)
clear number (later kind n e d) = tt
clear number (unclosed e) = tt
clear number (wide e) = tt
clear number (foreign e) = tt

-- the bytes

abbrev StaysAt : List ℕ → List ℕ → ℕ → Type 0
StaysAt new old i = get_or new i 0 ≡ get_or old i 0

kept_at : (is : Test) (bs : List ℕ) (i : ℕ) → i < length bs → is i (get_or bs i 0) ≡ false → StaysAt (with_spaces is bs) bs i
kept_at is bs i h e = at_whole is bs i h ∙ (λ j. if e j then 32 else get_or bs i 0)

at_by : (number : ℕ) (bs : List ℕ) (r : Lexing) → IsClear number 0 bs r → (i : ℕ) → i < length bs → is_in_line (get_or bs i 0) ≡ false → StaysAt (alone_by number bs r) bs i
at_by number bs (Err e) free i h line = refl
at_by number bs (Ok ts) free i h line =
    let same : 0 + i ≡ i = omega arith in
    cond_both (has_query number ts) (with_spaces (of (tokens_left_out number ts)) bs) (with_spaces in_line bs) (λ l. StaysAt l bs i)
    (λ _. kept_at (of (tokens_left_out number ts)) bs i h (subst (λ j. is_of (tokens_left_out number ts) j ≡ false) same (free at_start i h line)))
    (λ _. kept_at in_line bs i h line)

pub line_ends_stay : (number : ℕ) (bs : List ℕ) (i : ℕ) → i < length bs → is_in_line (get_or bs i 0) ≡ false → StaysAt (alone number bs) bs i
line_ends_stay number bs i h line = at_by number bs (tokens_of bs) (clear number {k = 0} {bs = bs} (computed _ 0 bs (omega arith))) i h line
