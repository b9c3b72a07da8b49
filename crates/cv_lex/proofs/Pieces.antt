-- What a piece tells: its length, that a token's text is ASCII, and that the text alone is the same token.
use Rattle.std.proofs.Common.{◌≡◌, ℕ, zero, suc, ◌+◌, ◌-◌, ◌<◌, ◌≤◌, ◌^◌, Bool, true, false, ◌==◌, ◌&&◌, ◌||◌, inl, inr, nat_lt, if◌then◌else◌, max, List, [], ◌∷◌, length, take, drop, get_or, Option, Some, None, refl, ap, sym, ◌∙◌, arith, subst, codes, IsAscii}
use Rattle.std.specs.List.{prefix_len}
use Rattle.std.specs.Char.{is_ascii_alphabetic, is_ascii_digit}
use Rattle.std.proofs.lemmas.Bool.{cond_both, cases_Bool, cases_lt, false_from_ne_true, and_parts, and_from, eqb-true, ltb-true}
use Rattle.std.proofs.lemmas.Bool.Decides.{nat_tests}
use Rattle.std.proofs.lemmas.List.{length-take-le, get_or-take, take-take, take_all, length-drop}
use Rattle.std.proofs.lemmas.List.Sums.{prefix_len-le-length, prefix_len_is, prefix_len_passes}
use Rattle.std.proofs.lemmas.Str.Ascii.{IsAscii-from_reads, IsAscii-nil, IsAscii-cons}
use Rattle.cv_lex.specs.declared.TokenKind.{TokenKind}
use Rattle.cv_lex.specs.declared.TokenKind.TheVariants.{Ident, Number, End}
use Rattle.cv_lex.specs.declared.scan.Piece.{Piece}
use Rattle.cv_lex.specs.declared.scan.Piece.TheVariants.{Nothing, Between, Lexeme, WideNumber}
use Rattle.cv_lex.specs.Lexis.{is_blank, is_inner, has_front, symbols, longest, value_of, opens, closes, comment_end, opens_comment, a_comment, a_number, a_symbol, piece, IsToken}

-- comments

pub comment_bounds : (depth at : ℕ) (bs : List ℕ) (n : ℕ) → comment_end depth at bs ≡ Some n → (at < n) × (n ≤ at + length bs)
comment_bounds depth at [] n = λ e. absurd (cc)
comment_bounds depth at (a ∷ []) n = λ e. absurd (cc)
comment_bounds zero at (a ∷ b ∷ bs) n =
    cond_both (opens a b) _ _ (λ o. o ≡ Some n → (at < n) × (n ≤ at + length (a ∷ b ∷ bs)))
    (λ _ e. let i = comment_bounds 1 (at + 2) bs n e in (omega arith, omega arith))
    (λ _. cond_both (closes a b) _ _ (λ o. o ≡ Some n → (at < n) × (n ≤ at + length (a ∷ b ∷ bs)))
    (λ _ e. let i : at + 2 ≡ n = cc in (omega arith, omega arith))
    (λ _ e. let i = comment_bounds zero (at + 1) (b ∷ bs) n e in (omega arith, omega arith)))
comment_bounds (suc depth) at (a ∷ b ∷ bs) n =
    cond_both (opens a b) _ _ (λ o. o ≡ Some n → (at < n) × (n ≤ at + length (a ∷ b ∷ bs)))
    (λ _ e. let i = comment_bounds (suc (suc depth)) (at + 2) bs n e in (omega arith, omega arith))
    (λ _. cond_both (closes a b) _ _ (λ o. o ≡ Some n → (at < n) × (n ≤ at + length (a ∷ b ∷ bs)))
    (λ _ e. let i = comment_bounds depth (at + 2) bs n e in (omega arith, omega arith))
    (λ _ e. let i = comment_bounds (suc depth) (at + 1) (b ∷ bs) n e in (omega arith, omega arith)))

-- runs of bytes that pass a test

pub run_some : (p : ℕ → Bool) (b : ℕ) (bs : List ℕ) → p b ≡ true → 0 < prefix_len p (b ∷ bs)
run_some p b bs e = rw e (omega arith)

pub run_take : (p : ℕ → Bool) (bs : List ℕ) (n : ℕ) → prefix_len p bs ≡ n → prefix_len p (take n bs) ≡ n
run_take p bs n e =
    let within : n ≤ length bs = omega (arith, prefix_len-le-length p bs) in
    let whole : length (take n bs) ≡ n = length-take-le n bs within in
    prefix_len_is p (take n bs) n 0 (omega arith) (λ k h. rw (get_or-take n bs k 0 h) (prefix_len_passes p bs k 0 (omega arith))) (λ h. absurd (omega arith))

pub run_ascii : (p : ℕ → Bool) → ((b : ℕ) → p b ≡ true → b < 128) → (bs : List ℕ) (n : ℕ) → prefix_len p bs ≡ n → IsAscii (take n bs)
run_ascii p low bs n e =
    let within : n ≤ length bs = omega (arith, prefix_len-le-length p bs) in
    let whole : length (take n bs) ≡ n = length-take-le n bs within in
    IsAscii-from_reads (take n bs) n (omega arith) (λ k h. rw (get_or-take n bs k 0 h) (low (get_or bs k 0) (prefix_len_passes p bs k 0 (omega arith))))

inner_ascii : (b : ℕ) → is_inner b ≡ true → b < 128
inner_ascii b e = grind (arith, nat_tests)

digit_ascii : (b : ℕ) → is_ascii_digit b ≡ true → b < 128
digit_ascii b e = grind (arith, nat_tests)

letter_inner : (b : ℕ) → is_ascii_alphabetic b ≡ true → is_inner b ≡ true
letter_inner b e = ap (λ c. c || (is_ascii_digit b || (b == 95))) e

-- texts at the front

front_within : (s bs : List ℕ) → has_front s bs ≡ true → length s ≤ length bs
front_within [] bs e = omega arith
front_within (a ∷ s) [] e = absurd (cc)
front_within (a ∷ s) (b ∷ bs) e = let p = and_parts (b == a) (has_front s bs) e in let i = front_within s bs p.1 in omega arith

front_take : (s bs : List ℕ) (n : ℕ) → length s ≤ n → has_front s bs ≡ true → has_front s (take n bs) ≡ true
front_take [] bs n h e = refl
front_take (a ∷ s) [] n h e = absurd (cc)
front_take (a ∷ s) (b ∷ bs) zero h e = absurd (omega arith)
front_take (a ∷ s) (b ∷ bs) (suc n) h e = let p = and_parts (b == a) (has_front s bs) e in and_from (b == a) _ p.0 (front_take s bs n (omega arith) p.1)

front_from_take : (s bs : List ℕ) (n : ℕ) → has_front s (take n bs) ≡ true → has_front s bs ≡ true
front_from_take [] bs n e = refl
front_from_take (a ∷ s) [] zero e = absurd (cc)
front_from_take (a ∷ s) [] (suc n) e = absurd (cc)
front_from_take (a ∷ s) (b ∷ bs) zero e = absurd (cc)
front_from_take (a ∷ s) (b ∷ bs) (suc n) e = let p = and_parts (b == a) (has_front s (take n bs)) e in and_from (b == a) _ p.0 (front_from_take s bs n p.1)

no_front_take : (s bs : List ℕ) (n : ℕ) → has_front s bs ≡ false → has_front s (take n bs) ≡ false
no_front_take s bs n e = false_from_ne_true _ (λ t. let u = front_from_take s bs n t in absurd (cc))

longest_take : (ss : List (List ℕ)) (bs : List ℕ) (n : ℕ) → longest ss bs ≤ n → longest ss (take n bs) ≡ longest ss bs
longest_take [] bs n h = refl
longest_take (s ∷ ss) bs n h =
    elim (cases_Bool (has_front s bs)) [
      | inl e ↦
          let l : max (length s) (longest ss bs) ≤ n = rw e at h in
          let f : has_front s (take n bs) ≡ true = front_take s bs n (omega arith) e in
          let i : longest ss (take n bs) ≡ longest ss bs = longest_take ss bs n (omega arith) in
          rw (e, f) (ap (max (length s)) i)
      | inr e ↦
          let l : longest ss bs ≤ n = rw e at h in
          let f : has_front s (take n bs) ≡ false = no_front_take s bs n e in
          rw (e, f) (longest_take ss bs n l)
    ]

longest_within : (ss : List (List ℕ)) (bs : List ℕ) → longest ss bs ≤ length bs
longest_within [] bs = omega arith
longest_within (s ∷ ss) bs =
    cond_both (has_front s bs) (max (length s) (longest ss bs)) (longest ss bs) (λ n. n ≤ length bs)
    (λ e. omega (arith, front_within s bs e, longest_within ss bs))
    (λ _. longest_within ss bs)

-- every byte is below 128
abbrev all_ascii : List ℕ → Bool
all_ascii [] = true
all_ascii (b ∷ bs) = nat_lt b 128 && all_ascii bs

abbrev each_ascii : List (List ℕ) → Bool
each_ascii [] = true
each_ascii (s ∷ ss) = all_ascii s && each_ascii ss

front_ascii : (s bs : List ℕ) → all_ascii s ≡ true → has_front s bs ≡ true → IsAscii (take (length s) bs)
front_ascii [] bs h e = IsAscii-nil
front_ascii (a ∷ s) [] h e = absurd (cc)
front_ascii (a ∷ s) (b ∷ bs) h e =
    let p = and_parts (b == a) (has_front s bs) e in
    let q = and_parts (nat_lt a 128) (all_ascii s) h in
    let same = eqb-true b a p.0 in
    let low = ltb-true a 128 q.0 in
    IsAscii-cons b (take (length s) bs) (omega arith) (front_ascii s bs q.1 p.1)

larger : (m n : ℕ) (bs : List ℕ) → IsAscii (take m bs) → IsAscii (take n bs) → IsAscii (take (max m n) bs)
larger m n bs a b =
    elim (cases_lt m n) [
      | inl h ↦ let e : max m n ≡ n = omega arith in rw e b
      | inr h ↦ let e : max m n ≡ m = omega arith in rw e a
    ]

longest_ascii : (ss : List (List ℕ)) (bs : List ℕ) → each_ascii ss ≡ true → IsAscii (take (longest ss bs) bs)
longest_ascii [] bs h = IsAscii-nil
longest_ascii (s ∷ ss) bs h =
    let q = and_parts (all_ascii s) (each_ascii ss) h in
    cond_both (has_front s bs) (max (length s) (longest ss bs)) (longest ss bs) (λ n. IsAscii (take n bs))
    (λ e. larger (length s) (longest ss bs) bs (front_ascii s bs q.0 e) (longest_ascii ss bs q.1))
    (λ _. longest_ascii ss bs q.1)

-- what the token at the front tells
pub record IsLexeme (kind : TokenKind) (bs : List ℕ) (n : ℕ) : Type 0 where
  pub some : 0 < n
  pub within : n ≤ length bs
  pub ascii : IsAscii (take n bs)
  pub alone : IsToken kind (take n bs)

-- the piece of bytes whose tests are known
abbrev decided : (ss : List (List ℕ)) (blank comments letter digit : Bool) → List ℕ → Piece
decided ss t c l d bs =
    if t then Between 1
    else (if c then a_comment (comment_end 0 2 (drop 2 bs))
    else (if l then Lexeme Ident (prefix_len is_inner bs)
    else (if d then a_number (prefix_len is_ascii_digit bs) (value_of (take (prefix_len is_ascii_digit bs) bs))
    else a_symbol (longest ss bs))))

number_len : (n v m : ℕ) (kind : TokenKind) → a_number n v ≡ Lexeme kind m → n ≡ m
number_len n v m kind =
    cond_both (nat_lt v (2 ^ 64)) (Lexeme (Number v) n) WideNumber (λ p. p ≡ Lexeme kind m → n ≡ m) (λ _ e. cc) (λ _ e. absurd (cc))

number_no_gap : (n v m : ℕ) → a_number n v ≡ Between m → ⊥
number_no_gap n v m =
    cond_both (nat_lt v (2 ^ 64)) (Lexeme (Number v) n) WideNumber (λ p. p ≡ Between m → ⊥) (λ _ e. cc) (λ _ e. cc)

symbol_len_is : (n m : ℕ) (kind : TokenKind) → a_symbol n ≡ Lexeme kind m → (n ≡ m) × (0 < m)
symbol_len_is zero m kind e = absurd (cc)
symbol_len_is (suc n) m kind e = let i : suc n ≡ m = cc in (i, omega arith)

symbol_no_gap : (n m : ℕ) → a_symbol n ≡ Between m → ⊥
symbol_no_gap zero m e = cc
symbol_no_gap (suc n) m e = cc

pub comment_no_lexeme : (o : Option ℕ) (kind : TokenKind) (m : ℕ) → a_comment o ≡ Lexeme kind m → ⊥
comment_no_lexeme None kind m e = cc
comment_no_lexeme (Some n) kind m e = cc

comment_gap : (o : Option ℕ) (m : ℕ) → a_comment o ≡ Between m → o ≡ Some m
comment_gap None m e = absurd (cc)
comment_gap (Some n) m e = cc

module _ (ss : List (List ℕ)) (low : each_ascii ss ≡ true) (b : ℕ) (bs : List ℕ) (blank : is_blank b ≡ false) (comments : opens_comment (b ∷ bs) ≡ false) where
  -- the tests on the text alone
  alone_is : (l d : Bool) (m : ℕ) → is_ascii_alphabetic b ≡ l → is_ascii_digit b ≡ d → decided ss (is_blank b) (opens_comment (b ∷ take m bs)) (is_ascii_alphabetic b) (is_ascii_digit b) (b ∷ take m bs) ≡ decided ss false false l d (b ∷ take m bs)
  alone_is l d m p q = let o = no_front_take (codes "(*") (b ∷ bs) (suc m) comments in λ i. decided ss (blank i) (o i) (p i) (q i) (b ∷ take m bs)

  abbrev Alone : TokenKind → ℕ → Type 0
  Alone kind m = decided ss (is_blank b) (opens_comment (b ∷ take m bs)) (is_ascii_alphabetic b) (is_ascii_digit b) (b ∷ take m bs) ≡ Lexeme kind (suc m)

  ident : (d : Bool) (kind : TokenKind) (n : ℕ) → is_ascii_alphabetic b ≡ true → is_ascii_digit b ≡ d → Lexeme Ident (prefix_len is_inner (b ∷ bs)) ≡ Lexeme kind n → (n ≡ suc (n - 1)) × (n ≤ length (b ∷ bs)) × IsAscii (take n (b ∷ bs)) × Alone kind (n - 1)
  ident d kind n letter digit e =
      let len : prefix_len is_inner (b ∷ bs) ≡ n = cc in
      let kind_is : Ident ≡ kind = cc in
      let some = run_some is_inner b bs (letter_inner b letter) in
      let back : n ≡ suc (n - 1) = omega arith in
      let again : prefix_len is_inner (b ∷ take (n - 1) bs) ≡ suc (n - 1) = run_take is_inner (b ∷ bs) (suc (n - 1)) (len ∙ back) in (
        back,
        omega (arith, prefix_len-le-length is_inner (b ∷ bs)),
        run_ascii is_inner inner_ascii (b ∷ bs) n len,
        alone_is true d (n - 1) letter digit ∙ (λ i. Lexeme (kind_is i) (again i)),
      )

  number : (kind : TokenKind) (n : ℕ) → is_ascii_alphabetic b ≡ false → is_ascii_digit b ≡ true → a_number (prefix_len is_ascii_digit (b ∷ bs)) (value_of (take (prefix_len is_ascii_digit (b ∷ bs)) (b ∷ bs))) ≡ Lexeme kind n → (n ≡ suc (n - 1)) × (n ≤ length (b ∷ bs)) × IsAscii (take n (b ∷ bs)) × Alone kind (n - 1)
  number kind n letter digit e =
      let len : prefix_len is_ascii_digit (b ∷ bs) ≡ n = number_len _ _ n kind e in
      let some = run_some is_ascii_digit b bs digit in
      let back : n ≡ suc (n - 1) = omega arith in
      let bound = prefix_len-le-length is_ascii_digit (b ∷ bs) in
      let whole : take (suc (n - 1)) (b ∷ take (n - 1) bs) ≡ take (suc (n - 1)) (b ∷ bs) = take-take (suc (n - 1)) (suc (n - 1)) (b ∷ bs) (omega arith) in
      let again : prefix_len is_ascii_digit (b ∷ take (n - 1) bs) ≡ suc (n - 1) = run_take is_ascii_digit (b ∷ bs) (suc (n - 1)) (len ∙ back) in (
        back,
        omega arith,
        run_ascii is_ascii_digit digit_ascii (b ∷ bs) n len,
        alone_is false true (n - 1) letter digit
            ∙ (λ i. a_number (again i) (value_of (take (again i) (b ∷ take (n - 1) bs))))
            ∙ ap (λ t. a_number (suc (n - 1)) (value_of t)) whole
            ∙ sym (λ i. a_number ((len ∙ back) i) (value_of (take ((len ∙ back) i) (b ∷ bs))))
            ∙ e ∙ ap (Lexeme kind) back,
      )

  symbol : (kind : TokenKind) (n : ℕ) → is_ascii_alphabetic b ≡ false → is_ascii_digit b ≡ false → a_symbol (longest ss (b ∷ bs)) ≡ Lexeme kind n → (n ≡ suc (n - 1)) × (n ≤ length (b ∷ bs)) × IsAscii (take n (b ∷ bs)) × Alone kind (n - 1)
  symbol kind n letter digit e =
      let len = symbol_len_is (longest ss (b ∷ bs)) n kind e in
      let back : n ≡ suc (n - 1) = omega arith in
      let bound = longest_within ss (b ∷ bs) in
      let again : longest ss (b ∷ take (n - 1) bs) ≡ longest ss (b ∷ bs) = longest_take ss (b ∷ bs) (suc (n - 1)) (omega arith) in (
        back,
        omega arith,
        subst (λ k. IsAscii (take k (b ∷ bs))) len.0 (longest_ascii ss (b ∷ bs) low),
        alone_is false false (n - 1) letter digit ∙ ap a_symbol again ∙ e ∙ ap (Lexeme kind) back,
      )

lexeme_at : (t c l d : Bool) (b : ℕ) (bs : List ℕ) (kind : TokenKind) (n : ℕ) → is_blank b ≡ t → opens_comment (b ∷ bs) ≡ c → is_ascii_alphabetic b ≡ l → is_ascii_digit b ≡ d → decided symbols t c l d (b ∷ bs) ≡ Lexeme kind n → (n ≡ suc (n - 1)) × (n ≤ length (b ∷ bs)) × IsAscii (take n (b ∷ bs)) × (piece (b ∷ take (n - 1) bs) ≡ Lexeme kind (suc (n - 1)))
lexeme_at true c l d b bs kind n bt ct lt dt e = absurd (cc)
lexeme_at false true l d b bs kind n bt ct lt dt e = absurd (comment_no_lexeme (comment_end 0 2 (drop 2 (b ∷ bs))) kind n e)
lexeme_at false false true d b bs kind n bt ct lt dt e = ident symbols refl b bs bt ct d kind n lt dt e
lexeme_at false false false true b bs kind n bt ct lt dt e = number symbols refl b bs bt ct kind n lt dt e
lexeme_at false false false false b bs kind n bt ct lt dt e = symbol symbols refl b bs bt ct kind n lt dt e

pub lexeme : (bs : List ℕ) (kind : TokenKind) (n : ℕ) → piece bs ≡ Lexeme kind n → IsLexeme kind bs n
lexeme [] kind n e = absurd (cc)
lexeme (b ∷ bs) kind n e =
    let f = lexeme_at (is_blank b) (opens_comment (b ∷ bs)) (is_ascii_alphabetic b) (is_ascii_digit b) b bs kind n refl refl refl refl e in
    let text : take n (b ∷ bs) ≡ b ∷ take (n - 1) bs = ap (λ k. take k (b ∷ bs)) f.0 in
    let long : length (b ∷ take (n - 1) bs) ≡ suc (n - 1) = sym (ap length text) ∙ length-take-le n (b ∷ bs) f.1 ∙ f.0 in
    record {
      some = omega arith;
      within = f.1;
      ascii = f.2;
      alone = ap piece text ∙ f.3 ∙ ap (Lexeme kind) (sym (ap length text ∙ long));
    }

between_at : (t c l d : Bool) (b : ℕ) (bs : List ℕ) (n : ℕ) → opens_comment (b ∷ bs) ≡ c → decided symbols t c l d (b ∷ bs) ≡ Between n → (0 < n) × (n ≤ length (b ∷ bs))
between_at true c l d b bs n ct e = let i : 1 ≡ n = cc in (omega arith, omega arith)
between_at false true l d b bs n ct e =
    let within = front_within (codes "(*") (b ∷ bs) ct in
    let f = comment_bounds 0 2 (drop 2 (b ∷ bs)) n (comment_gap (comment_end 0 2 (drop 2 (b ∷ bs))) n e) in
    (omega arith, omega (arith, length-drop 2 (b ∷ bs)))
between_at false false true d b bs n ct e = absurd (cc)
between_at false false false true b bs n ct e = absurd (number_no_gap (prefix_len is_ascii_digit (b ∷ bs)) (value_of (take (prefix_len is_ascii_digit (b ∷ bs)) (b ∷ bs))) n e)
between_at false false false false b bs n ct e = absurd (symbol_no_gap (longest symbols (b ∷ bs)) n e)

pub between_bounds : (bs : List ℕ) (n : ℕ) → piece bs ≡ Between n → (0 < n) × (n ≤ length bs)
between_bounds [] n e = absurd (cc)
between_bounds (b ∷ bs) n e = between_at (is_blank b) (opens_comment (b ∷ bs)) (is_ascii_alphabetic b) (is_ascii_digit b) b bs n refl e

pub between_some : (bs : List ℕ) (n : ℕ) → piece bs ≡ Between n → (0 < n) × (0 < length bs)
between_some bs n e = let f = between_bounds bs n e in (f.0, omega arith)

pub token_some : (bs : List ℕ) (kind : TokenKind) (n : ℕ) → piece bs ≡ Lexeme kind n → (0 < n) × (0 < length bs)
token_some bs kind n e = let f = lexeme bs kind n e in (f.some, omega (arith, f.some, f.within))

comment_opens : (b : ℕ) (bs : List ℕ) → opens_comment (b ∷ bs) ≡ opens b (get_or bs 0 0)
comment_opens b [] = refl
comment_opens b (c ∷ bs) = elim (cases_Bool (c == 42)) [ inl e ↦ simp e | inr e ↦ simp e ]

-- where no other piece stands at the front, a symbol does, or a foreign byte
pub piece_symbol : (bs : List ℕ) (second : ℕ) → second ≡ get_or bs 1 0 → (length bs == 0) ≡ false → is_blank (get_or bs 0 0) ≡ false → opens (get_or bs 0 0) second ≡ false → is_ascii_alphabetic (get_or bs 0 0) ≡ false → is_ascii_digit (get_or bs 0 0) ≡ false → a_symbol (longest symbols bs) ≡ piece bs
piece_symbol [] second s some blank comments letter digit = absurd (cc)
piece_symbol (b ∷ bs) second s some blank comments letter digit =
    let o : opens_comment (b ∷ bs) ≡ false = comment_opens b bs ∙ sym (ap (opens b) s) ∙ comments in
    sym (λ i. decided symbols (blank i) (o i) (letter i) (digit i) (b ∷ bs))

-- the text of a token is ASCII
pub token_ascii : (kind : TokenKind) (text : List ℕ) → IsToken kind text → IsAscii text
token_ascii kind text e = subst IsAscii (take_all (length text) text (omega arith)) (lexeme text kind (length text) e).ascii

comment_something : (o : Option ℕ) → a_comment o ≡ Nothing → ⊥
comment_something None e = cc
comment_something (Some n) e = cc

number_something : (n v : ℕ) → a_number n v ≡ Nothing → ⊥
number_something n v = cond_both (nat_lt v (2 ^ 64)) (Lexeme (Number v) n) WideNumber (λ p. p ≡ Nothing → ⊥) (λ _ e. cc) (λ _ e. cc)

symbol_something : (n : ℕ) → a_symbol n ≡ Nothing → ⊥
symbol_something zero e = cc
symbol_something (suc n) e = cc

something_at : (t c l d : Bool) (bs : List ℕ) → decided symbols t c l d bs ≡ Nothing → ⊥
something_at true c l d bs e = cc
something_at false true l d bs e = comment_something (comment_end 0 2 (drop 2 bs)) e
something_at false false true d bs e = cc
something_at false false false true bs e = number_something (prefix_len is_ascii_digit bs) (value_of (take (prefix_len is_ascii_digit bs) bs)) e
something_at false false false false bs e = symbol_something (longest symbols bs) e

-- nothing stands at the end alone
pub nothing_left : (bs : List ℕ) → piece bs ≡ Nothing → length bs ≡ 0
nothing_left [] e = refl
nothing_left (b ∷ bs) e = absurd (something_at (is_blank b) (opens_comment (b ∷ bs)) (is_ascii_alphabetic b) (is_ascii_digit b) (b ∷ bs) e)

number_not_end : (n v m : ℕ) → a_number n v ≡ Lexeme End m → ⊥
number_not_end n v m = cond_both (nat_lt v (2 ^ 64)) (Lexeme (Number v) n) WideNumber (λ p. p ≡ Lexeme End m → ⊥) (λ _ e. cc) (λ _ e. cc)

symbol_not_end : (n m : ℕ) → a_symbol n ≡ Lexeme End m → ⊥
symbol_not_end zero m e = cc
symbol_not_end (suc n) m e = cc

not_end_at : (t c l d : Bool) (bs : List ℕ) (n : ℕ) → decided symbols t c l d bs ≡ Lexeme End n → ⊥
not_end_at true c l d bs n e = cc
not_end_at false true l d bs n e = comment_no_lexeme (comment_end 0 2 (drop 2 bs)) End n e
not_end_at false false true d bs n e = cc
not_end_at false false false true bs n e = number_not_end (prefix_len is_ascii_digit bs) (value_of (take (prefix_len is_ascii_digit bs) bs)) n e
not_end_at false false false false bs n e = symbol_not_end (longest symbols bs) n e

-- no text is the end token
pub token_not_end : (text : List ℕ) → IsToken End text → ⊥
token_not_end [] e = cc
token_not_end (b ∷ bs) e = not_end_at (is_blank b) (opens_comment (b ∷ bs)) (is_ascii_alphabetic b) (is_ascii_digit b) (b ∷ bs) (length (b ∷ bs)) e
