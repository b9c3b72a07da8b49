-- What stands at the front of a text stays there where only bytes behind it become spaces.
use Rattle.std.proofs.Common.{◌≡◌, ℕ, zero, suc, ◌+◌, ◌-◌, ◌^◌, ◌<◌, ◌≤◌, Bool, true, false, ◌==◌, ◌&&◌, inl, inr, nat_lt, cond, if◌then◌else◌, max, List, [], ◌∷◌, length, take, drop, Option, Some, None, refl, ap, sym, ◌∙◌, subst, arith, codes}
use Rattle.std.specs.Prelude.{not}
use Rattle.std.specs.List.{prefix_len}
use Rattle.std.specs.Char.{is_ascii_alphabetic, is_ascii_digit}
use Rattle.std.proofs.lemmas.Bool.{and_from, and_parts, cases_Bool, cond_both, eqb-true, false_from_ne_true}
use Rattle.cv_lex.specs.declared.TokenKind.{TokenKind}
use Rattle.cv_lex.specs.declared.TokenKind.TheVariants.{Ident, Number}
use Rattle.cv_lex.specs.declared.scan.Piece.{Piece}
use Rattle.cv_lex.specs.declared.scan.Piece.TheVariants.{Between, Lexeme, WideNumber}
use Rattle.cv_lex.specs.Lexis.{is_blank, is_inner, has_front, symbols, longest, value_of, opens, closes, comment_end, opens_comment, a_comment, a_number, a_symbol, piece}
use Rattle.cv_lex.proofs.Pieces.{between_bounds, comment_bounds, comment_no_lexeme, lexeme}
use Rattle.cv_alone.specs.Alone.{with_spaces_from}
use Rattle.cv_alone.proofs.Spacing.{Test}

abbrev no_space : List ℕ → Bool
no_space [] = true
no_space (b ∷ bs) = not (b == 32) && no_space bs

abbrev no_spaces : List (List ℕ) → Bool
no_spaces [] = true
no_spaces (s ∷ ss) = no_space s && no_spaces ss

was_there : (x : Bool) (b a : ℕ) → ((if x then 32 else b) == a) ≡ true → not (a == 32) ≡ true → (b == a) ≡ true
was_there true b a e n = let no : not (32 == 32) ≡ true = subst (λ x. not (x == 32) ≡ true) (sym (eqb-true 32 a e)) n in absurd (cc)
was_there false b a e n = e

passes_neither : (q : ℕ → Bool) (x : Bool) (b : ℕ) → q 32 ≡ false → q b ≡ false → q (if x then 32 else b) ≡ false
passes_neither q true b none e = none
passes_neither q false b none e = e

-- the first of a choice of three that is taken, in another choice
chosen : (x y : Bool) (u v w a b c : Option ℕ) (n : ℕ) → (u ≡ Some n → a ≡ Some n) → (v ≡ Some n → b ≡ Some n) → (w ≡ Some n → c ≡ Some n) → (if x then u else (if y then v else w)) ≡ Some n → (if x then a else (if y then b else c)) ≡ Some n
chosen true y u v w a b c n f g h e = f e
chosen false true u v w a b c n f g h e = g e
chosen false false u v w a b c n f g h e = h e

-- a comment of so many bytes has two of them at the front
two_front : (depth at a b : ℕ) (bs : List ℕ) (n : ℕ) → comment_end depth at (a ∷ b ∷ bs) ≡ Some n → at + 2 ≤ n
two_front zero at a b bs n =
    cond_both (opens a b) _ _ (λ o. o ≡ Some n → at + 2 ≤ n) (λ _ e. let i = comment_bounds 1 (at + 2) bs n e in omega arith)
    (λ _. cond_both (closes a b) _ _ (λ o. o ≡ Some n → at + 2 ≤ n) (λ _ e. let i : at + 2 ≡ n = cc in omega arith) (λ _ e. let i = comment_bounds zero (at + 1) (b ∷ bs) n e in omega arith))
two_front (suc depth) at a b bs n =
    cond_both (opens a b) _ _ (λ o. o ≡ Some n → at + 2 ≤ n) (λ _ e. let i = comment_bounds (suc (suc depth)) (at + 2) bs n e in omega arith)
    (λ _. cond_both (closes a b) _ _ (λ o. o ≡ Some n → at + 2 ≤ n) (λ _ e. let i = comment_bounds depth (at + 2) bs n e in omega arith) (λ _ e. let i = comment_bounds (suc depth) (at + 1) (b ∷ bs) n e in omega arith))

-- the piece of bytes whose tests are known
abbrev pub told : (ss : List (List ℕ)) (blank comment letter digit : Bool) → List ℕ → Piece
told ss t c l d bs =
    if t then Between 1
    else (if c then a_comment (comment_end 0 2 (drop 2 bs))
    else (if l then Lexeme Ident (prefix_len is_inner bs)
    else (if d then a_number (prefix_len is_ascii_digit bs) (value_of (take (prefix_len is_ascii_digit bs) bs))
    else a_symbol (longest ss bs))))

as_told : (t c l d : Bool) (b : ℕ) (bs : List ℕ) → is_blank b ≡ t → opens_comment (b ∷ bs) ≡ c → is_ascii_alphabetic b ≡ l → is_ascii_digit b ≡ d → piece (b ∷ bs) ≡ told symbols t c l d (b ∷ bs)
as_told t c l d b bs blank comment letter digit = λ i. told symbols (blank i) (comment i) (letter i) (digit i) (b ∷ bs)

pub number_len : (n v m : ℕ) (kind : TokenKind) → a_number n v ≡ Lexeme kind m → n ≡ m
number_len n v m kind = cond_both (nat_lt v (2 ^ 64)) (Lexeme (Number v) n) WideNumber (λ p. p ≡ Lexeme kind m → n ≡ m) (λ _ e. cc) (λ _ e. absurd (cc))

number_no_gap : (n v m : ℕ) → a_number n v ≡ Between m → ⊥
number_no_gap n v m = cond_both (nat_lt v (2 ^ 64)) (Lexeme (Number v) n) WideNumber (λ p. p ≡ Between m → ⊥) (λ _ e. cc) (λ _ e. cc)

pub symbol_len_is : (n m : ℕ) (kind : TokenKind) → a_symbol n ≡ Lexeme kind m → n ≡ m
symbol_len_is zero m kind e = absurd (cc)
symbol_len_is (suc n) m kind e = cc

symbol_no_gap : (n m : ℕ) → a_symbol n ≡ Between m → ⊥
symbol_no_gap zero m e = cc
symbol_no_gap (suc n) m e = cc

comment_gap : (o : Option ℕ) (m : ℕ) → a_comment o ≡ Between m → o ≡ Some m
comment_gap None m e = absurd (cc)
comment_gap (Some n) m e = cc

module _ (p : ℕ → Bool) where
  abbrev pub test : Test
  test at _ = p at

  abbrev pub after : ℕ → List ℕ → List ℕ
  after k bs = with_spaces_from test k bs

  -- none of so many bytes from one on becomes a space
  abbrev pub Stays : (from count : ℕ) → Type 0
  Stays from count = (j : ℕ) → from ≤ j → j < from + count → p j ≡ false

  pub head_stays : (k b : ℕ) → p k ≡ false → (if p k then 32 else b) ≡ b
  head_stays k b e = λ i. if e i then 32 else b

  pub take_stays : (k n : ℕ) (bs : List ℕ) → Stays k n → take n (after k bs) ≡ take n bs
  unfolding with_spaces_from
  take_stays k zero bs s = refl
  take_stays k (suc n) [] s = refl
  take_stays k (suc n) (b ∷ bs) s =
      let here = head_stays k b (s k (omega arith) (omega arith)) in
      let rest = take_stays (k + 1) n bs (λ j h l. s j (omega arith) (omega arith)) in
      λ i. here i ∷ rest i

  pub drop_after : (k n : ℕ) (bs : List ℕ) → drop n (after k bs) ≡ after (k + n) (drop n bs)
  unfolding with_spaces_from
  drop_after k zero bs = let same : k ≡ k + 0 = omega arith in ap (λ j. after j bs) same
  drop_after k (suc n) [] = refl
  drop_after k (suc n) (b ∷ bs) = let same : k + 1 + n ≡ k + suc n = omega arith in drop_after (k + 1) n bs ∙ ap (λ j. after j (drop n bs)) same

  front_was : (k : ℕ) (s bs : List ℕ) → no_space s ≡ true → has_front s (after k bs) ≡ true → has_front s bs ≡ true
  unfolding with_spaces_from
  front_was k [] bs n e = refl
  front_was k (a ∷ s) [] n e = absurd (cc)
  front_was k (a ∷ s) (b ∷ bs) n e =
      let f = and_parts ((if p k then 32 else b) == a) (has_front s (after (k + 1) bs)) e in
      let m = and_parts (not (a == 32)) (no_space s) n in
      and_from (b == a) (has_front s bs) (was_there (p k) b a f.0 m.0) (front_was (k + 1) s bs m.1 f.1)

  front_stays : (k n : ℕ) (s bs : List ℕ) → length s ≤ n → Stays k n → has_front s bs ≡ true → has_front s (after k bs) ≡ true
  unfolding with_spaces_from
  front_stays k n [] bs l s e = refl
  front_stays k n (a ∷ t) [] l s e = absurd (cc)
  front_stays k zero (a ∷ t) (b ∷ bs) l s e = absurd (omega arith)
  front_stays k (suc n) (a ∷ t) (b ∷ bs) l s e =
      let f = and_parts (b == a) (has_front t bs) e in
      and_from ((if p k then 32 else b) == a) (has_front t (after (k + 1) bs))
      (ap (λ c. c == a) (head_stays k b (s k (omega arith) (omega arith))) ∙ f.0)
      (front_stays (k + 1) n t bs (omega arith) (λ j h m. s j (omega arith) (omega arith)) f.1)

  no_front : (k : ℕ) (s bs : List ℕ) → no_space s ≡ true → has_front s bs ≡ false → has_front s (after k bs) ≡ false
  no_front k s bs n e = false_from_ne_true _ (λ t. let u = front_was k s bs n t in absurd (cc))

  longest_stays : (k n : ℕ) (ss : List (List ℕ)) (bs : List ℕ) → no_spaces ss ≡ true → Stays k n → longest ss bs ≤ n → longest ss (after k bs) ≡ longest ss bs
  longest_stays k n [] bs o s h = refl
  longest_stays k n (t ∷ ss) bs o s h =
      let m = and_parts (no_space t) (no_spaces ss) o in
      elim (cases_Bool (has_front t bs)) [
        | inl e ↦
            let l : max (length t) (longest ss bs) ≤ n = rw e at h in
            let f : has_front t (after k bs) ≡ true = front_stays k n t bs (omega arith) s e in
            let i : longest ss (after k bs) ≡ longest ss bs = longest_stays k n ss bs m.1 s (omega arith) in
            rw (e, f) (ap (max (length t)) i)
        | inr e ↦
            let l : longest ss bs ≤ n = rw e at h in
            let f : has_front t (after k bs) ≡ false = no_front k t bs m.0 e in
            rw (e, f) (longest_stays k n ss bs m.1 s l)
      ]

  run_stays : (q : ℕ → Bool) → q 32 ≡ false → (k n : ℕ) (bs : List ℕ) → prefix_len q bs ≡ n → Stays k n → prefix_len q (after k bs) ≡ n
  unfolding with_spaces_from
  run_stays q none k n [] e s = e
  run_stays q none k n (b ∷ bs) e s =
      elim (cases_Bool (q b)) [
        | inl t ↦
            let long : 1 + prefix_len q bs ≡ n = sym (λ i. cond (t i) (1 + prefix_len q bs) 0) ∙ e in
            let here : p k ≡ false = s k (omega arith) (omega arith) in
            let rest = run_stays q none (k + 1) (prefix_len q bs) bs refl (λ j h l. s j (omega arith) (omega arith)) in
            (λ i. cond (q (if here i then 32 else b)) (1 + rest i) 0) ∙ (λ i. cond (t i) (1 + prefix_len q bs) 0) ∙ long
        | inr t ↦
            let over : 0 ≡ n = sym (λ i. cond (t i) (1 + prefix_len q bs) 0) ∙ e in
            (λ i. cond (passes_neither q (p k) b none t i) (1 + prefix_len q (after (k + 1) bs)) 0) ∙ over
      ]

  comment_stays : (depth at k : ℕ) (bs : List ℕ) (n : ℕ) → Stays k (n - at) → comment_end depth at bs ≡ Some n → comment_end depth at (after k bs) ≡ Some n
  unfolding with_spaces_from
  comment_stays depth at k [] n s e = absurd (cc)
  comment_stays depth at k (a ∷ []) n s e = absurd (cc)
  comment_stays zero at k (a ∷ b ∷ bs) n s e =
      let two = two_front zero at a b bs n e in
      let first = head_stays k a (s k (omega arith) (omega arith)) in
      let second = head_stays (k + 1) b (s (k + 1) (omega arith) (omega arith)) in
      let far = after (k + 1 + 1) bs in
      (λ i. comment_end zero at (first i ∷ second i ∷ far))
      ∙ chosen (opens a b) (closes a b) _ _ _ (comment_end 1 (at + 2) far) (Some (at + 2)) (comment_end zero (at + 1) (b ∷ far)) n
      (comment_stays 1 (at + 2) (k + 1 + 1) bs n (λ j h l. s j (omega arith) (omega arith)))
      (λ f. f)
      (λ f. (λ i. comment_end zero (at + 1) (sym second i ∷ far)) ∙ comment_stays zero (at + 1) (k + 1) (b ∷ bs) n (λ j h l. s j (omega arith) (omega arith)) f)
      e
  comment_stays (suc depth) at k (a ∷ b ∷ bs) n s e =
      let two = two_front (suc depth) at a b bs n e in
      let first = head_stays k a (s k (omega arith) (omega arith)) in
      let second = head_stays (k + 1) b (s (k + 1) (omega arith) (omega arith)) in
      let far = after (k + 1 + 1) bs in
      (λ i. comment_end (suc depth) at (first i ∷ second i ∷ far))
      ∙ chosen (opens a b) (closes a b) _ _ _ (comment_end (suc (suc depth)) (at + 2) far) (comment_end depth (at + 2) far) (comment_end (suc depth) (at + 1) (b ∷ far)) n
      (comment_stays (suc (suc depth)) (at + 2) (k + 1 + 1) bs n (λ j h l. s j (omega arith) (omega arith)))
      (comment_stays depth (at + 2) (k + 1 + 1) bs n (λ j h l. s j (omega arith) (omega arith)))
      (λ f. (λ i. comment_end (suc depth) (at + 1) (sym second i ∷ far)) ∙ comment_stays (suc depth) (at + 1) (k + 1) (b ∷ bs) n (λ j h l. s j (omega arith) (omega arith)) f)
      e

  -- the piece at the front

  by_kind : (ss : List (List ℕ)) → no_spaces ss ≡ true → (l d : Bool) (k b : ℕ) (bs : List ℕ) (kind : TokenKind) (n : ℕ) → p k ≡ false → Stays k n → told ss false false l d (b ∷ bs) ≡ Lexeme kind n → told ss false false l d (b ∷ after (k + 1) bs) ≡ Lexeme kind n
  unfolding with_spaces_from
  by_kind ss none true d k b bs kind n here s e =
      let len : prefix_len is_inner (b ∷ bs) ≡ n = cc in
      let kind_is : Ident ≡ kind = cc in
      let run : prefix_len is_inner (b ∷ after (k + 1) bs) ≡ n = ap (λ x. prefix_len is_inner (x ∷ after (k + 1) bs)) (sym (head_stays k b here)) ∙ run_stays is_inner refl k n (b ∷ bs) len s in
      λ i. Lexeme (kind_is i) (run i)
  by_kind ss none false true k b bs kind n here s e =
      let head = sym (head_stays k b here) in
      let len : prefix_len is_ascii_digit (b ∷ bs) ≡ n = number_len _ _ n kind e in
      let run : prefix_len is_ascii_digit (b ∷ after (k + 1) bs) ≡ n = ap (λ x. prefix_len is_ascii_digit (x ∷ after (k + 1) bs)) head ∙ run_stays is_ascii_digit refl k n (b ∷ bs) len s in
      let text : take n (b ∷ after (k + 1) bs) ≡ take n (b ∷ bs) = ap (λ x. take n (x ∷ after (k + 1) bs)) head ∙ take_stays k n (b ∷ bs) s in
      (λ i. a_number (run i) (value_of (take (run i) (b ∷ after (k + 1) bs))))
      ∙ ap (λ t. a_number n (value_of t)) text
      ∙ sym (λ i. a_number (len i) (value_of (take (len i) (b ∷ bs))))
      ∙ e
  by_kind ss none false false k b bs kind n here s e =
      let len = symbol_len_is (longest ss (b ∷ bs)) n kind e in
      let same : longest ss (b ∷ after (k + 1) bs) ≡ longest ss (b ∷ bs) = ap (λ x. longest ss (x ∷ after (k + 1) bs)) (sym (head_stays k b here)) ∙ longest_stays k n ss (b ∷ bs) none s (omega arith) in
      ap a_symbol same ∙ e

  lexeme_at : (t c l d : Bool) (k b : ℕ) (bs : List ℕ) (kind : TokenKind) (n : ℕ) → p k ≡ false → Stays k n → is_blank b ≡ t → opens_comment (b ∷ bs) ≡ c → is_ascii_alphabetic b ≡ l → is_ascii_digit b ≡ d → told symbols t c l d (b ∷ bs) ≡ Lexeme kind n → piece (b ∷ after (k + 1) bs) ≡ Lexeme kind n
  unfolding with_spaces_from
  lexeme_at true c l d k b bs kind n here s bt ct lt dt e = absurd (cc)
  lexeme_at false true l d k b bs kind n here s bt ct lt dt e = absurd (comment_no_lexeme (comment_end 0 2 (drop 2 (b ∷ bs))) kind n e)
  lexeme_at false false l d k b bs kind n here s bt ct lt dt e =
      let comment : opens_comment (b ∷ after (k + 1) bs) ≡ false = ap (λ x. opens_comment (x ∷ after (k + 1) bs)) (sym (head_stays k b here)) ∙ no_front k (codes "(*") (b ∷ bs) refl ct in
      as_told false false l d b (after (k + 1) bs) bt comment lt dt ∙ by_kind symbols refl l d k b bs kind n here s e

  pub piece_lexeme : (k : ℕ) (bs : List ℕ) (kind : TokenKind) (n : ℕ) → piece bs ≡ Lexeme kind n → Stays k n → piece (after k bs) ≡ Lexeme kind n
  unfolding with_spaces_from
  piece_lexeme k [] kind n e s = absurd (cc)
  piece_lexeme k (b ∷ bs) kind n e s =
      let some = (lexeme (b ∷ bs) kind n e).some in
      let here : p k ≡ false = s k (omega arith) (omega arith) in
      ap (λ x. piece (x ∷ after (k + 1) bs)) (head_stays k b here)
      ∙ lexeme_at (is_blank b) (opens_comment (b ∷ bs)) (is_ascii_alphabetic b) (is_ascii_digit b) k b bs kind n here s refl refl refl refl e

  comment_at : (k b : ℕ) (bs : List ℕ) (n : ℕ) → p k ≡ false → Stays k n → is_blank b ≡ false → opens_comment (b ∷ bs) ≡ true → comment_end 0 2 (drop 2 (b ∷ bs)) ≡ Some n → piece (b ∷ after (k + 1) bs) ≡ Between n
  unfolding with_spaces_from
  comment_at k b [] n here s bt ct e = absurd (cc)
  comment_at k b (c ∷ bs) n here s bt ct e =
      let long = comment_bounds 0 2 bs n e in
      let comment : opens_comment (b ∷ after (k + 1) (c ∷ bs)) ≡ true = ap (λ x. opens_comment (x ∷ after (k + 1) (c ∷ bs))) (sym (head_stays k b here)) ∙ front_stays k n (codes "(*") (b ∷ c ∷ bs) (omega arith) s ct in
      as_told false true (is_ascii_alphabetic b) (is_ascii_digit b) b (after (k + 1) (c ∷ bs)) bt comment refl refl
      ∙ ap a_comment (comment_stays 0 2 (k + 1 + 1) bs n (λ j h l. s j (omega arith) (omega arith)) e)

  between_at : (ss : List (List ℕ)) (t c l d : Bool) (k b : ℕ) (bs : List ℕ) (n : ℕ) → p k ≡ false → Stays k n → is_blank b ≡ t → opens_comment (b ∷ bs) ≡ c → told ss t c l d (b ∷ bs) ≡ Between n → piece (b ∷ after (k + 1) bs) ≡ Between n
  between_at ss true c l d k b bs n here s bt ct e =
      as_told true (opens_comment (b ∷ after (k + 1) bs)) (is_ascii_alphabetic b) (is_ascii_digit b) b (after (k + 1) bs) bt refl refl refl ∙ e
  between_at ss false true l d k b bs n here s bt ct e = comment_at k b bs n here s bt ct (comment_gap (comment_end 0 2 (drop 2 (b ∷ bs))) n e)
  between_at ss false false true d k b bs n here s bt ct e = absurd (cc)
  between_at ss false false false true k b bs n here s bt ct e =
      absurd (number_no_gap (prefix_len is_ascii_digit (b ∷ bs)) (value_of (take (prefix_len is_ascii_digit (b ∷ bs)) (b ∷ bs))) n e)
  between_at ss false false false false k b bs n here s bt ct e = absurd (symbol_no_gap (longest ss (b ∷ bs)) n e)

  pub piece_between : (k : ℕ) (bs : List ℕ) (n : ℕ) → piece bs ≡ Between n → Stays k n → piece (after k bs) ≡ Between n
  unfolding with_spaces_from
  piece_between k [] n e s = absurd (cc)
  piece_between k (b ∷ bs) n e s =
      let some = between_bounds (b ∷ bs) n e in
      let here : p k ≡ false = s k (omega arith) (omega arith) in
      ap (λ x. piece (x ∷ after (k + 1) bs)) (head_stays k b here)
      ∙ between_at symbols (is_blank b) (opens_comment (b ∷ bs)) (is_ascii_alphabetic b) (is_ascii_digit b) k b bs n here s refl refl e
