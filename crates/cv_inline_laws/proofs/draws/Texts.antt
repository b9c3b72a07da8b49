-- Numbered texts: a number is found again from the text, so texts with different numbers differ.
use Rattle.std.proofs.Common.{◌≡◌, ℕ, zero, suc, ◌+◌, ◌-◌, ◌*◌, ◌^◌, ◌<◌, ◌≤◌, Bool, true, false, cond, ◌&&◌, ◌==◌, List, [], ◌∷◌, ◌++◌, length, codes, refl, sym, ap, ap₂, ◌∙◌, eqb-true, arith, decimal, append_assoc, fold, reverse, nat_lt, ltb-true}
use Rattle.std.proofs.Math.Nat.{mul-le-mul_left}
use Rattle.std.proofs.lemmas.Bool.{both_ways, and_parts}
use Rattle.std.proofs.lemmas.Fmt.{decimal_is_IsNumeral_wide}
use Rattle.std.proofs.lemmas.Str.Parse.{digit_from_value}
use Rattle.std.specs.Str.Parse.{AllDigits, digits_value}
use Rattle.std.specs.List.{AllByRecursion, IsDistinct}
use Rattle.cv_inline.specs.Draws.{end_number, greatest_end, is_among, is_digit, least_free, number_behind, number_written, numbered_text, same_text, texts_from}
use Rattle.cv_lex.specs.Lexis.{value_of}
use Rattle.cv_inline_laws.proofs.draws.Fresh.{either_way, free_below, free_from, is_free}

same_text_exact : (a b : List ℕ) → same_text a b ≡ true → a ≡ b
same_text_exact [] [] e = refl
same_text_exact (x ∷ a) (y ∷ b) e = let p = and_parts (x == y) _ e in ap₂ (λ z l. z ∷ l) (eqb-true x y p.0) (same_text_exact a b p.1)
same_text_exact [] (y ∷ b) e = absurd (both_ways false refl e)
same_text_exact (x ∷ a) [] e = absurd (both_ways false refl e)

-- digits hold no `_`

no_bar : (a : List ℕ) (ds es : List ℕ) → AllDigits 10 ds → ds ≡ a ++ 95 ∷ es → ⊥
no_bar [] [] es d e = cc
no_bar [] (c ∷ ds) es d e = let i : c ≡ 95 = cc in omega (arith, digit_from_value c d.0)
no_bar (x ∷ a) [] es d e = cc
no_bar (x ∷ a) (c ∷ ds) es d e = no_bar a ds es d.1 (cc)

ends_alike : (a b ds es : List ℕ) → AllDigits 10 ds → AllDigits 10 es → a ++ 95 ∷ ds ≡ b ++ 95 ∷ es → ds ≡ es
ends_alike [] [] ds es p q e = cc
ends_alike [] (y ∷ b) ds es p q e = absurd (no_bar b ds es p (cc))
ends_alike (x ∷ a) [] ds es p q e = absurd (no_bar a es ds q (let z : es ≡ a ++ 95 ∷ ds = cc in z))
ends_alike (x ∷ a) (y ∷ b) ds es p q e = ends_alike a b ds es p q (cc)

one_number : (a b : List ℕ) (m n : ℕ) → m < 10 ^ 64 → n < 10 ^ 64 → numbered_text a m ≡ numbered_text b n → m ≡ n
one_number a b m n p q e =
    let f = decimal_is_IsNumeral_wide m p in
    let g = decimal_is_IsNumeral_wide n q in
    sym f.1 ∙ ap (digits_value 10) (ends_alike a b (decimal m) (decimal n) f.0.1 g.0.1 (sym (append_assoc a (codes "_") (decimal m)) ∙ e ∙ append_assoc b (codes "_") (decimal n))) ∙ g.1

abbrev hits : (base : List ℕ) → ℕ → List ℕ → Bool
hits base k t = same_text (numbered_text base k) t

hit_once : (base : List ℕ) (m n : ℕ) (t : List ℕ) → m < 10 ^ 64 → n < 10 ^ 64 → hits base m t ≡ true → hits base n t ≡ true → m ≡ n
hit_once base m n t p q e f = one_number base base m n p q (same_text_exact (numbered_text base m) t e ∙ sym (same_text_exact (numbered_text base n) t f))

abbrev least_number : List (List ℕ) → List ℕ → ℕ → ℕ
least_number taken base n = least_free (λ k. is_among taken (numbered_text base k)) (length taken) n

pub as_many_texts : (taken : List (List ℕ)) (n : ℕ) (bases : List (List ℕ)) → length (texts_from taken n bases) ≡ length bases
as_many_texts taken n [] = refl
as_many_texts taken n (b ∷ bs) = ap suc (as_many_texts taken (suc (least_number taken b n)) bs)

-- the numbers of so many texts stay below a bound
abbrev Fits : List (List ℕ) → ℕ → List (List ℕ) → Type 0
Fits taken n bases = n + length bases * suc (length taken) ≤ 10 ^ 64

next_fits : (taken : List (List ℕ)) (n : ℕ) (b : List ℕ) (bs : List (List ℕ)) → Fits taken n (b ∷ bs) → Fits taken (suc (least_number taken b n)) bs
next_fits taken n b bs f =
    let g : least_number taken b n ≤ n + length taken = free_below (λ k. is_among taken (numbered_text b k)) (length taken) n in fit (length taken) (length bs) n (least_number taken b n) (10 ^ 64) g f
  where
    fit : (t l n m top : ℕ) → m ≤ n + t → n + suc l * suc t ≤ top → suc m + l * suc t ≤ top
    fit t l n m top g f = omega arith

pub texts_free : (taken : List (List ℕ)) (n : ℕ) (bases : List (List ℕ)) → Fits taken n bases → AllByRecursion (λ t. is_among taken t ≡ false) (texts_from taken n bases)
texts_free taken n [] f = tt
texts_free taken n (b ∷ bs) f =
    (is_free (hits b) (10 ^ 64) (hit_once b) taken n (first (length taken) (length bs) n (10 ^ 64) f), texts_free taken (suc (least_number taken b n)) bs (next_fits taken n b bs f))
  where
    first : (t l n top : ℕ) → n + suc l * suc t ≤ top → n + t < top
    first t l n top f = omega arith

record IsNumbered (n : ℕ) (t : List ℕ) : Type 0 where
  base : List ℕ
  number : ℕ
  above : n ≤ number
  fits : number < 10 ^ 64
  text : t ≡ numbered_text base number

numbered : (taken : List (List ℕ)) (m n : ℕ) (bases : List (List ℕ)) → m ≤ n → Fits taken n bases → AllByRecursion (IsNumbered m) (texts_from taken n bases)
numbered taken m n [] p f = tt
numbered taken m n (b ∷ bs) p f =
    let g : least_number taken b n ≤ n + length taken = free_below (λ k. is_among taken (numbered_text b k)) (length taken) n in
    let h : n ≤ least_number taken b n = free_from (λ k. is_among taken (numbered_text b k)) (length taken) n in (
      record { base = b; number = least_number taken b n; above = omega arith; fits = first (length taken) (length bs) n (least_number taken b n) (10 ^ 64) g f; text = refl },
      numbered taken m (suc (least_number taken b n)) bs (omega arith) (next_fits taken n b bs f),
    )
  where
    first : (t l n m top : ℕ) → m ≤ n + t → n + suc l * suc t ≤ top → m < top
    first t l n m top g f = omega arith

later_differ : (base : List ℕ) (n : ℕ) → n < 10 ^ 64 → (ts : List (List ℕ)) → AllByRecursion (IsNumbered (suc n)) ts → AllByRecursion (λ t. same_text (numbered_text base n) t ≡ false) ts
later_differ base n p [] a = tt
later_differ base n p (t ∷ ts) a = (
  either_way (same_text (numbered_text base n) t)
      (λ e. absurd (let q : n ≡ a.0.number = one_number base a.0.base n a.0.number p a.0.fits (same_text_exact (numbered_text base n) t e ∙ a.0.text) in let r : suc n ≤ a.0.number = a.0.above in omega arith))
      (λ e. e),
  later_differ base n p ts a.1,
)

pub texts_differ : (taken : List (List ℕ)) (n : ℕ) (bases : List (List ℕ)) → Fits taken n bases → IsDistinct same_text (texts_from taken n bases)
unfolding IsDistinct
texts_differ taken n [] f = tt
texts_differ taken n (b ∷ bs) f =
    let g : least_number taken b n ≤ n + length taken = free_below (λ k. is_among taken (numbered_text b k)) (length taken) n in
    let m : ℕ = least_number taken b n in
    let h = next_fits taken n b bs f in
    (later_differ b m (first (length taken) (length bs) n m (10 ^ 64) g f) (texts_from taken (suc m) bs) (numbered taken (suc m) (suc m) bs (omega arith) h), texts_differ taken (suc (least_number taken b n)) bs h)
  where
    first : (t l n m top : ℕ) → m ≤ n + t → n + suc l * suc t ≤ top → m < top
    first t l n m top g f = omega arith

-- the number at the end of a text has at most nine digits

abbrev tens : ℕ → ℕ
tens zero = 1
tens (suc n) = 10 * tens n

abbrev AreDigits : List ℕ → Type 0
AreDigits ds = AllByRecursion (λ c. is_digit c ≡ true) ds

some_tens : (n : ℕ) → 1 ≤ tens n
some_tens zero = omega arith
some_tens (suc n) = let h : 1 ≤ tens n = some_tens n in omega arith

digit_small : (c : ℕ) → is_digit c ≡ true → c - 48 ≤ 9
digit_small c e = let p = and_parts (nat_lt 47 c) _ e in let q : c < 58 = ltb-true c 58 p.1 in omega arith

value_below : (n : ℕ) (ds : List ℕ) (v top : ℕ) → AreDigits ds → length ds ≤ n → suc v * tens n ≤ top → fold (λ value b. value * 10 + (b - 48)) v ds < top
value_below n [] v top d l h = small v (tens n) top (some_tens n) h
  where
    small : (v t top : ℕ) → 1 ≤ t → suc v * t ≤ top → v < top
    small v t top p h = let m : suc v * 1 ≤ suc v * t = mul-le-mul_left (suc v) p in omega arith
value_below zero (c ∷ ds) v top d l h = absurd (omega arith)
value_below (suc n) (c ∷ ds) v top d l h = value_below n ds (v * 10 + (c - 48)) top d.1 (omega arith) (grown v (c - 48) (tens n) top (digit_small c d.0) h)
  where
    grown : (v w t top : ℕ) → w ≤ 9 → suc v * (10 * t) ≤ top → suc (v * 10 + w) * t ≤ top
    grown v w t top p h = let m : t * w ≤ t * 9 = mul-le-mul_left t p in omega arith

written_below : (ds : List ℕ) → AreDigits ds → length ds < 10 → number_written ds < 10 ^ 9
written_below [] d l = omega arith
written_below (c ∷ ds) d l = go (c == 48) (value_below 9 (c ∷ ds) 0 (10 ^ 9) d (omega arith) (omega arith))
  where
    go : (b : Bool) → value_of (c ∷ ds) < 10 ^ 9 → cond b 0 (value_of (c ∷ ds)) < 10 ^ 9
    go true h = omega arith
    go false h = h

behind_below : (ds cs : List ℕ) → AreDigits ds → number_behind ds cs < 10 ^ 9
behind_below ds [] d = omega arith
behind_below ds (c ∷ cs) d = go (is_digit c) refl (λ e. behind_below (c ∷ ds) cs (e, d))
  where
    end : (b : Bool) → b ≡ ((c == 95) && nat_lt (length ds) 10) → cond b (number_written ds) 0 < 10 ^ 9
    end true e = written_below ds d (ltb-true (length ds) 10 (and_parts (c == 95) _ (sym e)).1)
    end false e = omega arith

    go : (b : Bool) → is_digit c ≡ b → (is_digit c ≡ true → number_behind (c ∷ ds) cs < 10 ^ 9) → cond b (number_behind (c ∷ ds) cs) (cond ((c == 95) && nat_lt (length ds) 10) (number_written ds) 0) < 10 ^ 9
    go true e k = k e
    go false e k = end ((c == 95) && nat_lt (length ds) 10) refl

greatest_below : (ts : List (List ℕ)) → greatest_end ts < 10 ^ 9
greatest_below [] = omega arith
greatest_below (t ∷ ts) = let h : end_number t < 10 ^ 9 = behind_below [] (reverse t) tt in let k : greatest_end ts < 10 ^ 9 = greatest_below ts in omega arith

pub drawn_fit : (taken bases : List (List ℕ)) → length bases * suc (length taken) ≤ 10 ^ 63 → suc (greatest_end taken) + length bases * suc (length taken) ≤ 10 ^ 64
drawn_fit taken bases h = let k : greatest_end taken < 10 ^ 9 = greatest_below taken in omega arith
