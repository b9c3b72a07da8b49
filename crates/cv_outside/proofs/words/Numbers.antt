-- A number of a range, and its text.
use Rattle.std.proofs.Common.{◌≡◌, ℕ, ◌<◌, ◌≤◌, ◌^◌, ◌&&◌, Bool, true, false, cond, List, Some, None, Result, Ok, Err, ap, refl, sym, subst, ◌∙◌, arith, inl, inr}
use Rattle.std.specs.Prelude.{nat_le}
use Rattle.std.proofs.lemmas.Bool.Decides.{Decides-and, leb_tells}
use Rattle.std.proofs.lemmas.Fmt.{decimal_is_IsNumeral, parse-decimal}
use Rattle.std.proofs.lemmas.Slice.Eq.{bytes_eq-Decides}
use Rattle.std.specs.Bool.{Decides}
use Rattle.std.specs.Fmt.{decimal}
use Rattle.std.specs.Str.{bytes_eq}
use Rattle.std.specs.Str.Parse.{ParsesUnsigned, digits_value}
use Rattle.cv_outside.specs.words.Words.{number_in}

le_decides : (a b : ℕ) → Decides (nat_le a b) (a ≤ b)
le_decides a b = elim (leb_tells a b) [
  | inl h ↦ (λ e. h.1, λ p. h.0)
  | inr h ↦ (λ e. absurd (let f = sym h.0 ∙ e in cc), λ p. absurd (let q = h.1 in let l : a ≤ b = p in omega arith))
]

-- the text is that of a number of the range
abbrev Writes : (least most : ℕ) → List ℕ → ℕ → Type 0
Writes least most text m = (decimal m ≡ text) × ((least ≤ m) × (m ≤ most))

written : (least most m : ℕ) (text : List ℕ) → Decides (bytes_eq (decimal m) text && (nat_le least m && nat_le m most)) (Writes least most text m)
written least most m text =
    Decides-and (bytes_eq (decimal m) text) (nat_le least m && nat_le m most) (bytes_eq-Decides (decimal m) text) (Decides-and (nat_le least m) (nat_le m most) (le_decides least m) (le_decides m most))

pub number_none : (least most : ℕ) (text : List ℕ) → ((m : ℕ) → Writes least most text m → ⊥) → None ≡ number_in least most text
number_none least most text never =
    go (bytes_eq (decimal (digits_value 10 text)) text && (nat_le least (digits_value 10 text) && nat_le (digits_value 10 text) most)) (written least most (digits_value 10 text) text)
  where
    go : (b : Bool) → Decides b (Writes least most text (digits_value 10 text)) → None ≡ cond b (Some (digits_value 10 text)) None
    go true d = absurd (never (digits_value 10 text) (d.0 refl))
    go false d = refl

pub number_some : (least most n : ℕ) (text : List ℕ) → n < 2 ^ 64 → Writes least most text n → Some n ≡ number_in least most text
number_some least most n text small w =
    sym (ap (λ k. cond (bytes_eq (decimal k) text && (nat_le least k && nat_le k most)) (Some k) None) same ∙ ap (λ b. cond b (Some n) None) ((written least most n text).1 w))
  where
    same : digits_value 10 text ≡ n
    same = ap (digits_value 10) (sym w.0) ∙ (decimal_is_IsNumeral n small).1

-- a text of which nothing, or another number, is read
pub not_read : {E : Type 0} (least most : ℕ) (text : List ℕ) (r : Result ℕ E) (e : E) → most < 2 ^ 32 → ParsesUnsigned 32 10 text r → r ≡ Err e → None ≡ number_in least most text
not_read least most text r e l h i = number_none least most text (λ m w. (let f = sym (parse-decimal 32 m text r (let k = w.1.1 in omega arith) (let k = w.1.1 in omega arith) (sym w.0) h) ∙ i in cc))

read_other : {E : Type 0} (least most n : ℕ) (text : List ℕ) (r : Result ℕ E) → most < 2 ^ 32 → ParsesUnsigned 32 10 text r → r ≡ Ok n → (Writes least most text n → ⊥) → None ≡ number_in least most text
read_other least most n text r l h i never =
    number_none least most text (λ m w. (
    let e : Ok m ≡ r = sym (parse-decimal 32 m text r (let k = w.1.1 in omega arith) (let k = w.1.1 in omega arith) (sym w.0) h) in
    let same : m ≡ n = (let f = e ∙ i in cc) in
    never (subst (Writes least most text) same w)
    ))

-- and of what is read, whether it is written so and lies in the range
pub number_at : {E : Type 0} (least most n : ℕ) (text : List ℕ) (r : Result ℕ E) (b : Bool) → n < 2 ^ 32 → most < 2 ^ 32 → ParsesUnsigned 32 10 text r → r ≡ Ok n → b ≡ bytes_eq (decimal n) text → cond (b && (nat_le least n && nat_le n most)) (Some n) None ≡ number_in least most text
number_at least most n text r b small l h i e =
    ap (λ x. cond (x && (nat_le least n && nat_le n most)) (Some n) None) e ∙ go (bytes_eq (decimal n) text && (nat_le least n && nat_le n most)) (written least most n text)
  where
    go : (t : Bool) → Decides t (Writes least most text n) → cond t (Some n) None ≡ number_in least most text
    go true d = number_some least most n text (omega arith) (d.0 refl)
    go false d = read_other least most n text r l h i (λ w. (let f = d.1 w in cc))
