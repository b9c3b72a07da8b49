-- Truth values.
use Rattle.std.proofs.Common.{◌≡◌, ℕ, Bool, true, false, not, ◌&&◌, refl, sym, if◌then◌else◌, inl, inr, ◌-◌, ◌⊎◌}
use Rattle.std.specs.Prelude.{◌||◌, ◌==◌}
use Rattle.std.proofs.lemmas.Bool.{eq-eqb, ne_eqb, eqb-true, eqb-false, both_ways}

pub or_false : (a : Bool) → (a || false) ≡ a
or_false true = refl
or_false false = refl

pub and_true : (a : Bool) → (a && true) ≡ a
and_true true = refl
and_true false = refl

pub and_false : (a : Bool) → (a && false) ≡ false
and_false true = refl
and_false false = refl

pub or_assoc : (a b c : Bool) → ((a || b) || c) ≡ (a || (b || c))
or_assoc true b c = refl
or_assoc false b c = refl

-- two disjunctions, with their second sides exchanged
pub or_exchange : (a b c d : Bool) → ((a || b) || (c || d)) ≡ ((a || c) || (b || d))
or_exchange true b c d = refl
or_exchange false true true d = refl
or_exchange false true false d = refl
or_exchange false false c d = refl

pub and_or : (a b c : Bool) → (a && (b || c)) ≡ ((a && b) || (a && c))
and_or true b c = refl
and_or false b c = refl

pub not_or : (a b : Bool) → not (a || b) ≡ (not a && not b)
not_or true b = refl
not_or false b = refl

-- the sides of a conjunction that passes, and of a disjunction that doesn't

pub and_first : (a b : Bool) → (a && b) ≡ true → a ≡ true
and_first true b e = refl
and_first false b e = e

pub and_second : (a b : Bool) → (a && b) ≡ true → b ≡ true
and_second true b e = e
and_second false b e = absurd (cc)

pub or_first : (a b : Bool) → (a || b) ≡ false → a ≡ false
or_first true b e = e
or_first false b e = refl

pub or_second : (a b : Bool) → (a || b) ≡ false → b ≡ false
or_second true b e = absurd (cc)
or_second false b e = e

-- two numbers, either way round
pub equals_comm : (a b : ℕ) → (a == b) ≡ (b == a)
equals_comm a b = go (b == a) refl
  where
    go : (c : Bool) → (b == a) ≡ c → (a == b) ≡ c
    go true e = eq-eqb a b (sym (eqb-true b a e))
    go false e = ne_eqb a b (λ f. eqb-false b a e (sym f))

pub differ_comm : (x y : ℕ) → (x == y) ≡ false → (y == x) ≡ false
differ_comm x y f = go (y == x) refl
  where
    go : (b : Bool) → (y == x) ≡ b → b ≡ false
    go true i = absurd (both_ways _ f (eq-eqb x y (sym (eqb-true y x i))))
    go false i = refl

pub and_true_back : (b : Bool) → b ≡ (b && true)
and_true_back true = refl
and_true_back false = refl

pub then_branch : {A : Type 0} (a b : A) (c : Bool) → c ≡ true → (if c then a else b) ≡ a
then_branch a b true e = refl
then_branch a b false e = absurd (cc)

pub else_branch : {A : Type 0} (a b : A) (c : Bool) → c ≡ false → (if c then a else b) ≡ b
else_branch a b false e = refl
else_branch a b true e = absurd (cc)

pub false_from_not : (b : Bool) → not b ≡ true → b ≡ false
false_from_not true e = absurd (cc)
false_from_not false e = refl

pub differs : (a b : ℕ) → (a ≡ b → ⊥) → (a == b) ≡ false
differs a b n = go (a == b) refl where
  go : (q : Bool) → (a == b) ≡ q → (a == b) ≡ false
  go true e = absurd (n (eqb-true a b e))
  go false e = e

pub equals_refl : (x : ℕ) → (x == x) ≡ true
equals_refl x = eq-eqb x x refl

pub or_cases : (a b : Bool) → (a || b) ≡ true → (a ≡ true) ⊎ (b ≡ true)
or_cases true b e = inl refl
or_cases false b e = inr e

pub false_from : (a b : Bool) → (a ≡ true → b ≡ true) → b ≡ false → a ≡ false
false_from true b h e = absurd (both_ways _ e (h refl))
false_from false b h e = refl

pub or_false_back : (a : Bool) → a ≡ (a || false)
or_false_back true = refl
or_false_back false = refl
