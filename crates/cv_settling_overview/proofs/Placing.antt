-- Conjuncts that a table has by their keys.
use Rattle.std.proofs.Common.{◌≡◌, ℕ, zero, suc, ◌<◌, Bool, true, false, ◌⊎◌, inl, inr, List, [], ◌∷◌, ◌++◌, length, take, refl, ap, ap₂, sym, ◌∙◌, arith, subst, Option, Some, None, nat_eq, eqb-true, get_or}
use Rattle.std.specs.Prelude.{◌≢◌, All, IfNone, IfSome, is_some, slice_get}
use Rattle.std.specs.HashMap.{get, IsUnchanged, Updates}
use Rattle.std.specs.Map.{lookup}
use Rattle.std.specs.Option.{option_eq}
use Rattle.std.proofs.lemmas.Bool.{and_parts, and_from, both_ways, eq-eqb}
use Rattle.std.proofs.lemmas.Option.{get_or_from_slice_get, slice_get-get_or, slice_get_within}
use Rattle.cv_settling_overview.specs.contracts.keys.KeyPartialEq.TheImpl.{ghosts}
use Rattle.cv_settling_overview.specs.contracts.keys.OperandPartialEq.TheImpl as operands
use Rattle.cv_settling_overview.specs.declared.keys.Conjunct.{Conjunct}
use Rattle.cv_settling_overview.specs.declared.keys.Key.{Key}
use Rattle.cv_settling_overview.specs.declared.keys.Key.TheVariants.{Falsity, Denial, Equation, Value}
use Rattle.cv_settling_overview.specs.declared.keys.Key.TheVariants as key
use Rattle.cv_settling_overview.specs.declared.keys.Operand.{Operand}
use Rattle.cv_settling_overview.specs.declared.keys.Operand.TheVariants as operand
use Rattle.cv_settling_overview.specs.Keys.{AreKeysPlaced, IsAt, IsPlaced, Places}

-- keys

option_same : (m n : Option ℕ) → option_eq nat_eq m n ≡ true → m ≡ n
option_same None None e = refl
option_same (Some m) (Some n) e = ap (λ k. Some k) (eqb-true m n e)
option_same None (Some n) e = absurd (both_ways _ refl e)
option_same (Some m) None e = absurd (both_ways _ refl e)

option_self : (m : Option ℕ) → option_eq nat_eq m m ≡ true
option_self None = refl
option_self (Some m) = eq-eqb m m refl

operand_same : (a b : Operand) → operands.ghosts.eq a b ≡ true → a ≡ b
operand_same (operand.Name x) (operand.Name y) e = ap operand.Name (eqb-true x y e)
operand_same (operand.Other m) (operand.Other n) e = ap operand.Other (option_same m n e)
operand_same (operand.Name x) (operand.Other n) e = absurd (both_ways _ refl e)
operand_same (operand.Other m) (operand.Name y) e = absurd (both_ways _ refl e)

operand_self : (a : Operand) → operands.ghosts.eq a a ≡ true
operand_self (operand.Name x) = eq-eqb x x refl
operand_self (operand.Other m) = option_self m

pub key_same : (k l : Key) → ghosts.eq k l ≡ true → k ≡ l
key_same Falsity Falsity e = refl
key_same (Denial m) (Denial n) e = ap Denial (option_same m n e)
key_same (Equation a b) (Equation c d) e = let p = and_parts (operands.ghosts.eq a c) _ e in ap₂ Equation (operand_same a c p.0) (operand_same b d p.1)
key_same (Value x i m) (Value y j n) e =
    let p = and_parts (nat_eq x y) _ e in
    let q = and_parts (nat_eq i j) _ p.1 in
    λ t. Value (eqb-true x y p.0 t) (eqb-true i j q.0 t) (eqb-true m n q.1 t)
key_same (key.Other m) (key.Other n) e = ap key.Other (option_same m n e)
key_same Falsity (Denial n) e = absurd (both_ways _ refl e)
key_same Falsity (Equation c d) e = absurd (both_ways _ refl e)
key_same Falsity (Value y j n) e = absurd (both_ways _ refl e)
key_same Falsity (key.Other n) e = absurd (both_ways _ refl e)
key_same (Denial m) Falsity e = absurd (both_ways _ refl e)
key_same (Denial m) (Equation c d) e = absurd (both_ways _ refl e)
key_same (Denial m) (Value y j n) e = absurd (both_ways _ refl e)
key_same (Denial m) (key.Other n) e = absurd (both_ways _ refl e)
key_same (Equation a b) Falsity e = absurd (both_ways _ refl e)
key_same (Equation a b) (Denial n) e = absurd (both_ways _ refl e)
key_same (Equation a b) (Value y j n) e = absurd (both_ways _ refl e)
key_same (Equation a b) (key.Other n) e = absurd (both_ways _ refl e)
key_same (Value x i m) Falsity e = absurd (both_ways _ refl e)
key_same (Value x i m) (Denial n) e = absurd (both_ways _ refl e)
key_same (Value x i m) (Equation c d) e = absurd (both_ways _ refl e)
key_same (Value x i m) (key.Other n) e = absurd (both_ways _ refl e)
key_same (key.Other m) Falsity e = absurd (both_ways _ refl e)
key_same (key.Other m) (Denial n) e = absurd (both_ways _ refl e)
key_same (key.Other m) (Equation c d) e = absurd (both_ways _ refl e)
key_same (key.Other m) (Value y j n) e = absurd (both_ways _ refl e)

pub key_self : (k : Key) → ghosts.eq k k ≡ true
key_self Falsity = refl
key_self (Denial m) = option_self m
key_self (Equation a b) = and_from (operands.ghosts.eq a a) _ (operand_self a) (operand_self b)
key_self (Value x i m) = and_from (nat_eq x x) _ (eq-eqb x x refl) (and_from (nat_eq i i) _ (eq-eqb i i refl) (eq-eqb m m refl))
key_self (key.Other m) = option_self m

-- places

-- each key of a list is placed, so one that is placed nowhere is none of them
pub not_placed : (cs : List Conjunct) (m : Places) (key : Key) → AreKeysPlaced cs m → ((k : ℕ) → IsPlaced cs m k key → ⊥) → All (λ (c : Conjunct). c.key ≢ key) cs
not_placed cs m key i not k d l e = not k (subst (IsPlaced cs m k) e (i k (get_or cs k d) (slice_get-get_or cs k d l)))

pub key_unknown : (cs : List Conjunct) (m : Places) (key : Key) → AreKeysPlaced cs m → get ghosts.eq m key ≡ None → All (λ (c : Conjunct). c.key ≢ key) cs
key_unknown cs m key i g = not_placed cs m key i (λ k p. let known = p.known in absurd (cc))

pub key_past : (cs : List Conjunct) (m : Places) (key : Key) (k : ℕ) → AreKeysPlaced cs m → get ghosts.eq m key ≡ Some k → slice_get cs k ≡ None → All (λ (c : Conjunct). c.key ≢ key) cs
key_past cs m key k i g s = not_placed cs m key i (λ j p.
    let known = p.known in
    let same : p.place ≡ k = cc in
    let there : slice_get cs k ≡ Some p.there.conjunct = subst (λ n. slice_get cs n ≡ Some p.there.conjunct) same p.there.there in
    absurd (cc))

pub key_other : (cs : List Conjunct) (m : Places) (key : Key) (k : ℕ) (c : Conjunct) → AreKeysPlaced cs m → get ghosts.eq m key ≡ Some k → slice_get cs k ≡ Some c → ghosts.eq c.key key ≡ false → All (λ (c : Conjunct). c.key ≢ key) cs
key_other cs m key k c i g s e = not_placed cs m key i (λ j p.
    let known = p.known in
    let same : p.place ≡ k = cc in
    let there : slice_get cs k ≡ Some p.there.conjunct = subst (λ n. slice_get cs n ≡ Some p.there.conjunct) same p.there.there in
    let one : p.there.conjunct ≡ c = cc in
    let agree : c.key ≡ key = ap (λ (d : Conjunct). d.key) (sym one) ∙ p.there.same in
    both_ways _ e (subst (λ q. ghosts.eq c.key q ≡ true) agree (key_self c.key)))

pub key_there : (cs : List Conjunct) (k : ℕ) (c : Conjunct) (key : Key) → slice_get cs k ≡ Some c → ghosts.eq c.key key ≡ true → IsAt cs k key
key_there cs k c key s e = record { conjunct = c; there = s; same = key_same c.key key e }

-- what an answer says

pub found_place : (P : ℕ → Type 0) (o : Option ℕ) → IfSome o P → is_some o ≡ true → (k : ℕ) × P k
found_place P (Some k) p e = (k, p)
found_place P None p e = absurd (both_ways _ refl e)

pub nowhere : (P : Type 0) (o : Option ℕ) → IfNone o P → is_some o ≡ false → P
nowhere P None p e = p
nowhere P (Some k) p e = absurd (both_ways _ e refl)

-- one more conjunct

pub at_front : {A : Type 0} (cs ds : List A) (k : ℕ) (d : A) → slice_get cs k ≡ Some d → slice_get (cs ++ ds) k ≡ Some d
at_front [] ds k d h = absurd (cc)
at_front (e ∷ cs) ds zero d h = h
at_front (e ∷ cs) ds (suc k) d h = at_front cs ds k d h

pub at_end : {A : Type 0} (cs : List A) (x : A) → slice_get (cs ++ x ∷ []) (length cs) ≡ Some x
at_end [] x = refl
at_end (e ∷ cs) x = at_end cs x

pub before_or_last : {A : Type 0} (cs : List A) (x : A) (k : ℕ) (d : A) → slice_get (cs ++ x ∷ []) k ≡ Some d → (slice_get cs k ≡ Some d) ⊎ ((length cs ≡ k) × (x ≡ d))
before_or_last [] x zero d s = inr (refl, (cc))
before_or_last [] x (suc k) d s = absurd (cc)
before_or_last (e ∷ cs) x zero d s = inl s
before_or_last (e ∷ cs) x (suc k) d s = elim (before_or_last cs x k d s) [ inl a ↦ inl a | inr b ↦ inr (ap suc b.0, b.1) ]

still_there : (cs : List Conjunct) (x : Conjunct) (k : ℕ) (key : Key) → IsAt cs k key → IsAt (cs ++ x ∷ []) k key
still_there cs x k key a = record { conjunct = a.conjunct; there = at_front cs (x ∷ []) k a.conjunct a.there; same = a.same }

still_placed : (cs : List Conjunct) (x : Conjunct) (m : Places) (k : ℕ) (key : Key) → IsPlaced cs m k key → IsPlaced (cs ++ x ∷ []) m k key
still_placed cs x m k key p = record { place = p.place; known = p.known; before = p.before; there = still_there cs x p.place key p.there }

placed_more : (cs : List Conjunct) (x : Conjunct) (m : Places) → AreKeysPlaced cs m → IsPlaced (cs ++ x ∷ []) m (length cs) x.key → AreKeysPlaced (cs ++ x ∷ []) m
placed_more cs x m i last k d s = elim (before_or_last cs x k d s) [
  | inl a ↦ still_placed cs x m k d.key (i k d a)
  | inr b ↦ subst (λ (y : Conjunct). IsPlaced (cs ++ x ∷ []) m k y.key) b.1 (subst (λ j. IsPlaced (cs ++ x ∷ []) m j x.key) b.0 last)
]

-- with a key that a conjunct has
pub placed_again : (cs : List Conjunct) (x : Conjunct) (m : Places) (k : ℕ) → AreKeysPlaced cs m → IsAt cs k x.key → AreKeysPlaced (cs ++ x ∷ []) m
placed_again cs x m k i a =
    let p : IsPlaced cs m k x.key = subst (IsPlaced cs m k) a.same (i k a.conjunct a.there) in
    let l : k < length cs = slice_get_within cs k a.conjunct a.there in
    placed_more cs x m i (record { place = p.place; known = p.known; before = omega (arith, p.before, l); there = still_there cs x p.place x.key p.there })

-- with a new key
pub placed_new : (cs : List Conjunct) (x : Conjunct) (m : Places) → AreKeysPlaced cs m → get ghosts.eq m x.key ≡ Some (length cs) → AreKeysPlaced (cs ++ x ∷ []) m
placed_new cs x m i g = placed_more cs x m i (record { place = length cs; known = g; before = omega arith; there = record { conjunct = x; there = at_end cs x; same = refl } })

-- the table learns a key that no conjunct has
pub placed_other : (cs : List Conjunct) (m n : Places) (key : Key) (w : Option ℕ) → AreKeysPlaced cs m → All (λ (c : Conjunct). c.key ≢ key) cs → Updates ghosts.eq m n key w → AreKeysPlaced cs n
placed_other cs m n key w i new u k d s =
    let p = i k d s in
    let apart : ghosts.eq key d.key ≡ false = go (ghosts.eq key d.key) refl in
    record { place = p.place; known = u.2 d.key apart ∙ p.known; before = p.before; there = p.there }
  where
    go : (b : Bool) → ghosts.eq key d.key ≡ b → b ≡ false
    go false f = refl
    go true f = absurd (new k d (slice_get_within cs k d s) (ap (λ (c : Conjunct). c.key) (get_or_from_slice_get cs k d d s) ∙ sym (key_same key d.key f)))

pub placed_same : (cs : List Conjunct) (m n : Places) → AreKeysPlaced cs m → IsUnchanged m n → AreKeysPlaced cs n
placed_same cs m n i e k c s = let p = i k c s in record { place = p.place; known = ap (lookup (ghosts.eq c.key)) e ∙ p.known; before = p.before; there = p.there }

-- the first conjuncts

at_take : (n : ℕ) (cs : List Conjunct) (k : ℕ) (c : Conjunct) → slice_get (take n cs) k ≡ Some c → (slice_get cs k ≡ Some c) × (k < n)
at_take zero cs k c h = absurd (cc)
at_take (suc n) [] k c h = absurd (cc)
at_take (suc n) (e ∷ cs) zero c h = (h, omega arith)
at_take (suc n) (e ∷ cs) (suc k) c h = let r = at_take n cs k c h in (r.0, omega (arith, r.1))

take_at : (n : ℕ) (cs : List Conjunct) (k : ℕ) (c : Conjunct) → k < n → slice_get cs k ≡ Some c → slice_get (take n cs) k ≡ Some c
take_at zero cs k c l h = absurd (omega arith)
take_at (suc n) [] k c l h = absurd (cc)
take_at (suc n) (e ∷ cs) zero c l h = h
take_at (suc n) (e ∷ cs) (suc k) c l h = take_at n cs k c (omega arith) h

pub placed_front : (n : ℕ) (cs : List Conjunct) (m : Places) → AreKeysPlaced cs m → AreKeysPlaced (take n cs) m
placed_front n cs m i k c s =
    let r = at_take n cs k c s in
    let p = i k c r.0 in
    let a = p.there in
    record { place = p.place; known = p.known; before = p.before; there = record { conjunct = a.conjunct; there = take_at n cs p.place a.conjunct (omega (arith, p.before, r.1)) a.there; same = a.same } }
