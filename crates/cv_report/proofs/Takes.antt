use Rattle.std.proofs.Common.{◌≡◌, ℕ, zero, suc, ◌+◌, ◌≤◌, List, [], ◌∷◌, ◌++◌, length, take, drop, refl, ap, sym, ◌∙◌, Option, Some, None, IsSome, append_assoc, append-nil, arith, ◌-◌, length-drop, subst}
use Rattle.std.proofs.Math.Seq.{take-append-add, take-length, take-add}
use Rattle.cv_outside.specs.Told.{Takes}
use Rattle.cv_report.specs.Writing.{TakesFront, TakesAll}

-- one piece more
pub takes_step : (a b c : Option (List ℕ)) (p : List ℕ) (i n : ℕ) → (IsSome c → IsSome b) → TakesAll a b (take i p) → Takes b c (take n (drop i p)) → TakesAll a c (take (i + n) p)
takes_step a b None p i n t h k = tt
takes_step None b (Some z) p i n t h k = tt
takes_step (Some x) None (Some z) p i n t h k = absurd (let f : IsSome {T = List ℕ} None = t refl in cc)
takes_step (Some x) (Some y) (Some z) p i n t h k =
    k ∙ (ap (λ s. s ++ take n (drop i p)) h ∙ (append_assoc x (take i p) (take n (drop i p)) ∙ ap (λ s. x ++ s) (sym (take-add i n p))))

-- the same for the rest of a slice, as it is written
pub takes_slice : (a b c : Option (List ℕ)) (p : List ℕ) (i n : ℕ) → (IsSome c → IsSome b) → TakesAll a b (take i p) → Takes b c (take n (take (length p - i) (drop i p))) → TakesAll a c (take (i + n) p)
takes_slice a b c p i n t h k =
    let whole : take (length p - i) (drop i p) ≡ drop i p = subst (λ m. take m (drop i p) ≡ drop i p) (length-drop i p) (take-length (drop i p)) in
    takes_step a b c p i n t h (subst (λ s. Takes b c (take n s)) whole k)

pub takes_none : (a : Option (List ℕ)) → TakesAll a a []
takes_none None = tt
takes_none (Some x) = sym (append-nil x)

pub takes_whole : (a b : Option (List ℕ)) (p : List ℕ) (n : ℕ) → length p ≤ n → n ≤ length p → TakesAll a b (take n p) → TakesAll a b p
takes_whole a None p n l m h = tt
takes_whole None (Some y) p n l m h = tt
takes_whole (Some x) (Some y) p n l m h = let e : n ≡ length p = omega arith in h ∙ ap (λ s. x ++ s) (ap (λ k. take k p) e ∙ take-length p)

pub front_of : (a b : Option (List ℕ)) (p : List ℕ) (n : ℕ) → TakesAll a b (take n p) → TakesFront a b p
front_of a None p n h = tt
front_of None (Some y) p n h = tt
front_of (Some x) (Some y) p n h = (n, h)

-- a call that took nothing more
pub front_stays : (a b c : Option (List ℕ)) (p : List ℕ) (n : ℕ) → (IsSome c → IsSome b) → TakesAll a b (take n p) → Takes b c [] → TakesFront a c p
front_stays a b None p n t h k = tt
front_stays None b (Some z) p n t h k = tt
front_stays (Some x) None (Some z) p n t h k = absurd (let f : IsSome {T = List ℕ} None = t refl in cc)
front_stays (Some x) (Some y) (Some z) p n t h k = (n, k ∙ (append-nil y ∙ h))

pub ruleset pieces = (takes_step, takes_none, takes_whole, front_of, front_stays)

-- two texts, one after the other
pub all_then : (a b c : Option (List ℕ)) (xs ys : List ℕ) → (IsSome c → IsSome b) → TakesAll a b xs → TakesAll b c ys → TakesAll a c (xs ++ ys)
all_then a b None xs ys t h k = tt
all_then None b (Some z) xs ys t h k = tt
all_then (Some x) None (Some z) xs ys t h k = absurd (let f : IsSome {T = List ℕ} None = t refl in cc)
all_then (Some x) (Some y) (Some z) xs ys t h k = k ∙ (ap (λ s. s ++ ys) h ∙ append_assoc x xs ys)

pub front_then : (a b c : Option (List ℕ)) (xs ys : List ℕ) → (IsSome c → IsSome b) → TakesAll a b xs → TakesFront b c ys → TakesFront a c (xs ++ ys)
front_then a b None xs ys t h k = tt
front_then None b (Some z) xs ys t h k = tt
front_then (Some x) None (Some z) xs ys t h k = absurd (let f : IsSome {T = List ℕ} None = t refl in cc)
front_then (Some x) (Some y) (Some z) xs ys t h k = (length xs + k.0, k.1 ∙ (ap (λ s. s ++ take k.0 ys) h ∙ (append_assoc x xs (take k.0 ys) ∙ ap (λ s. x ++ s) (sym (take-append-add xs ys k.0)))))

front_shorter : (xs ys : List ℕ) (n : ℕ) → (m : ℕ) × (take n xs ≡ take m (xs ++ ys))
front_shorter [] ys zero = (zero, refl)
front_shorter [] ys (suc n) = (zero, refl)
front_shorter (x ∷ xs) ys zero = (zero, refl)
front_shorter (x ∷ xs) ys (suc n) = let s = front_shorter xs ys n in (suc s.0, ap (λ zs. x ∷ zs) s.1)

pub front_more : (a b : Option (List ℕ)) (xs ys : List ℕ) → TakesFront a b xs → TakesFront a b (xs ++ ys)
front_more a None xs ys h = tt
front_more None (Some y) xs ys h = tt
front_more (Some x) (Some y) xs ys h = let s = front_shorter xs ys h.0 in (s.0, h.1 ∙ ap (λ z. x ++ z) s.1)

take_take : (m n : ℕ) (xs : List ℕ) → (k : ℕ) × (take m (take n xs) ≡ take k xs)
take_take zero n xs = (zero, nothing n xs)
  where
    nothing : (n : ℕ) (xs : List ℕ) → take zero (take n xs) ≡ take zero xs
    nothing zero [] = refl
    nothing zero (x ∷ xs) = refl
    nothing (suc n) [] = refl
    nothing (suc n) (x ∷ xs) = refl
take_take (suc m) zero [] = (zero, refl)
take_take (suc m) zero (x ∷ xs) = (zero, refl)
take_take (suc m) (suc n) [] = (zero, refl)
take_take (suc m) (suc n) (x ∷ xs) = let k = take_take m n xs in (suc k.0, ap (λ l. x ∷ l) k.1)

-- a front of what is left, behind what was taken
pub front_line : (a b c : Option (List ℕ)) (p : List ℕ) (i n m : ℕ) → (IsSome c → IsSome b) → TakesAll a b (take i p) → TakesFront b c (take n (take m (drop i p))) → TakesFront a c p
front_line a b None p i n m t h k = tt
front_line None b (Some z) p i n m t h k = tt
front_line (Some x) None (Some z) p i n m t h k = absurd (let f : IsSome {T = List ℕ} None = t refl in cc)
front_line (Some x) (Some y) (Some z) p i n m t h k =
    let r = take_take n m (drop i p) in
    let s = take_take k.0 r.0 (drop i p) in
    (i + s.0, k.1 ∙ (ap (λ l. y ++ take k.0 l) r.1 ∙ (ap (λ l. y ++ l) s.1 ∙ (ap (λ l. l ++ take s.0 (drop i p)) h ∙ (append_assoc x (take i p) (take s.0 (drop i p)) ∙ ap (λ l. x ++ l) (sym (take-add i s.0 p)))))))

pub ruleset lines = (takes_none, takes_whole, front_line, takes_slice)

-- a text that was taken, and handed on
pub all_stays : (a b c : Option (List ℕ)) (p : List ℕ) → (IsSome c → IsSome b) → TakesAll a b p → Takes b c [] → TakesAll a c p
all_stays a b None p t h k = tt
all_stays None b (Some z) p t h k = tt
all_stays (Some x) None (Some z) p t h k = absurd (let f : IsSome {T = List ℕ} None = t refl in cc)
all_stays (Some x) (Some y) (Some z) p t h k = k ∙ (append-nil y ∙ h)

pub front_all : (a b : Option (List ℕ)) (p : List ℕ) → TakesAll a b p → TakesFront a b p
front_all a None p h = tt
front_all None (Some y) p h = tt
front_all (Some x) (Some y) p h = (length p, h ∙ ap (λ s. x ++ s) (sym (take-length p)))

pub ruleset handed = (all_stays, front_all)
