-- The choice among the candidates of a find.
use Rattle.std.proofs.Common.{◌≡◌, ℕ, zero, suc, ◌+◌, ◌-◌, ◌*◌, ◌<◌, ◌≤◌, Bool, cond, List, [], ◌∷◌, length, refl, sym, ap, ap₂, ◌∙◌, arith}
use Rattle.std.proofs.lemmas.Nat.{mod-mul-add}
use Rattle.std.proofs.lemmas.List.Sums.{sum_by-cons, sum_by-append}
use Rattle.std.specs.List.{count_by, slice_get}
use Rattle.cv_meaning.specs.Candidates.{Candidate, below, chosen}
use Rattle.cv_meaning_laws.specs.adequacy.Finds.{passes, times_chosen}

one : Bool → ℕ
one b = cond b 1 0

-- how many numbers below one pass a test
among : (ℕ → Bool) → ℕ → ℕ
among f n = count_by f (below n)

among_suc : (f : ℕ → Bool) (n : ℕ) → among f (suc n) ≡ among f n + one (f n)
unfolding among one
among_suc f n = sum_by-append (λ x. cond (f x) 1 0) (below n) (n ∷ []) ∙ ap (λ k. count_by f (below n) + k) (sum_by-cons (λ x. cond (f x) 1 0) n [] ∙ (let e : cond (f n) 1 0 + 0 ≡ cond (f n) 1 0 = omega arith in e))

-- the first number apart
among_first : (f : ℕ → Bool) (n : ℕ) → among f (suc n) ≡ one (f 0) + among (λ v. f (suc v)) n
unfolding among
among_first f zero = let e = among_suc f 0 in omega arith
among_first f (suc n) = let e = among_suc f (suc n) in let r = among_first f n in let s = among_suc (λ v. f (suc v)) n in omega arith

among_alike : (f h : ℕ → Bool) (n : ℕ) → ((v : ℕ) → v < n → f v ≡ h v) → among f n ≡ among h n
unfolding among
among_alike f h zero k = refl
among_alike f h (suc n) k = among_suc f n ∙ ap₂ ◌+◌ (among_alike f h n (λ v l. k v (omega arith))) (ap one (k n (omega arith))) ∙ sym (among_suc h n)

-- some numbers more
among_more : (f : ℕ → Bool) (m n : ℕ) → among f (m + n) ≡ among f m + among (λ v. f (m + v)) n
unfolding among
among_more f m zero = let e : m + 0 ≡ m = omega arith in let s = ap (among f) e in omega arith
among_more f m (suc n) =
    let e : m + suc n ≡ suc (m + n) = omega arith in
    let s = ap (among f) e in
    let t = among_suc f (m + n) in
    let r = among_more f m n in
    let u = among_suc (λ v. f (m + v)) n in
    omega arith

-- one round over a list
one_round : (p : Candidate → Bool) (cs : List Candidate) → among (λ v. passes p (slice_get cs v)) (length cs) ≡ count_by p cs
unfolding among one
one_round p [] = refl
one_round p (c ∷ cs) = among_first (λ v. passes p (slice_get (c ∷ cs) v)) (length cs) ∙ ap (λ n. one (p c) + n) (one_round p cs) ∙ sym (sum_by-cons (λ x. cond (p x) 1 0) c cs)

within_round : (cs : List Candidate) (p : Candidate → Bool) (rounds n : ℕ) → n ≤ length cs → among (λ v. passes p (chosen cs (rounds * length cs + v))) n ≡ among (λ v. passes p (slice_get cs v)) n
unfolding chosen
within_round [] p rounds n l = among_alike _ _ n (λ v k. absurd (omega arith))
within_round (c ∷ cs) p rounds n l = among_alike _ _ n (λ v k. ap (λ w. passes p (slice_get (c ∷ cs) w)) (mod-mul-add rounds (length (c ∷ cs)) v (omega arith)))

whole_rounds : (cs : List Candidate) (p : Candidate → Bool) (rounds : ℕ) → among (λ v. passes p (chosen cs v)) (rounds * length cs) ≡ rounds * count_by p cs
unfolding among
whole_rounds cs p zero = ap (among (λ v. passes p (chosen cs v))) (let e : 0 * length cs ≡ 0 = omega arith in e) ∙ (let e : 0 ≡ 0 * count_by p cs = omega arith in e)
whole_rounds cs p (suc rounds) =
    let e : suc rounds * length cs ≡ rounds * length cs + length cs = omega arith in
    let s = ap (among (λ v. passes p (chosen cs v))) e in
    let t = among_more (λ v. passes p (chosen cs v)) (rounds * length cs) (length cs) in
    let r = whole_rounds cs p rounds in
    let u = within_round cs p rounds (length cs) (omega arith) ∙ one_round p cs in
    omega arith

among_grows : (f : ℕ → Bool) (m n : ℕ) → m ≤ n → among f m ≤ among f n
among_grows f m n l = let e : m + (n - m) ≡ n = omega arith in let s = ap (among f) e in let t = among_more f m (n - m) in omega arith

pub chosen_evenly : (cs : List Candidate) (p : Candidate → Bool) (rounds values : ℕ) → rounds * length cs ≤ values → values ≤ (rounds + 1) * length cs
    → (rounds * count_by p cs ≤ times_chosen cs p values) × (times_chosen cs p values ≤ (rounds + 1) * count_by p cs)
unfolding among
chosen_evenly cs p rounds values l h =
    let f = λ (v : ℕ). passes p (chosen cs v) in
    let a = among_grows f (rounds * length cs) values l in
    let b = among_grows f values ((rounds + 1) * length cs) h in
    let r = whole_rounds cs p rounds in
    let s = whole_rounds cs p (rounds + 1) in
    (omega arith, omega arith)
