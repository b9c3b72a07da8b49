-- Lists of cells that a test does not tell apart.
use Rattle.std.proofs.Common.{◌≡◌, ℕ, zero, suc, ◌*◌, ◌<◌, Bool, ◌⊎◌, inl, inr, List, [], ◌∷◌, Contains, IsPermutation, refl, sym, ap, ap₂, subst, ◌∙◌, arith}
use Rattle.std.proofs.lemmas.List.Sorted.{Contains-permutation, IsPermutation-sym}
use Rattle.cv_meaning.specs.Tapes.{Cell, Tape, blank, written, sum_below, count, total}
use Rattle.cv_meaning.specs.Chances.{chance}
use Rattle.cv_meaning_chances.specs.Tests.{HasDistinctCells, Ignores, IsCoveredFor}
use Rattle.cv_meaning_chances.proofs.Within.{later_distinct}
use Rattle.cv_meaning_chances.proofs.CellLists.{contains_here, contains_later, contains_cases, not_in_empty, not_again, distinct_permuted, count_under, TakenOut, take_out}
use Rattle.cv_meaning_chances.proofs.UnreadCells.{count_ignored, total_more}

-- each cell of the first list is in the second or may be left out
abbrev pub Covers : (Cell → Type 0) → List (Cell × ℕ) → List (Cell × ℕ) → Type 0
Covers free cs ds = (c : Cell × ℕ) → Contains cs c → Contains ds c ⊎ free c.0

-- both lists without a cell that both have
covers_rest : (free : Cell → Type 0) (c : Cell × ℕ) (cs ds rest : List (Cell × ℕ)) → HasDistinctCells (c ∷ cs)
    → ((d : Cell × ℕ) → Contains ds d → (c ≡ d) ⊎ Contains rest d) → Covers free (c ∷ cs) ds → Covers free cs rest
covers_rest free c cs ds rest x others h d k = go (h d (contains_later c d cs k))
  where
    other : (c ≡ d) ⊎ Contains rest d → Contains rest d ⊎ free d.0
    other (inl e) = absurd (not_again c cs x (subst (Contains cs) (sym e) k))
    other (inr m) = inl m

    go : Contains ds d ⊎ free d.0 → Contains rest d ⊎ free d.0
    go (inl m) = other (others d m)
    go (inr f) = inr f

-- the two premises at the rest
covers_left : (free : Cell → Type 0) (c : Cell × ℕ) (cs ds : List (Cell × ℕ)) (o : TakenOut ds c) → HasDistinctCells (c ∷ cs) → Covers free (c ∷ cs) ds → Covers free cs o.rest
covers_left free c cs ds o x h = covers_rest free c cs ds o.rest x (λ d m. contains_cases c d o.rest (Contains-permutation ds (c ∷ o.rest) d o.order m)) h

covers_right : (free : Cell → Type 0) (c : Cell × ℕ) (cs ds : List (Cell × ℕ)) (o : TakenOut ds c) → HasDistinctCells ds → Covers free ds (c ∷ cs) → Covers free o.rest cs
covers_right free c cs ds o y k =
    covers_rest free c o.rest (c ∷ cs) cs (distinct_permuted ds (c ∷ o.rest) o.order y) (λ d m. contains_cases c d cs m)
    (λ d m. k d (Contains-permutation (c ∷ o.rest) ds d (IsPermutation-sym ds (c ∷ o.rest) o.order) m))

-- the same cells

pub record SameCounts (cs ds : List (Cell × ℕ)) : Type 0 where
  pub counts : (p : Tape → Bool) (t : Tape) → count cs p t ≡ count ds p t
  pub totals : total cs ≡ total ds

pub same_cells : (cs ds : List (Cell × ℕ)) → HasDistinctCells cs → HasDistinctCells ds → Covers (λ c. ⊥) cs ds → Covers (λ c. ⊥) ds cs → SameCounts cs ds
same_cells [] [] x y h k = record { counts = λ p t. refl; totals = refl }
same_cells [] (d ∷ ds) x y h k = absurd (go (k d (contains_here d ds)))
  where
    go : Contains [] d ⊎ ⊥ → ⊥
    go (inl m) = not_in_empty d m
    go (inr f) = f
same_cells (c ∷ cs) ds x y h k = go (h c (contains_here c cs)) (λ rest. same_cells cs rest (later_distinct c cs x))
  where
    go : Contains ds c ⊎ ⊥ → ((rest : List (Cell × ℕ)) → HasDistinctCells rest → Covers (λ c. ⊥) cs rest → Covers (λ c. ⊥) rest cs → SameCounts cs rest) → SameCounts (c ∷ cs) ds
    go (inr f) ih = absurd f
    go (inl m) ih =
        let o : TakenOut ds c = take_out ds c y m in
        let s : SameCounts cs o.rest = ih o.rest (later_distinct c o.rest (distinct_permuted ds (c ∷ o.rest) o.order y)) (covers_left _ c cs ds o x h) (covers_right _ c cs ds o y k) in
        record {
          counts = λ p t. count_under c cs o.rest p (s.counts p) t ∙ sym (o.counts p t);
          totals = total_more c cs ∙ ap (λ n. c.1 * n) s.totals ∙ sym o.totals;
        }

pub reordered : (cs ds : List (Cell × ℕ)) → HasDistinctCells cs → IsPermutation cs ds → SameCounts cs ds
reordered cs ds x h =
    same_cells cs ds x (distinct_permuted cs ds h x)
    (λ c m. inl (Contains-permutation cs ds c h m))
    (λ c m. inl (Contains-permutation ds cs c (IsPermutation-sym cs ds h) m))

pub chance_reordered : (cs ds : List (Cell × ℕ)) (p : Tape → Bool) → HasDistinctCells cs → IsPermutation cs ds → chance cs p ≡ chance ds p
chance_reordered cs ds p x h = let s : SameCounts cs ds = reordered cs ds x h in ap₂ (λ m n. record { good = m; all = n }) (s.counts p blank) s.totals

-- the cells that the test reads

pub sum_cross : (n a b : ℕ) (f g : ℕ → ℕ) → ((v : ℕ) → v < n → f v * a ≡ g v * b) → sum_below n f * a ≡ sum_below n g * b
unfolding sum_below
sum_cross zero a b f g h = omega arith
sum_cross (suc n) a b f g h = let e = sum_cross n a b f g (λ v k. h v (omega arith)) in let k = h n (omega arith) in omega arith

pub times_cross : (k m n a b : ℕ) → m * a ≡ n * b → m * (k * a) ≡ n * (k * b)
times_cross k m n a b e = let z = ap (λ x. k * x) e in omega arith

count_cross : (c : Cell × ℕ) (cs ds : List (Cell × ℕ)) (p : Tape → Bool) (a b : ℕ) → ((t : Tape) → count cs p t * a ≡ count ds p t * b) → (t : Tape) → count (c ∷ cs) p t * (c.1 * a) ≡ count (c ∷ ds) p t * (c.1 * b)
unfolding count
count_cross c cs ds p a b h t = times_cross c.1 _ _ a b (sum_cross c.1 a b _ _ (λ v small. h (written t c.0 v)))

count_all_ignored : (p : Tape → Bool) (ds : List (Cell × ℕ)) → ((d : Cell × ℕ) → Contains ds d → Ignores p d.0) → (t : Tape) → count ds p t ≡ count [] p t * total ds
unfolding total
count_all_ignored p [] h t = omega arith
count_all_ignored p (d ∷ ds) h t =
    let e = count_ignored d ds p t (h d (contains_here d ds)) in
    let k = count_all_ignored p ds (λ c m. h c (contains_later d c ds m)) t in
    e ∙ ap (λ n. d.1 * n) k ∙ swap d.1 (count [] p t) (total ds)
  where
    swap : (a b c : ℕ) → a * (b * c) ≡ b * (a * c)
    swap a b c = omega arith

pub same_chance : (p : Tape → Bool) (cs ds : List (Cell × ℕ)) → HasDistinctCells cs → HasDistinctCells ds → IsCoveredFor p cs ds → IsCoveredFor p ds cs → (t : Tape) → count cs p t * total ds ≡ count ds p t * total cs
unfolding total
same_chance p [] ds x y h k t =
    let e = count_all_ignored p ds (λ d m. go d (k d m)) t in
    omega arith
  where
    go : (d : Cell × ℕ) → Contains [] d ⊎ Ignores p d.0 → Ignores p d.0
    go d (inl m) = absurd (not_in_empty d m)
    go d (inr i) = i
same_chance p (c ∷ cs) ds x y h k t =
    go (h c (contains_here c cs)) (λ rest. same_chance p cs rest (later_distinct c cs x)) (λ k. same_chance p cs ds (later_distinct c cs x) y (λ d m. h d (contains_later c d cs m)) k t)
  where
    times : (k a b c d : ℕ) → a * b ≡ c * d → k * a * b ≡ c * (k * d)
    times k a b c d e = let z = ap (λ x. k * x) e in omega arith

    left : Ignores p c.0 → (d : Cell × ℕ) → Contains (c ∷ cs) d ⊎ Ignores p d.0 → Contains cs d ⊎ Ignores p d.0
    left i d (inr j) = inr j
    left i d (inl m) = later (contains_cases c d cs m)
      where
        later : (c ≡ d) ⊎ Contains cs d → Contains cs d ⊎ Ignores p d.0
        later (inl e) = inr (subst (λ (z : Cell × ℕ). Ignores p z.0) e i)
        later (inr n) = inl n

    go : Contains ds c ⊎ Ignores p c.0
        → ((rest : List (Cell × ℕ)) → HasDistinctCells rest → IsCoveredFor p cs rest → IsCoveredFor p rest cs → (t : Tape) → count cs p t * total rest ≡ count rest p t * total cs)
        → (IsCoveredFor p ds cs → count cs p t * total ds ≡ count ds p t * total cs)
        → count (c ∷ cs) p t * total ds ≡ count ds p t * (c.1 * total cs)
    go (inl m) ih skip =
        let o : TakenOut ds c = take_out ds c y m in
        ap (λ n. count (c ∷ cs) p t * n) o.totals
        ∙ count_cross c cs o.rest p (total o.rest) (total cs)
        (ih o.rest (later_distinct c o.rest (distinct_permuted ds (c ∷ o.rest) o.order y)) (covers_left (Ignores p) c cs ds o x h) (covers_right (Ignores p) c cs ds o y k))
        t
        ∙ ap (λ n. n * (c.1 * total cs)) (sym (o.counts p t))
    go (inr i) ih skip =
        let e = count_ignored c cs p t i in
        let z = skip (λ d m. left i d (k d m)) in
        ap (λ n. n * total ds) e ∙ times c.1 (count cs p t) (total ds) (count ds p t) (total cs) z
