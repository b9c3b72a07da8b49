-- Tests that ask one cell after another.
use Rattle.std.proofs.Common.{◌≡◌, ℕ, ◌*◌, Bool, true, false, not, cond, ◌⊎◌, inl, inr, List, [], ◌∷◌, Contains, refl, sym, ap, ap₂, subst, ◌∙◌, arith, mul_comm}
use Rattle.std.proofs.lemmas.Bool.{both_ways}
use Rattle.std.proofs.lemmas.List.Sorted.{Contains-permutation}
use Rattle.std.proofs.lemmas.Map.Keys.{IsDistinct-cons}
use Rattle.std.proofs.lemmas.Map.Made.{IsDistinct-keys_filter}
use Rattle.std.specs.List.{AllByRecursion}
use Rattle.cv_meaning.specs.Tapes.{Cell, Tape, same_cell, cells_of, written, sum_below, count, total}
use Rattle.cv_meaning_laws.proofs.Counts.{sum_same, count_true, count_false}
use Rattle.cv_meaning_chances.specs.Tests.{HasDistinctCells}
use Rattle.cv_meaning_chances.specs.Questions.{Questions, Says, Asks, answer, without, AskAlike}
use Rattle.cv_meaning_chances.proofs.Within.{later_distinct, not_later, written_here, count_same_off}
use Rattle.cv_meaning_chances.proofs.CellLists.{contains_here, contains_later, contains_cases, not_in_empty, apart_from, distinct_permuted, TakenOut, take_out}
use Rattle.cv_meaning_chances.proofs.UnreadCells.{total_more}
use Rattle.cv_meaning_chances.proofs.Covers.{SameCounts, same_cells, sum_cross, times_cross}
use Rattle.cv_meaning_laws.proofs.Listed.{apart_back}

-- the list without a cell

pub kept : (c : Cell) (cs : List (Cell × ℕ)) (d : Cell × ℕ) → Contains cs d → same_cell d.0 c ≡ false → Contains (without c cs) d
kept c [] d m h = absurd (not_in_empty d m)
kept c (e ∷ cs) d m h = go (same_cell e.0 c) refl (contains_cases e d cs m) (λ n. kept c cs d n h)
  where
    go : (b : Bool) → same_cell e.0 c ≡ b → (e ≡ d) ⊎ Contains cs d → (Contains cs d → Contains (without c cs) d) → Contains (cond (not b) (e ∷ without c cs) (without c cs)) d
    go true q (inl k) ih = absurd (both_ways _ h (ap (λ (z : Cell × ℕ). same_cell z.0 c) (sym k) ∙ q))
    go true q (inr n) ih = ih n
    go false q (inl k) ih = subst (Contains (e ∷ without c cs)) k (contains_here e (without c cs))
    go false q (inr n) ih = contains_later e d (without c cs) (ih n)

kept_before : (c : Cell) (cs : List (Cell × ℕ)) (d : Cell × ℕ) → Contains (without c cs) d → Contains cs d
kept_before c [] d m = m
kept_before c (e ∷ cs) d m = go (same_cell e.0 c) m (kept_before c cs d)
  where
    go : (b : Bool) → Contains (cond (not b) (e ∷ without c cs) (without c cs)) d → (Contains (without c cs) d → Contains cs d) → Contains (e ∷ cs) d
    go true n ih = contains_later e d cs (ih n)
    go false n ih = next (contains_cases e d (without c cs) n)
      where
        next : (e ≡ d) ⊎ Contains (without c cs) d → Contains (e ∷ cs) d
        next (inl k) = subst (Contains (e ∷ cs)) k (contains_here e cs)
        next (inr k) = contains_later e d cs (ih k)

all_apart : (c : Cell) (cs : List (Cell × ℕ)) → AllByRecursion (λ d. same_cell c d ≡ false) (cells_of (without c cs))
all_apart c [] = tt
all_apart c (e ∷ cs) = go (same_cell e.0 c) refl (all_apart c cs)
  where
    go : (b : Bool) → same_cell e.0 c ≡ b → AllByRecursion (λ d. same_cell c d ≡ false) (cells_of (without c cs)) → AllByRecursion (λ d. same_cell c d ≡ false) (cells_of (cond (not b) (e ∷ without c cs) (without c cs)))
    go true q ih = ih
    go false q ih = (apart_back e.0 c q, ih)

distinct_without : (c : Cell × ℕ) (cs : List (Cell × ℕ)) → HasDistinctCells cs → HasDistinctCells (c ∷ without c.0 cs)
distinct_without c cs x = IsDistinct-cons same_cell c.0 (cells_of (without c.0 cs)) (all_apart c.0 cs) (IsDistinct-keys_filter same_cell (λ (d : Cell × ℕ). not (same_cell d.0 c.0)) cs x)

in_front : (c : Cell × ℕ) (cs : List (Cell × ℕ)) → HasDistinctCells cs → Contains cs c → SameCounts cs (c ∷ without c.0 cs)
in_front c cs x m = same_cells cs (c ∷ without c.0 cs) x (distinct_without c cs x) (λ d n. inl (there d n)) (λ d n. inl (back d (contains_cases c d (without c.0 cs) n)))
  where
    o : TakenOut cs c
    o = take_out cs c x m

    apart : (d : Cell × ℕ) → Contains cs d → (c ≡ d) ⊎ Contains o.rest d → Contains (c ∷ without c.0 cs) d
    apart d n (inl k) = subst (Contains (c ∷ without c.0 cs)) k (contains_here c (without c.0 cs))
    apart d n (inr k) = contains_later c d (without c.0 cs) (kept c.0 cs d n (apart_from o.rest c.0 d (not_later c o.rest (distinct_permuted cs (c ∷ o.rest) o.order x)) k))

    there : (d : Cell × ℕ) → Contains cs d → Contains (c ∷ without c.0 cs) d
    there d n = apart d n (contains_cases c d o.rest (Contains-permutation cs (c ∷ o.rest) d o.order n))

    back : (d : Cell × ℕ) → (c ≡ d) ⊎ Contains (without c.0 cs) d → Contains cs d
    back d (inl k) = subst (Contains cs) k m
    back d (inr n) = kept_before c.0 cs d n

-- the answers

count_asked : (c : Cell × ℕ) (cs : List (Cell × ℕ)) (next : ℕ → Questions) (t : Tape) → HasDistinctCells (c ∷ cs)
    → count (c ∷ cs) (answer (Asks c.0 next)) t ≡ sum_below c.1 (λ v. count cs (answer (next v)) (written t c.0 v))
unfolding count
count_asked c cs next t x =
    sum_same c.1 (λ v. count cs (answer (Asks c.0 next)) (written t c.0 v)) (λ v. count cs (answer (next v)) (written t c.0 v))
    (λ v. count_same_off cs (answer (Asks c.0 next)) (answer (next v)) (written t c.0 v) (later_distinct c cs x)
    (λ u w off. ap (λ n. answer (next n) u) (off c.0 (not_later c cs x) ∙ written_here t c.0 v)))

pub same_answers : (q r : Questions) (cs ds : List (Cell × ℕ)) → HasDistinctCells cs → HasDistinctCells ds → AskAlike cs ds q r → (t u : Tape) → count cs (answer q) t * total ds ≡ count ds (answer r) u * total cs
same_answers (Says true) (Says true) cs ds x y h t u = rw (count_true cs t, count_true ds u) (mul_comm (total cs) (total ds))
same_answers (Says false) (Says false) cs ds x y h t u = rw (count_false cs t, count_false ds u) (omega arith)
same_answers (Says true) (Says false) cs ds x y h t u = absurd (both_ways _ refl (sym h))
same_answers (Says false) (Says true) cs ds x y h t u = absurd (both_ways _ refl h)
same_answers (Asks c f) (Asks d g) cs ds x y h t u =
    let size : ℕ = h.0 in
    let after_c : List (Cell × ℕ) = without c cs in
    let after_d : List (Cell × ℕ) = without d ds in
    let xs = distinct_without (c, size) cs x in
    let ys = distinct_without (d, size) ds y in
    let fc = in_front (c, size) cs x h.1 in
    let fd = in_front (d, size) ds y h.2 in
    let m : ℕ = sum_below size (λ v. count after_c (answer (f v)) (written t c v)) in
    let n : ℕ = sum_below size (λ v. count after_d (answer (g v)) (written u d v)) in
    ap₂ ◌*◌ (fc.counts (answer (Asks c f)) t ∙ count_asked (c, size) after_c f t xs) (fd.totals ∙ total_more (d, size) after_d)
    ∙ times_cross size m n (total after_d) (total after_c)
    (sum_cross size (total after_d) (total after_c) _ _
    (λ v small. same_answers (f v) (g v) after_c after_d (later_distinct (c, size) after_c xs) (later_distinct (d, size) after_d ys) (h.3 v small) (written t c v) (written u d v)))
    ∙ sym (ap₂ ◌*◌ (fd.counts (answer (Asks d g)) u ∙ count_asked (d, size) after_d g u ys) (fc.totals ∙ total_more (c, size) after_c))
same_answers (Says a) (Asks d g) cs ds x y h t u = absurd h
same_answers (Asks c f) (Says b) cs ds x y h t u = absurd h
