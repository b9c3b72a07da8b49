-- Counts look at a test only on tapes whose listed cells are below their sizes.
use Rattle.std.proofs.Common.{◌≡◌, ℕ, zero, suc, ◌+◌, ◌≤◌, ◌<◌, Bool, true, false, cond, not, ◌&&◌, ◌||◌, List, [], ◌∷◌, refl, sym, ap, ap₂, ◌∙◌, arith, le_refl, le_trans, le_of_eq, le_antisymm, add-le-add, mul-pos}
use Rattle.std.proofs.lemmas.Bool.{both_ways, or_parts}
use Rattle.std.proofs.lemmas.Map.Keys.{IsDistinct-head, IsDistinct-tail}
use Rattle.std.specs.List.{AllByRecursion}
use Rattle.cv_meaning.specs.Tapes.{Cell, Tape, same_cell, cells_of, is_in, written, sum_below, count, total}
use Rattle.cv_meaning_laws.proofs.Counts.{same_cell_refl, same_cell_exact, sum_same, sum_add, count_le, count_true}
use Rattle.cv_meaning_chances.specs.Tests.{HasDistinctCells, HasValues, IsWithin}
use Rattle.cv_meaning_laws.proofs.Listed.{apart_back}

-- cells

pub later_distinct : (c : Cell × ℕ) (cs : List (Cell × ℕ)) → HasDistinctCells (c ∷ cs) → HasDistinctCells cs
later_distinct c cs = IsDistinct-tail same_cell c.0 (cells_of cs)

pub not_later : (c : Cell × ℕ) (cs : List (Cell × ℕ)) → HasDistinctCells (c ∷ cs) → is_in cs c.0 ≡ false
not_later c cs h = go cs (IsDistinct-head same_cell c.0 (cells_of cs) h)
  where
    go : (ds : List (Cell × ℕ)) → AllByRecursion (λ d. same_cell c.0 d ≡ false) (cells_of ds) → is_in ds c.0 ≡ false
    go [] k = refl
    go (d ∷ ds) k = ap₂ ◌||◌ (apart_back c.0 d.0 k.0) (go ds k.1)

-- tapes

pub written_here : (t : Tape) (c : Cell) (v : ℕ) → written t c v c ≡ v
unfolding written
written_here t c v = ap (λ b. cond b v (t c)) (same_cell_refl c)

pub written_apart : (t : Tape) (c : Cell) (v : ℕ) (d : Cell) → same_cell d c ≡ false → written t c v d ≡ t d
unfolding written
written_apart t c v d h = ap (λ b. cond b v (t d)) h

-- the tapes have the same values at the cells that are not listed
abbrev pub SameOff : List (Cell × ℕ) → Tape → Tape → Type 0
SameOff cs u t = (d : Cell) → is_in cs d ≡ false → u d ≡ t d

same_off_more : (c : Cell × ℕ) (cs : List (Cell × ℕ)) (u t : Tape) (v : ℕ) → SameOff cs u (written t c.0 v) → SameOff (c ∷ cs) u t
same_off_more c cs u t v off d h =
    let k = or_parts (same_cell c.0 d) (is_in cs d) h in
    off d k.1 ∙ written_apart t c.0 v d (apart_back c.0 d k.0)

-- sums

pub sum_le_below : (n : ℕ) (f g : ℕ → ℕ) → ((v : ℕ) → v < n → f v ≤ g v) → sum_below n f ≤ sum_below n g
unfolding sum_below
sum_le_below zero f g h = le_refl zero
sum_le_below (suc n) f g h = add-le-add (sum_le_below n f g (λ v k. h v (omega arith))) (h n (omega arith))

-- counts

-- of the tapes that are within and have the other values of t
pub count_le_off : (cs : List (Cell × ℕ)) (p q : Tape → Bool) (t : Tape) → HasDistinctCells cs
    → ((u : Tape) → IsWithin cs u → SameOff cs u t → p u ≡ true → q u ≡ true) → count cs p t ≤ count cs q t
unfolding count
count_le_off [] p q t x h = bits (p t) (q t) (h t tt (λ d k. refl))
  where
    bits : (a b : Bool) → (a ≡ true → b ≡ true) → cond a 1 0 ≤ cond b 1 0
    bits true true h = omega arith
    bits true false h = absurd (both_ways _ refl (h refl))
    bits false b h = omega arith
count_le_off (c ∷ cs) p q t x h =
    sum_le_below c.1 _ _
    (λ v small. count_le_off cs p q (written t c.0 v) (later_distinct c cs x)
    (λ u within off. h u
    (let e = off c.0 (not_later c cs x) ∙ written_here t c.0 v in omega arith, within)
    (same_off_more c cs u t v off)))

pub count_same_off : (cs : List (Cell × ℕ)) (p q : Tape → Bool) (t : Tape) → HasDistinctCells cs
    → ((u : Tape) → IsWithin cs u → SameOff cs u t → p u ≡ q u) → count cs p t ≡ count cs q t
count_same_off cs p q t x h =
    le_antisymm
    (count_le_off cs p q t x (λ u w off e. sym (h u w off) ∙ e))
    (count_le_off cs q p t x (λ u w off e. h u w off ∙ e))

pub count_cases : (cs : List (Cell × ℕ)) (p q : Tape → Bool) (t : Tape) → count cs (λ u. p u && q u) t + count cs (λ u. p u && not (q u)) t ≡ count cs p t
unfolding count
count_cases [] p q t = bits (p t) (q t)
  where
    bits : (a b : Bool) → cond (a && b) 1 0 + cond (a && not b) 1 0 ≡ cond a 1 0
    bits true true = refl
    bits true false = refl
    bits false b = refl
count_cases (c ∷ cs) p q t =
    sym (sum_add c.1 (λ v. count cs (λ u. p u && q u) (written t c.0 v)) (λ v. count cs (λ u. p u && not (q u)) (written t c.0 v)))
    ∙ sum_same c.1 _ _ (λ v. count_cases cs p q (written t c.0 v))

pub count_at_most : (cs : List (Cell × ℕ)) (p : Tape → Bool) (t : Tape) → count cs p t ≤ total cs
count_at_most cs p t = le_trans (count_le cs p (λ u. true) t (λ u e. refl)) (le_of_eq (count_true cs t))

pub total_above : (cs : List (Cell × ℕ)) → HasValues cs → 0 < total cs
unfolding total
total_above [] h = omega arith
total_above (c ∷ cs) h = mul-pos h.0 (total_above cs h.1)
