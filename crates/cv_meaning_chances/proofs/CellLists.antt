-- Lists of distinct cells, and a cell that is taken out of one.
use Rattle.std.proofs.Common.{◌≡◌, ℕ, ◌*◌, Bool, true, false, ◌⊎◌, inl, inr, List, [], ◌∷◌, ◌++◌, Contains, IsPermutation, refl, sym, ap, subst, ◌∙◌, arith, mul_left_comm}
use Rattle.std.proofs.lemmas.Bool.{both_ways, or_parts}
use Rattle.std.proofs.lemmas.List.Elements.{Contains-append_left, Contains-append_right, Contains-append_cases, Contains-push, Contains-push_cases}
use Rattle.std.proofs.lemmas.List.Sorted.{IsPermutation-map, IsPermutation-middle}
use Rattle.std.proofs.lemmas.Map.Keys.{IsDistinct-IsPermutation}
use Rattle.cv_meaning.specs.Tapes.{Cell, Tape, same_cell, cells_of, is_in, written, count, total}
use Rattle.cv_meaning_laws.proofs.Counts.{same_cell_refl, same_cell_exact, sum_same, count_swap}
use Rattle.cv_meaning_chances.specs.Tests.{HasDistinctCells}
use Rattle.cv_meaning_chances.proofs.Within.{later_distinct, not_later}
use Rattle.cv_meaning_laws.proofs.Listed.{apart_back}

-- elements

pub contains_here : (c : Cell × ℕ) (cs : List (Cell × ℕ)) → Contains (c ∷ cs) c
contains_here c cs = Contains-append_left (c ∷ []) cs c (Contains-push [] c)

pub contains_later : (c d : Cell × ℕ) (cs : List (Cell × ℕ)) → Contains cs d → Contains (c ∷ cs) d
contains_later c d cs = Contains-append_right (c ∷ []) cs d

pub not_in_empty : (c : Cell × ℕ) → Contains [] c → ⊥
not_in_empty c h = let k = h.1 in omega arith

pub contains_cases : (c d : Cell × ℕ) (cs : List (Cell × ℕ)) → Contains (c ∷ cs) d → (c ≡ d) ⊎ Contains cs d
contains_cases c d cs h = go (Contains-append_cases (c ∷ []) cs d h)
  where
    alone : Contains [] d ⊎ (c ≡ d) → (c ≡ d) ⊎ Contains cs d
    alone (inl k) = absurd (not_in_empty d k)
    alone (inr e) = inl e

    go : Contains (c ∷ []) d ⊎ Contains cs d → (c ≡ d) ⊎ Contains cs d
    go (inl k) = alone (Contains-push_cases [] c d k)
    go (inr k) = inr k

-- distinct cells

same_cell_comm : (c d : Cell) → same_cell c d ≡ same_cell d c
same_cell_comm c d = go (same_cell c d) refl
  where
    go : (b : Bool) → same_cell c d ≡ b → b ≡ same_cell d c
    go true e = sym (ap (same_cell d) (same_cell_exact c d e) ∙ same_cell_refl d)
    go false e = sym (apart_back c d e)

pub distinct_permuted : (cs ds : List (Cell × ℕ)) → IsPermutation cs ds → HasDistinctCells cs → HasDistinctCells ds
distinct_permuted cs ds h = IsDistinct-IsPermutation same_cell same_cell_comm (cells_of cs) (cells_of ds) (IsPermutation-map (λ (c : Cell × ℕ). c.0) cs ds h)

pub apart_from : (cs : List (Cell × ℕ)) (c : Cell) (d : Cell × ℕ) → is_in cs c ≡ false → Contains cs d → same_cell d.0 c ≡ false
apart_from [] c d h k = absurd (not_in_empty d k)
apart_from (e ∷ cs) c d h k =
    let parts = or_parts (same_cell e.0 c) (is_in cs c) h in
    go parts.0 (contains_cases e d cs k) (apart_from cs c d parts.1)
  where
    go : same_cell e.0 c ≡ false → (e ≡ d) ⊎ Contains cs d → (Contains cs d → same_cell d.0 c ≡ false) → same_cell d.0 c ≡ false
    go h (inl q) ih = subst (λ (z : Cell × ℕ). same_cell z.0 c ≡ false) q h
    go h (inr m) ih = ih m

pub not_again : (c : Cell × ℕ) (cs : List (Cell × ℕ)) → HasDistinctCells (c ∷ cs) → Contains cs c → ⊥
not_again c cs h k = both_ways _ (apart_from cs c.0 c (not_later c cs h) k) (same_cell_refl c.0)

-- a cell in front

pub count_under : (c : Cell × ℕ) (cs ds : List (Cell × ℕ)) (p : Tape → Bool) → ((t : Tape) → count cs p t ≡ count ds p t) → (t : Tape) → count (c ∷ cs) p t ≡ count (c ∷ ds) p t
unfolding count
count_under c cs ds p h t = sum_same c.1 _ _ (λ v. h (written t c.0 v))

count_front : (c : Cell × ℕ) (xs ys : List (Cell × ℕ)) (p : Tape → Bool) → HasDistinctCells (xs ++ c ∷ ys) → (t : Tape) → count (xs ++ c ∷ ys) p t ≡ count (c ∷ (xs ++ ys)) p t
count_front c [] ys p h t = refl
count_front c (x ∷ xs) ys p h t =
    count_under x (xs ++ c ∷ ys) (c ∷ (xs ++ ys)) p (count_front c xs ys p (later_distinct x (xs ++ c ∷ ys) h)) t
    ∙ count_swap x c (xs ++ ys) p t
    (apart_back c.0 x.0 (apart_from (xs ++ c ∷ ys) x.0 c (not_later x (xs ++ c ∷ ys) h) (Contains-append_right xs (c ∷ ys) c (contains_here c ys))))

total_front : (c : Cell × ℕ) (xs ys : List (Cell × ℕ)) → total (xs ++ c ∷ ys) ≡ c.1 * total (xs ++ ys)
unfolding total
total_front c [] ys = refl
total_front c (x ∷ xs) ys = ap (λ n. x.1 * n) (total_front c xs ys) ∙ mul_left_comm x.1 c.1 (total (xs ++ ys))

-- the list is this cell and the rest, in some order
pub record TakenOut (ds : List (Cell × ℕ)) (c : Cell × ℕ) : Type 0 where
  pub rest : List (Cell × ℕ)
  pub order : IsPermutation ds (c ∷ rest)
  pub counts : (p : Tape → Bool) (t : Tape) → count ds p t ≡ count (c ∷ rest) p t
  pub totals : total ds ≡ c.1 * total rest

record Found (ds : List (Cell × ℕ)) (c : Cell × ℕ) : Type 0 where
  before : List (Cell × ℕ)
  after : List (Cell × ℕ)
  is : ds ≡ before ++ c ∷ after

found : (ds : List (Cell × ℕ)) (c : Cell × ℕ) → Contains ds c → Found ds c
found [] c h = absurd (not_in_empty c h)
found (d ∷ ds) c h = go (contains_cases d c ds h) (found ds c)
  where
    go : (d ≡ c) ⊎ Contains ds c → (Contains ds c → Found ds c) → Found (d ∷ ds) c
    go (inl e) ih = record { before = []; after = ds; is = ap (λ (z : Cell × ℕ). z ∷ ds) e }
    go (inr k) ih = let f : Found ds c = ih k in record { before = d ∷ f.before; after = f.after; is = ap (λ (zs : List (Cell × ℕ)). d ∷ zs) f.is }

pub take_out : (ds : List (Cell × ℕ)) (c : Cell × ℕ) → HasDistinctCells ds → Contains ds c → TakenOut ds c
take_out ds c x h =
    let f : Found ds c = found ds c h in
    subst (λ (zs : List (Cell × ℕ)). TakenOut zs c) (sym f.is)
    (record {
      rest = f.before ++ f.after;
      order = IsPermutation-middle f.before c f.after;
      counts = λ p. count_front c f.before f.after p (subst HasDistinctCells f.is x);
      totals = total_front c f.before f.after;
    })
