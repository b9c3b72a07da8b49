-- Cells under other names.
use Rattle.std.proofs.Common.{◌≡◌, ℕ, ◌*◌, Bool, true, false, cond, List, [], ◌∷◌, refl, sym, ap, ap₂, ◌∙◌}
use Rattle.std.proofs.Math.Path.{fun_ext}
use Rattle.std.proofs.lemmas.Bool.{both_ways}
use Rattle.std.proofs.lemmas.Map.Keys.{IsDistinct-cons, IsDistinct-head, IsDistinct-tail}
use Rattle.std.specs.List.{AllByRecursion}
use Rattle.cv_meaning.specs.Tapes.{Cell, Tape, blank, same_cell, cells_of, written, count, total}
use Rattle.cv_meaning.specs.Chances.{chance}
use Rattle.cv_meaning_laws.proofs.Counts.{same_cell_refl, same_cell_exact, sum_same}
use Rattle.cv_meaning_chances.specs.Tests.{HasDistinctCells, renamed, IsOneToOne}

same_renamed : (name : Cell → Cell) → IsOneToOne name → (c d : Cell) → same_cell (name c) (name d) ≡ same_cell c d
same_renamed name h c d = go (same_cell c d) (same_cell (name c) (name d)) refl refl
  where
    go : (a b : Bool) → same_cell c d ≡ a → same_cell (name c) (name d) ≡ b → b ≡ a
    go true true e k = refl
    go true false e k = absurd (both_ways _ k (ap (λ z. same_cell (name c) (name z)) (sym (same_cell_exact c d e)) ∙ same_cell_refl (name c)))
    go false true e k = absurd (both_ways _ e (ap (same_cell c) (sym (h c d (same_cell_exact (name c) (name d) k))) ∙ same_cell_refl c))
    go false false e k = refl

pub count_renamed : (name : Cell → Cell) (cs : List (Cell × ℕ)) (p : Tape → Bool) (t : Tape) → IsOneToOne name
    → count (renamed name cs) (λ u. p (λ c. u (name c))) t ≡ count cs p (λ c. t (name c))
unfolding count written
count_renamed name [] p t h = refl
count_renamed name (c ∷ cs) p t h =
    sum_same c.1 _ _
    (λ v. count_renamed name cs p (written t (name c.0) v) h
    ∙ ap (count cs p) (fun_ext (λ d. ap (λ b. cond b v (t (name d))) (same_renamed name h d c.0))))

pub total_renamed : (name : Cell → Cell) (cs : List (Cell × ℕ)) → total (renamed name cs) ≡ total cs
unfolding total
total_renamed name [] = refl
total_renamed name (c ∷ cs) = ap (λ n. c.1 * n) (total_renamed name cs)

pub chance_renamed : (name : Cell → Cell) (cs : List (Cell × ℕ)) (p : Tape → Bool) → IsOneToOne name → chance (renamed name cs) (λ u. p (λ c. u (name c))) ≡ chance cs p
chance_renamed name cs p h = ap₂ (λ m n. record { good = m; all = n }) (count_renamed name cs p blank h) (total_renamed name cs)

pub distinct_renamed : (name : Cell → Cell) (cs : List (Cell × ℕ)) → IsOneToOne name → HasDistinctCells cs → HasDistinctCells (renamed name cs)
distinct_renamed name [] h x = x
distinct_renamed name (c ∷ cs) h x =
    IsDistinct-cons same_cell (name c.0) (cells_of (renamed name cs))
    (go cs (IsDistinct-head same_cell c.0 (cells_of cs) x))
    (distinct_renamed name cs h (IsDistinct-tail same_cell c.0 (cells_of cs) x))
  where
    go : (ds : List (Cell × ℕ)) → AllByRecursion (λ d. same_cell c.0 d ≡ false) (cells_of ds) → AllByRecursion (λ d. same_cell (name c.0) d ≡ false) (cells_of (renamed name ds))
    go [] k = tt
    go (d ∷ ds) k = (same_renamed name h c.0 d.0 ∙ k.0, go ds k.1)
