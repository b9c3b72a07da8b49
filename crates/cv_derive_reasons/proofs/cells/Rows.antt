-- The place of the only definition of a variable, and the replications above a definition, one by one.
use Rattle.std.proofs.Common.{◌≡◌, ℕ, zero, suc, ◌+◌, ◌≤◌, List, [], ◌∷◌, ◌++◌, length, take, Option, Some, None, sym, ap, ◌∙◌, arith, eq-eqb, ne_eqb}
use Rattle.std.specs.Prelude.{if◌then◌else◌, option_and_then, option_map, slice_get}
use Rattle.std.proofs.lemmas.List.{take_all}
use Rattle.cv_directory.specs.Definitions.{Definition, Entries}
use Rattle.cv_derive_reasons.specs.cells.Only.{only_place, replications_by}

module _ (e : Entries) (x n : ℕ) (i : n ≡ e.count x) where
  pub not_placed : (n ≡ 1 → ⊥) → None ≡ only_place e x
  not_placed m = sym (ap (λ b. if b then option_map (λ (d : Definition). d.place) (e.first x) else None) (ne_eqb (e.count x) 1 (λ z. m (i ∙ z))))

  pub placed_once : n ≡ 1 → (p : Option ℕ) → p ≡ option_map (λ (d : Definition). d.place) (e.first x) → p ≡ only_place e x
  placed_once m p k = k ∙ sym (ap (λ b. if b then option_map (λ (d : Definition). d.place) (e.first x) else None) (eq-eqb (e.count x) 1 (sym i ∙ m)))

pub none_past : {A : Type 0} (xs : List A) (k : ℕ) → None ≡ slice_get xs k → length xs ≤ k
none_past [] k e = omega arith
none_past (x ∷ xs) zero e = absurd (let z = e in cc)
none_past (x ∷ xs) (suc k) e = let l = none_past xs k e in omega arith

pub some_next : {A : Type 0} (xs : List A) (k : ℕ) (x : A) → Some x ≡ slice_get xs k → take (k + 1) xs ≡ take k xs ++ x ∷ []
some_next [] k x e = absurd (let z = e in cc)
some_next (y ∷ xs) zero x e = let z : x ≡ y = cc in ap (λ u. u ∷ []) (sym z)
some_next (y ∷ xs) (suc k) x e = let n : suc k + 1 ≡ suc (k + 1) = omega arith in ap (λ j. take j (y ∷ xs)) n ∙ ap (λ l. y ∷ l) (some_next xs k x e)

abbrev pub row : Option Definition → ℕ → Option (ℕ × ℕ)
row o k = option_and_then (λ (d : Definition). slice_get d.replications k) o

pub no_row : (o : Option Definition) (k : ℕ) → None ≡ row o k → take k (replications_by o) ≡ replications_by o
no_row None k e = take_all k [] (omega arith)
no_row (Some d) k e = take_all k d.replications (none_past d.replications k e)

pub next_row : (o : Option Definition) (k : ℕ) (r : ℕ × ℕ) → Some r ≡ row o k → take (k + 1) (replications_by o) ≡ take k (replications_by o) ++ r ∷ []
next_row None k r e = absurd (let z = e in cc)
next_row (Some d) k r e = some_next d.replications k r e
