-- Counts, and the tapes that they go over.
use Rattle.std.proofs.Common.{◌≡◌, ℕ, zero, suc, ◌+◌, ◌<◌, Bool, true, false, cond, List, [], ◌∷◌, ◌++◌, flat_map, length, ◌⊎◌, inl, inr, refl, sym, ap, ◌∙◌, arith}
use Rattle.std.proofs.lemmas.Grind.{flat_map-append}
use Rattle.std.proofs.lemmas.List.Sums.{sum_by-cons, sum_by-append}
use Rattle.std.proofs.Math.Path.{fun_ext}
use Rattle.std.specs.List.{count_by}
use Rattle.cv_meaning.specs.Tapes.{Cell, Tape, same_cell, written, sum_below, count, total}
use Rattle.cv_meaning.specs.Candidates.{below}
use Rattle.cv_meaning_laws.proofs.Counts.{same_cell_exact, count_true}
use Rattle.cv_meaning_laws.proofs.Listed.{Has}
use Rattle.cv_meaning_laws.specs.adequacy.Counted.{tapes_of}
use Rattle.cv_meaning_laws.proofs.adequacy.Lists.{flat_map_has, below_has}

-- a count over the lists of each number below one
count_below : (p : Tape → Bool) (f : ℕ → List Tape) (n : ℕ) → sum_below n (λ v. count_by p (f v)) ≡ count_by p (flat_map f (below n))
unfolding sum_below
count_below p f zero = refl
count_below p f (suc n) =
    ap (λ k. k + count_by p (f n)) (count_below p f n)
    ∙ (let e = sum_by-append (λ t. cond (p t) 1 0) (f n) [] in let r = sum_by-append (λ t. cond (p t) 1 0) (flat_map f (below n)) (f n ++ []) in let s = ap (count_by p) (flat_map-append f (below n) (n ∷ [])) in omega arith)

pub count_is : (cs : List (Cell × ℕ)) (p : Tape → Bool) (t : Tape) → count cs p t ≡ count_by p (tapes_of cs t)
unfolding count tapes_of
count_is [] p t = sym (sum_by-cons (λ u. cond (p u) 1 0) t [] ∙ (let e : cond (p t) 1 0 + 0 ≡ cond (p t) 1 0 = omega arith in e))
count_is (c ∷ cs) p t = ap (sum_below c.1) (fun_ext (λ v. count_is cs p (written t c.0 v))) ∙ count_below p (λ v. tapes_of cs (written t c.0 v)) c.1

count_all : (ts : List Tape) → count_by (λ t. true) ts ≡ length ts
count_all [] = refl
count_all (t ∷ ts) = sum_by-cons (λ u. 1) t ts ∙ (let e = count_all ts in omega arith)

pub total_is : (cs : List (Cell × ℕ)) (t : Tape) → total cs ≡ length (tapes_of cs t)
total_is cs t = sym (count_true cs t) ∙ count_is cs (λ u. true) t ∙ count_all (tapes_of cs t)

-- a cell of such a tape has a value below a size of its own, or the value of the first tape
pub cell_value : (cs : List (Cell × ℕ)) (t u : Tape) → Has (tapes_of cs t) u → (d : Cell) → ((n : ℕ) × Has cs (d, n) × (u d < n)) ⊎ (u d ≡ t d)
unfolding tapes_of written
cell_value [] t u (inl e) d = inr (ap (λ (z : Tape). z d) e)
cell_value [] t u (inr e) d = absurd e
cell_value (c ∷ cs) t u h d = go (cell_value cs (written t c.0 r.0) u r.2 d)
  where
    r : (v : ℕ) × Has (below c.1) v × Has (tapes_of cs (written t c.0 v)) u
    r = flat_map_has (λ v. tapes_of cs (written t c.0 v)) (below c.1) u h

    here : (b : Bool) → same_cell d c.0 ≡ b → u d ≡ cond b r.0 (t d) → ((n : ℕ) × Has (c ∷ cs) (d, n) × (u d < n)) ⊎ (u d ≡ t d)
    here true s e = let l = below_has c.1 r.0 r.1 in inl (c.1, inl (λ i. (same_cell_exact d c.0 s i, c.1)), omega arith)
    here false s e = inr e

    go : ((n : ℕ) × Has cs (d, n) × (u d < n)) ⊎ (u d ≡ written t c.0 r.0 d) → ((n : ℕ) × Has (c ∷ cs) (d, n) × (u d < n)) ⊎ (u d ≡ t d)
    go (inl x) = inl (x.0, inr x.1, x.2)
    go (inr e) = here (same_cell d c.0) refl e
