-- Cells by their places in a list, and tapes by the sizes that a list gives.
use Rattle.std.proofs.Common.{◌≡◌, ℕ, zero, suc, ◌<◌, ◌||◌, Bool, true, false, cond, List, [], ◌∷◌, Some, refl, ap, subst, ◌∙◌}
use Rattle.std.proofs.lemmas.Bool.{both_ways, or_left, or_right}
use Rattle.std.specs.List.{AllByRecursion, IsDistinct}
use Rattle.cv_meaning.specs.Tapes.{Cell, Coin, Tape, cells_of, is_in, same_cell}
use Rattle.cv_meaning_laws.proofs.Counts.{same_cell_refl, same_cell_exact}
use Rattle.cv_meaning_chances.specs.Tests.{HasDistinctCells, IsWithin}
use Rattle.cv_meaning_runs.specs.Agreement.{AgreeAt}
use Rattle.cv_meaning_chances.specs.unread.Sizes.{size_in}

-- the place of a cell, and the cell at a place
unfoldable pub place_in : List (Cell × ℕ) → Cell → ℕ
place_in [] c = 0
place_in (d ∷ cs) c = cond (same_cell d.0 c) 0 (suc (place_in cs c))

unfoldable pub cell_at : List (Cell × ℕ) → ℕ → Cell
cell_at [] n = Coin 0
cell_at (d ∷ cs) zero = d.0
cell_at (d ∷ cs) (suc n) = cell_at cs n

pub found_again : (cs : List (Cell × ℕ)) (c : Cell) → is_in cs c ≡ true → cell_at cs (place_in cs c) ≡ c
unfolding place_in cell_at
found_again [] c e = absurd (both_ways false refl e)
found_again (d ∷ cs) c e = go (same_cell d.0 c) refl e (found_again cs c)
  where
    go : (b : Bool) → same_cell d.0 c ≡ b → (b || is_in cs c) ≡ true → (is_in cs c ≡ true → cell_at cs (place_in cs c) ≡ c) → cell_at (d ∷ cs) (cond b 0 (suc (place_in cs c))) ≡ c
    go true k f ih = same_cell_exact d.0 c k
    go false k f ih = ih f

-- sizes

pub is_in_sized : (cs : List (Cell × ℕ)) (c : Cell) (n : ℕ) → size_in cs c ≡ Some n → is_in cs c ≡ true
is_in_sized [] c n e = absurd (cc)
is_in_sized (d ∷ cs) c n e = go (same_cell d.0 c) e (is_in_sized cs c n)
  where
    go : (b : Bool) → cond b (Some d.1) (size_in cs c) ≡ Some n → (size_in cs c ≡ Some n → is_in cs c ≡ true) → (b || is_in cs c) ≡ true
    go true f ih = refl
    go false f ih = ih f

pub sized_is_in : (cs : List (Cell × ℕ)) (c : Cell) → is_in cs c ≡ true → (n : ℕ) × (size_in cs c ≡ Some n)
sized_is_in [] c e = absurd (both_ways false refl e)
sized_is_in (d ∷ cs) c e = go (same_cell d.0 c) e (sized_is_in cs c)
  where
    go : (b : Bool) → (b || is_in cs c) ≡ true → (is_in cs c ≡ true → (n : ℕ) × (size_in cs c ≡ Some n)) → (n : ℕ) × (cond b (Some d.1) (size_in cs c) ≡ Some n)
    go true f ih = (d.1, refl)
    go false f ih = ih f

-- a list of distinct cells gives each the size that stands there

abbrev Gives : List (Cell × ℕ) → List (Cell × ℕ) → Type 0
Gives cs ds = AllByRecursion (λ (d : Cell × ℕ). size_in cs d.0 ≡ Some d.1) ds

gives_later : (c : Cell × ℕ) (cs ds : List (Cell × ℕ)) → AllByRecursion (λ d. same_cell c.0 d ≡ false) (cells_of ds) → Gives cs ds → Gives (c ∷ cs) ds
gives_later c cs [] e k = tt
gives_later c cs (d ∷ ds) e k = (ap (λ b. cond b (Some c.1) (size_in cs d.0)) e.0 ∙ k.0, gives_later c cs ds e.1 k.1)

gives : (cs : List (Cell × ℕ)) → HasDistinctCells cs → Gives cs cs
unfolding IsDistinct
gives [] e = tt
gives (c ∷ cs) e = (ap (λ b. cond b (Some c.1) (size_in cs c.0)) (same_cell_refl c.0), gives_later c cs cs e.0 (gives cs e.1))

-- tapes

pub within_at : (cs : List (Cell × ℕ)) (t : Tape) → IsWithin cs t → (c : Cell) (n : ℕ) → size_in cs c ≡ Some n → t c < n
within_at [] t w c n e = absurd (cc)
within_at (d ∷ cs) t w c n e = go (same_cell d.0 c) refl e (within_at cs t w.1 c n)
  where
    go : (b : Bool) → same_cell d.0 c ≡ b → cond b (Some d.1) (size_in cs c) ≡ Some n → (size_in cs c ≡ Some n → t c < n) → t c < n
    go true k f ih =
        let size : d.1 ≡ n = cc in
        let cell : d.0 ≡ c = same_cell_exact d.0 c k in
        subst (λ (p : Cell × ℕ). t p.0 < p.1) (λ i. (cell i, size i)) w.0
    go false k f ih = ih f

pub within_of : (cs : List (Cell × ℕ)) (t : Tape) → HasDistinctCells cs → ((c : Cell) (n : ℕ) → size_in cs c ≡ Some n → t c < n) → IsWithin cs t
within_of cs t x h = go cs (gives cs x)
  where
    go : (ds : List (Cell × ℕ)) → Gives cs ds → IsWithin ds t
    go [] e = tt
    go (d ∷ ds) e = (h d.0 d.1 e.0, go ds e.1)

pub agree_in : (t u : Tape) (cs : List (Cell × ℕ)) → AgreeAt (cells_of cs) t u → (c : Cell) → is_in cs c ≡ true → t c ≡ u c
agree_in t u [] h c e = absurd (both_ways _ refl e)
agree_in t u (d ∷ cs) h c e = go (same_cell d.0 c) refl (agree_in t u cs h.1 c) e
  where
    go : (b : Bool) → same_cell d.0 c ≡ b → (is_in cs c ≡ true → t c ≡ u c) → (b || is_in cs c) ≡ true → t c ≡ u c
    go true q ih k = subst (λ z. t z ≡ u z) (same_cell_exact d.0 c q) h.0
    go false q ih k = ih k

pub agree_of : (t u : Tape) (cs : List (Cell × ℕ)) → ((c : Cell) → is_in cs c ≡ true → t c ≡ u c) → AgreeAt (cells_of cs) t u
agree_of t u [] h = tt
agree_of t u (d ∷ cs) h = (h d.0 (or_left (same_cell d.0 d.0) (is_in cs d.0) (same_cell_refl d.0)), agree_of t u cs (λ c e. h c (or_right (same_cell d.0 c) (is_in cs c) e)))
