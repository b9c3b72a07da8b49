-- Tapes on which a draw of one of some variables and a test change places.
use Rattle.std.proofs.Common.{◌≡◌, ℕ, ◌==◌, ◌&&◌, Bool, true, false, cond, List, Option, Some, None, refl, sym, ap, ap₂, ◌∙◌, eqb-true}
use Rattle.std.proofs.Math.Path.{fun_ext}
use Rattle.std.proofs.lemmas.Bool.{both_ways, and_parts}
use Rattle.cv_meaning.specs.Tapes.{Cell, Test_at, Tape, cells_of, same_cell}
use Rattle.cv_meaning_laws.proofs.Counts.{same_cell_refl, same_cell_exact}
use Rattle.cv_meaning_chances.specs.Tests.{HasDistinctCells, IsWithin}
use Rattle.cv_meaning_runs.specs.Agreement.{AgreeAt}
use Rattle.cv_meaning_chances.specs.unread.Sizes.{size_in}
use Rattle.cv_meaning_chances.proofs.unread.CellSizes.{is_drawn}
use Rattle.cv_query_secrets.proofs.unread.Places.{cell_at, agree_in, agree_of, is_in_sized, sized_is_in, within_at, within_of}

abbrev pub is_test : Cell → Bool
is_test (Test_at u) = true
is_test c = false

-- the second of two cells for the first, and the first for the second
abbrev pub swapped : Cell → Cell → Cell → Cell
swapped p q c = cond (same_cell c p) q (cond (same_cell c q) p c)

swapped_first : (p q : Cell) → swapped p q p ≡ q
swapped_first p q = ap (λ b. cond b q (cond (same_cell p q) p p)) (same_cell_refl p)

pub swapped_second : (p q : Cell) → swapped p q q ≡ p
swapped_second p q = go (same_cell q p) refl
  where
    go : (b : Bool) → same_cell q p ≡ b → cond b q (cond (same_cell q q) p q) ≡ p
    go true e = same_cell_exact q p e
    go false e = ap (λ b. cond b p q) (same_cell_refl q)

swapped_other : (p q c : Cell) → same_cell c p ≡ false → same_cell c q ≡ false → swapped p q c ≡ c
swapped_other p q c e f = ap₂ (λ b d. cond b q (cond d p c)) e f

twice : (p q c : Cell) → swapped p q (swapped p q c) ≡ c
twice p q c = go (same_cell c p) (same_cell c q) refl refl
  where
    go : (b d : Bool) → same_cell c p ≡ b → same_cell c q ≡ d → swapped p q (cond b q (cond d p c)) ≡ c
    go true d e f = swapped_second p q ∙ sym (same_cell_exact c p e)
    go false true e f = swapped_first p q ∙ sym (same_cell_exact c q f)
    go false false e f = swapped_other p q c e f

abbrev pub one_size : Option ℕ → Option ℕ → Bool
one_size (Some m) (Some n) = m == n
one_size o q = false

-- the tuple of a test, and what stands for a cell
abbrev pub Choice : Type 0
Choice = List ℕ × ℕ

module _ (cs : List (Cell × ℕ)) (ys : ℕ → Bool) where
  -- a test and a draw of one of the variables, both listed, with one size
  abbrev pub may_swap : List ℕ → Cell → Bool
  may_swap u c = is_drawn ys c && one_size (size_in cs (Test_at u)) (size_in cs c)

  abbrev pub exchange : Option Choice → Tape → Tape
  exchange None t = t
  exchange (Some r) t = cond (may_swap r.0 (cell_at cs r.1)) (λ c. t (swapped (Test_at r.0) (cell_at cs r.1) c)) t

  pub exchange_twice : (o : Option Choice) (t : Tape) → exchange o (exchange o t) ≡ t
  exchange_twice None t = refl
  exchange_twice (Some r) t = go (may_swap r.0 (cell_at cs r.1))
    where
      once : Tape → Tape
      once u c = u (swapped (Test_at r.0) (cell_at cs r.1) c)

      go : (b : Bool) → cond b (once (cond b (once t) t)) (cond b (once t) t) ≡ t
      go true = fun_ext (λ c. ap t (twice (Test_at r.0) (cell_at cs r.1) c))
      go false = refl

  -- the two cells have one size

  pub sizes_same : (o q : Option ℕ) → one_size o q ≡ true → o ≡ q
  sizes_same (Some m) (Some n) e = ap Some (eqb-true m n e)
  sizes_same (Some m) None e = absurd (both_ways false refl e)
  sizes_same None q e = absurd (both_ways false refl e)

  size_swapped : (p q : Cell) → one_size (size_in cs p) (size_in cs q) ≡ true → (c : Cell) → size_in cs (swapped p q c) ≡ size_in cs c
  size_swapped p q e c = go (same_cell c p) (same_cell c q) refl refl
    where
      same : size_in cs p ≡ size_in cs q
      same = sizes_same (size_in cs p) (size_in cs q) e

      go : (b d : Bool) → same_cell c p ≡ b → same_cell c q ≡ d → size_in cs (cond b q (cond d p c)) ≡ size_in cs c
      go true d f h = sym same ∙ ap (size_in cs) (sym (same_cell_exact c p f))
      go false true f h = same ∙ ap (size_in cs) (sym (same_cell_exact c q h))
      go false false f h = refl

  abbrev KeepsSizes : (r : Choice) → Type 0
  KeepsSizes r = (c : Cell) → size_in cs (swapped (Test_at r.0) (cell_at cs r.1) c) ≡ size_in cs c

  may_swap_sizes : (r : Choice) → may_swap r.0 (cell_at cs r.1) ≡ true → KeepsSizes r
  may_swap_sizes r e = size_swapped (Test_at r.0) (cell_at cs r.1) (and_parts (is_drawn ys (cell_at cs r.1)) (one_size (size_in cs (Test_at r.0)) (size_in cs (cell_at cs r.1))) e).1

  pub exchange_within : HasDistinctCells cs → (o : Option Choice) (t : Tape) → IsWithin cs t → IsWithin cs (exchange o t)
  exchange_within x None t w = w
  exchange_within x (Some r) t w = go (may_swap r.0 (cell_at cs r.1)) refl
    where
      go : (b : Bool) → may_swap r.0 (cell_at cs r.1) ≡ b → IsWithin cs (cond b (λ c. t (swapped (Test_at r.0) (cell_at cs r.1) c)) t)
      go true e = within_of cs (λ c. t (swapped (Test_at r.0) (cell_at cs r.1) c)) x (λ c n f. within_at cs t w (swapped (Test_at r.0) (cell_at cs r.1) c) n (may_swap_sizes r e c ∙ f))
      go false e = w

  pub exchange_agrees : (o : Option Choice) (t u : Tape) → AgreeAt (cells_of cs) t u → AgreeAt (cells_of cs) (exchange o t) (exchange o u)
  exchange_agrees None t u a = a
  exchange_agrees (Some r) t u a = go (may_swap r.0 (cell_at cs r.1)) refl
    where
      go : (b : Bool) → may_swap r.0 (cell_at cs r.1) ≡ b
          → AgreeAt (cells_of cs) (cond b (λ c. t (swapped (Test_at r.0) (cell_at cs r.1) c)) t) (cond b (λ c. u (swapped (Test_at r.0) (cell_at cs r.1) c)) u)
      go true e = agree_of _ _ cs (λ c f. let n = sized_is_in cs c f in agree_in t u cs a (swapped (Test_at r.0) (cell_at cs r.1) c) (is_in_sized cs (swapped (Test_at r.0) (cell_at cs r.1) c) n.0 (may_swap_sizes r e c ∙ n.1)))
      go false e = a

  -- cells that are no test and no such draw stay as they are

  not_same : (c d : Cell) (f : Cell → Bool) → f c ≡ false → f d ≡ true → same_cell c d ≡ false
  not_same c d f e h = go (same_cell c d) refl
    where
      go : (b : Bool) → same_cell c d ≡ b → b ≡ false
      go true k = absurd (both_ways (f c) e (ap f (same_cell_exact c d k) ∙ h))
      go false k = refl

  pub exchange_off : (o : Option Choice) (t : Tape) (c : Cell) → is_test c ≡ false → is_drawn ys c ≡ false → exchange o t c ≡ t c
  exchange_off None t c e f = refl
  exchange_off (Some r) t c e f = go (may_swap r.0 (cell_at cs r.1)) refl
    where
      go : (b : Bool) → may_swap r.0 (cell_at cs r.1) ≡ b → cond b (λ d. t (swapped (Test_at r.0) (cell_at cs r.1) d)) t c ≡ t c
      go true k =
          let drawn = (and_parts (is_drawn ys (cell_at cs r.1)) (one_size (size_in cs (Test_at r.0)) (size_in cs (cell_at cs r.1))) k).0 in
          ap t (swapped_other (Test_at r.0) (cell_at cs r.1) c (not_same c (Test_at r.0) is_test e refl) (not_same c (cell_at cs r.1) (is_drawn ys) f drawn))
      go false k = refl

  -- the chosen draw has what the test had
  pub exchange_told : (r : Choice) (t : Tape) → is_drawn ys (cell_at cs r.1) ≡ true → one_size (size_in cs (Test_at r.0)) (size_in cs (cell_at cs r.1)) ≡ true → exchange (Some r) t (cell_at cs r.1) ≡ t (Test_at r.0)
  exchange_told r t e f =
      ap (λ b. cond b (λ c. t (swapped (Test_at r.0) (cell_at cs r.1) c)) t (cell_at cs r.1)) (ap₂ ◌&&◌ e f) ∙ ap t (swapped_second (Test_at r.0) (cell_at cs r.1))
