-- Cells that a test ignores.
use Rattle.std.proofs.Common.{◌≡◌, ℕ, ◌*◌, Bool, true, false, cond, not, List, ◌∷◌, refl, sym, ap, ◌∙◌, arith}
use Rattle.std.proofs.Math.Path.{fun_ext}
use Rattle.cv_meaning.specs.Tapes.{Cell, Tape, blank, same_cell, written, count, total}
use Rattle.cv_meaning.specs.Chances.{chance, Same}
use Rattle.cv_meaning_laws.proofs.Counts.{Agree, Reads, same_cell_refl, same_cell_exact, count_agree, count_unread}
use Rattle.cv_meaning_chances.specs.Tests.{Ignores}
use Rattle.cv_meaning_chances.proofs.Within.{written_apart}

abbrev pub other_than : Cell → Cell → Bool
other_than c d = not (same_cell d c)

pub ignores_other : (c d : Cell) → same_cell d c ≡ false → Ignores (λ u. u d) c
ignores_other c d h t v = written_apart t c v d h

pub ignores_written : (c : Cell) (v : ℕ) → Ignores (λ u. written u c v) c
unfolding written
ignores_written c v t w = fun_ext (λ d. go d (same_cell d c))
  where
    go : (d : Cell) (b : Bool) → cond b v (cond b w (t d)) ≡ cond b v (t d)
    go d true = refl
    go d false = refl

-- the second tape is the first with its own value in the cell
filled_in : (c : Cell) (t u : Tape) → Agree (other_than c) t u → written t c (u c) ≡ u
unfolding written
filled_in c t u h = fun_ext (λ d. go d (same_cell d c) refl)
  where
    go : (d : Cell) (b : Bool) → same_cell d c ≡ b → cond b (u c) (t d) ≡ u d
    go d true e = ap u (sym (same_cell_exact d c e))
    go d false e = h d (ap not e)

pub reads_others : (c : Cell) (p : Tape → Bool) → Ignores p c → Reads (other_than c) p
reads_others c p h t u k = sym (h t (u c)) ∙ ap p (filled_in c t u k)

pub count_ignored : (c : Cell × ℕ) (cs : List (Cell × ℕ)) (p : Tape → Bool) (t : Tape) → Ignores p c.0 → count (c ∷ cs) p t ≡ c.1 * count cs p t
count_ignored c cs p t h = count_unread (other_than c.0) p c cs t (reads_others c.0 p h) (ap not (same_cell_refl c.0))

-- what the cell holds at the start does not matter
pub count_started : (c : Cell) (cs : List (Cell × ℕ)) (p : Tape → Bool) (t : Tape) (v : ℕ) → Ignores p c → count cs p (written t c v) ≡ count cs p t
count_started c cs p t v h = count_agree (other_than c) p (reads_others c p h) cs (written t c v) t (λ d k. written_apart t c v d (unnot (same_cell d c) k))
  where
    unnot : (b : Bool) → not b ≡ true → b ≡ false
    unnot true e = sym e
    unnot false e = refl

pub total_more : (c : Cell × ℕ) (cs : List (Cell × ℕ)) → total (c ∷ cs) ≡ c.1 * total cs
unfolding total
total_more c cs = refl

pub chance_ignored : (c : Cell × ℕ) (cs : List (Cell × ℕ)) (p : Tape → Bool) → Ignores p c.0 → Same (chance (c ∷ cs) p) (chance cs p)
chance_ignored c cs p h = rw (count_ignored c cs p blank h, total_more c cs) (omega arith)
