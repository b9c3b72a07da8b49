-- Counts and chances along maps of tapes.
use Rattle.std.proofs.Common.{◌≡◌, ℕ, ◌+◌, ◌≤◌, Bool, true, not, List, refl, sym, ap, ap₂, ◌∙◌, arith, mul-le-mul_right}
use Rattle.cv_meaning.specs.Tapes.{Cell, Tape, cells_of, blank, count, total}
use Rattle.cv_meaning.specs.Chances.{chance, AtMost}
use Rattle.cv_meaning_laws.proofs.Counts.{count_true}
use Rattle.cv_meaning_laws.specs.adequacy.Counted.{tapes_of}
use Rattle.cv_meaning_laws.proofs.adequacy.Counting.{count_is}
use Rattle.cv_meaning_chances.specs.Tests.{HasDistinctCells, IsWithin}
use Rattle.cv_meaning_chances.proofs.Within.{count_cases}
use Rattle.cv_meaning_runs.specs.Agreement.{AgreeAt}
use Rattle.cv_meaning_chances.specs.maps.Maps.{IsInjection, LooksOnlyAt}
use Rattle.cv_meaning_chances.proofs.maps.Pairing.{count_paired}
use Rattle.cv_meaning_chances.proofs.maps.ListedTapes.{agree_flip, agree_on, within_listed, ordered_in, Apart, apart_listed, copied, copied_listed, copied_agrees}

-- one to one maps

pub unchanged : (cs : List (Cell × ℕ)) → IsInjection cs cs (λ t. t)
unchanged cs = record { within = λ t w. w; one_to_one = λ t u w v h. h }

pub composed : (cs ds es : List (Cell × ℕ)) (f g : Tape → Tape) → IsInjection cs ds f → IsInjection ds es g → IsInjection cs es (λ t. g (f t))
composed cs ds es f g i j =
    record {
      within = λ t w. j.within (f t) (i.within t w);
      one_to_one = λ t u w v h. i.one_to_one t u w v (j.one_to_one (f t) (f u) (i.within t w) (i.within u v) h);
    }

pub undone : (cs ds : List (Cell × ℕ)) (f back : Tape → Tape) → ((t : Tape) → IsWithin cs t → IsWithin ds (f t)) → ((t : Tape) → IsWithin cs t → AgreeAt (cells_of cs) t (back (f t)))
    → ((t u : Tape) → AgreeAt (cells_of ds) t u → AgreeAt (cells_of cs) (back t) (back u)) → IsInjection cs ds f
undone cs ds f back within undoes agree =
    record {
      within = within;
      one_to_one = λ t u w v h.
          agree_on (cells_of cs) t (back (f t)) u (undoes t w)
          (agree_on (cells_of cs) (back (f t)) (back (f u)) u (agree (f t) (f u) h) (agree_flip (cells_of cs) u (back (f u)) (undoes u v)));
    }

-- counts

pub count_along : (cs ds : List (Cell × ℕ)) (f : Tape → Tape) (q p : Tape → Bool) (t s : Tape) → HasDistinctCells cs → IsInjection cs ds f → LooksOnlyAt ds p
    → ((u : Tape) → IsWithin cs u → q u ≡ true → p (f u) ≡ true) → count cs q t ≤ count ds p s
count_along cs ds f q p t s x i looks h =
    rw (count_is cs q t, count_is ds p s)
    (count_paired q p (λ u v. AgreeAt (cells_of ds) (f u) v) (tapes_of cs t) (tapes_of ds s)
    (ordered_in (Apart cs) (λ u v. (w : Tape) → AgreeAt (cells_of ds) (f u) w → AgreeAt (cells_of ds) (f v) w → ⊥) (tapes_of cs t)
    (λ u v k l apart w a b. apart (i.one_to_one u v (within_listed cs t u x k) (within_listed cs t v x l) (agree_on (cells_of ds) (f u) w (f v) a (agree_flip (cells_of ds) (f v) w b))))
    (apart_listed cs t x))
    (λ u k e.
    let w = within_listed cs t u x k in
    let a = copied_agrees ds (f u) s in
    (copied ds (f u) s, copied_listed ds (f u) s (i.within u w), sym (looks (f u) (copied ds (f u) s) (i.within u w) a) ∙ h u w e, a)))

pub total_along : (cs ds : List (Cell × ℕ)) (f : Tape → Tape) → HasDistinctCells cs → IsInjection cs ds f → total cs ≤ total ds
total_along cs ds f x i =
    let a = count_along cs ds f (λ u. true) (λ u. true) blank blank x i (λ t u w h. refl) (λ u w e. refl) in
    omega (arith, count_true cs blank, count_true ds blank)

with_complement : (cs : List (Cell × ℕ)) (p : Tape → Bool) (t : Tape) → count cs p t + count cs (λ u. not (p u)) t ≡ total cs
with_complement cs p t = count_cases cs (λ u. true) p t ∙ count_true cs t

pub count_same_along : (cs ds : List (Cell × ℕ)) (f : Tape → Tape) (q p : Tape → Bool) (t s : Tape) → HasDistinctCells cs → IsInjection cs ds f → LooksOnlyAt ds p → total cs ≡ total ds
    → ((u : Tape) → IsWithin cs u → q u ≡ p (f u)) → count cs q t ≡ count ds p s
count_same_along cs ds f q p t s x i looks all h =
    let a = count_along cs ds f q p t s x i looks (λ u w e. sym (h u w) ∙ e) in
    let b = count_along cs ds f (λ u. not (q u)) (λ u. not (p u)) t s x i (λ u v w k. ap not (looks u v w k)) (λ u w e. sym (ap not (h u w)) ∙ e) in
    let c = with_complement cs q t in
    let d = with_complement ds p s in
    omega arith

-- chances

pub chance_along : (cs ds : List (Cell × ℕ)) (f : Tape → Tape) (q p : Tape → Bool) → HasDistinctCells cs → IsInjection cs ds f → LooksOnlyAt ds p → total cs ≡ total ds
    → ((u : Tape) → IsWithin cs u → q u ≡ true → p (f u) ≡ true) → AtMost (chance cs q) (chance ds p)
chance_along cs ds f q p x i looks all h = rw (← all) (mul-le-mul_right (total cs) (count_along cs ds f q p blank blank x i looks h))

pub chance_same_along : (cs ds : List (Cell × ℕ)) (f : Tape → Tape) (q p : Tape → Bool) → HasDistinctCells cs → IsInjection cs ds f → LooksOnlyAt ds p → total cs ≡ total ds
    → ((u : Tape) → IsWithin cs u → q u ≡ p (f u)) → chance cs q ≡ chance ds p
chance_same_along cs ds f q p x i looks all h = ap₂ (λ m n. record { good = m; all = n }) (count_same_along cs ds f q p blank blank x i looks all h) all
