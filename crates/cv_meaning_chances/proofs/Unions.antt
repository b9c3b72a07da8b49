-- Tests of which one holds, and tests that agree where a third does not hold.
use Rattle.std.proofs.Common.{◌≡◌, ℕ, ◌+◌, ◌*◌, ◌≤◌, Bool, true, false, ◌||◌, List, [], ◌∷◌, map, length, sum_by, All, refl, sym, ◌∙◌, arith, le_trans, le_of_eq, mul-le-mul_right}
use Rattle.std.proofs.lemmas.Bool.{or_left, or_right}
use Rattle.std.proofs.lemmas.List.Elements.{recursion_from_All}
use Rattle.std.proofs.lemmas.List.Sums.{sum_by-cons}
use Rattle.std.specs.List.{AllByRecursion, list_any}
use Rattle.cv_meaning.specs.Tapes.{Cell, Tape, blank, count, total}
use Rattle.cv_meaning.specs.Chances.{Chance, chance, AtMost, distance}
use Rattle.cv_meaning_laws.proofs.Counts.{count_or, count_false}
use Rattle.cv_meaning_chances.specs.Tests.{HasDistinctCells, IsWithin}
use Rattle.cv_meaning_chances.specs.Fractions.{plus, sum_of, times}
use Rattle.cv_meaning_chances.proofs.FractionLaws.{least_distance}
use Rattle.cv_meaning_chances.proofs.Within.{count_le_off}

pub count_any : (cs : List (Cell × ℕ)) (ps : List (Tape → Bool)) (t : Tape) → count cs (λ u. list_any (λ p. p u) ps) t ≤ sum_by (λ p. count cs p t) ps
count_any cs [] t = le_of_eq (count_false cs t)
count_any cs (p ∷ ps) t =
    let e = sum_by-cons (λ q. count cs q t) p ps in
    let h = count_or cs p (λ u. list_any (λ q. q u) ps) t in
    let k = count_any cs ps t in
    omega arith

-- o of m tapes is at most a of m and s of n
joined : (o a b m s n : ℕ) → o ≤ a + b → b * n ≤ s * m → o * (m * n) ≤ (a * n + s * m) * m
joined o a b m s n h k = let x = mul-le-mul_right (m * n) h in let y = mul-le-mul_right m k in omega arith

pub chance_any : (cs : List (Cell × ℕ)) (ps : List (Tape → Bool)) → AtMost (chance cs (λ u. list_any (λ p. p u) ps)) (sum_of (map (chance cs) ps))
chance_any cs [] = let e = count_false cs blank in omega arith
chance_any cs (p ∷ ps) =
    let rest : Tape → Bool = λ u. list_any (λ p. p u) ps in
    let sum : Chance = sum_of (map (chance cs) ps) in
    joined _ (count cs p blank) (count cs rest blank) (total cs) sum.good sum.all (count_or cs p rest blank) (chance_any cs ps)

chance_each : (cs : List (Cell × ℕ)) (ps : List (Tape → Bool)) (bound : Chance) → AllByRecursion (λ p. AtMost (chance cs p) bound) ps
    → AtMost (chance cs (λ u. list_any (λ p. p u) ps)) (times (length ps) bound)
chance_each cs [] bound h = rw (count_false cs blank) (omega arith)
chance_each cs (p ∷ ps) bound h =
    let a = mul-le-mul_right bound.all (count_or cs p (λ u. list_any (λ q. q u) ps) blank) in
    let b = h.0 in
    let c = chance_each cs ps bound h.1 in
    omega arith

pub chance_all : (cs : List (Cell × ℕ)) (ps : List (Tape → Bool)) (bound : Chance) → All (λ p. AtMost (chance cs p) bound) ps
    → AtMost (chance cs (λ u. list_any (λ p. p u) ps)) (times (length ps) bound)
chance_all cs ps bound h = chance_each cs ps bound (recursion_from_All (λ p. AtMost (chance cs p) bound) ps h)

pub count_agree_off : (cs : List (Cell × ℕ)) (p q bad : Tape → Bool) (t : Tape) → HasDistinctCells cs
    → ((u : Tape) → IsWithin cs u → bad u ≡ false → p u ≡ true → q u ≡ true) → count cs p t ≤ count cs q t + count cs bad t
count_agree_off cs p q bad t x h = le_trans (count_le_off cs p (λ u. q u || bad u) t x (λ u w off e. either u (bad u) refl w e)) (count_or cs q bad t)
  where
    either : (u : Tape) (b : Bool) → bad u ≡ b → IsWithin cs u → p u ≡ true → (q u || b) ≡ true
    either u true k w e = or_right (q u) true refl
    either u false k w e = or_left (q u) false (h u w k e)

pub chance_agree_off : (cs : List (Cell × ℕ)) (p q bad : Tape → Bool) → HasDistinctCells cs
    → ((u : Tape) → IsWithin cs u → bad u ≡ false → p u ≡ true → q u ≡ true) → AtMost (chance cs p) (plus (chance cs q) (chance cs bad))
chance_agree_off cs p q bad x h =
    let k = mul-le-mul_right (total cs * total cs) (count_agree_off cs p q bad blank x h) in
    omega arith

pub distance_agree_off : (cs : List (Cell × ℕ)) (p q bad : Tape → Bool) → HasDistinctCells cs
    → ((u : Tape) → IsWithin cs u → bad u ≡ false → p u ≡ q u) → AtMost (distance (chance cs p) (chance cs q)) (chance cs bad)
distance_agree_off cs p q bad x h =
    least_distance (chance cs p) (chance cs q) (chance cs bad)
    (chance_agree_off cs p q bad x (λ u w off e. sym (h u w off) ∙ e))
    (chance_agree_off cs q p bad x (λ u w off e. h u w off ∙ e))
