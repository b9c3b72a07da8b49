-- Cells that equal a value, and cells that equal each other.
use Rattle.std.proofs.Common.{◌≡◌, ℕ, zero, suc, ◌+◌, ◌-◌, ◌*◌, ◌≤◌, Bool, true, false, cond, not, ◌&&◌, ◌||◌, eqb, ◌==◌, List, [], ◌∷◌, length, Contains, All, refl, sym, ap, ap₂, ◌∙◌, arith, le_trans, le_of_eq, mul_comm, mul-le-mul_right, eqb-true, ne_eqb}
use Rattle.std.proofs.lemmas.Bool.{both_ways, and_from, and_parts, and_right}
use Rattle.std.proofs.lemmas.List.Elements.{recursion_from_All}
use Rattle.std.proofs.lemmas.Map.Keys.{IsDistinct-head, IsDistinct-tail}
use Rattle.std.specs.List.{AllByRecursion, IsDistinct, list_any}
use Rattle.cv_meaning.specs.Tapes.{Cell, Tape, blank, same_cell, written, sum_below, count, total}
use Rattle.cv_meaning.specs.Chances.{chance, AtMost}
use Rattle.cv_meaning_laws.proofs.Counts.{same_cell_exact, count_le, count_same, sum_same, sum_le, sum_swap, sum_zero, count_or, count_true, count_false}
use Rattle.cv_meaning_chances.specs.Tests.{HasDistinctCells, Ignores, hits_one_of, some_equal}
use Rattle.cv_meaning_chances.specs.Fractions.{one_of, birthday_bound}
use Rattle.cv_meaning_chances.proofs.Within.{count_cases, later_distinct, not_later, written_here, written_apart, count_same_off}
use Rattle.cv_meaning_chances.proofs.CellLists.{distinct_permuted, TakenOut, take_out}
use Rattle.cv_meaning_chances.proofs.UnreadCells.{count_ignored, count_started}
use Rattle.cv_meaning_laws.proofs.Listed.{apart_back}

-- at most one of the values

none_below : (n k : ℕ) → n ≤ k → sum_below n (λ v. cond (v == k) 1 0) ≡ 0
unfolding sum_below
none_below zero k h = refl
none_below (suc n) k h = ap₂ ◌+◌ (none_below n k (omega arith)) (ap (λ b. cond b 1 0) (ne_eqb n k (λ e. omega arith)))

sum_one : (n k : ℕ) → sum_below n (λ v. cond (v == k) 1 0) ≤ 1
unfolding sum_below
sum_one zero k = omega arith
sum_one (suc n) k = at_last (n == k) refl (sum_one n k)
  where
    at_last : (b : Bool) → eqb n k ≡ b → sum_below n (λ v. cond (v == k) 1 0) ≤ 1 → sum_below n (λ v. cond (v == k) 1 0) + cond b 1 0 ≤ 1
    at_last true e h = let z : sum_below n (λ v. cond (v == k) 1 0) ≡ 0 = none_below n k (omega (arith, eqb-true n k e)) in omega arith
    at_last false e h = omega arith

one_value : (n k : ℕ) (b : Bool) → sum_below n (λ v. cond (b && (v == k)) 1 0) ≤ cond b 1 0
one_value n k true = sum_one n k
one_value n k false = le_of_eq (sum_zero n)

-- of tests of which at most one holds at once
sum_of_counts : (cs : List (Cell × ℕ)) (n : ℕ) (p : ℕ → Tape → Bool) (q : Tape → Bool) → ((u : Tape) → sum_below n (λ v. cond (p v u) 1 0) ≤ cond (q u) 1 0)
    → (t : Tape) → sum_below n (λ v. count cs (p v) t) ≤ count cs q t
unfolding count
sum_of_counts [] n p q h t = h t
sum_of_counts (c ∷ cs) n p q h t =
    le_trans (le_of_eq (sum_swap n c.1 (λ v w. count cs (p v) (written t c.0 w))))
    (sum_le c.1 _ _ (λ w. sum_of_counts cs n p q h (written t c.0 w)))

-- a cell and a value

abbrev hits : (Tape → Bool) → Cell → (Tape → ℕ) → Tape → Bool
hits reached c value u = reached u && (u c == value u)

hit_in_front : (c : Cell × ℕ) (cs : List (Cell × ℕ)) (reached : Tape → Bool) (value : Tape → ℕ) (t : Tape) → HasDistinctCells (c ∷ cs) → Ignores reached c.0 → Ignores value c.0
    → count (c ∷ cs) (hits reached c.0 value) t ≤ count cs reached t
unfolding count
hit_in_front c cs reached value t x r i =
    le_trans
    (le_of_eq
    (sum_same c.1 (λ v. count cs (hits reached c.0 value) (written t c.0 v)) (λ v. count cs (λ u. reached u && (v == value u)) t)
    (λ v. count_same_off cs (hits reached c.0 value) (λ u. reached u && (v == value u)) (written t c.0 v) (later_distinct c cs x)
    (λ u w off. ap (λ n. reached u && (n == value u)) (off c.0 (not_later c cs x) ∙ written_here t c.0 v))
    ∙ count_started c.0 cs (λ u. reached u && (v == value u)) t v (λ u w. ap₂ (λ a b. a && (v == b)) (r u w) (i u w)))))
    (sum_of_counts cs c.1 (λ v u. reached u && (v == value u)) reached (λ u. one_value c.1 (value u) (reached u)) t)

pub count_hit : (cs : List (Cell × ℕ)) (c : Cell × ℕ) (reached : Tape → Bool) (value : Tape → ℕ) (t : Tape) → HasDistinctCells cs → Contains cs c → Ignores reached c.0 → Ignores value c.0
    → count cs (λ u. reached u && (u c.0 == value u)) t * c.1 ≤ count cs reached t
count_hit cs c reached value t x m r i =
    let o : TakenOut cs c = take_out cs c x m in
    let front = hit_in_front c o.rest reached value t (distinct_permuted cs (c ∷ o.rest) o.order x) r i in
    le_trans (mul-le-mul_right c.1 (le_trans (le_of_eq (o.counts (hits reached c.0 value) t)) front))
    (le_of_eq (mul_comm (count o.rest reached t) c.1 ∙ sym (count_ignored c o.rest reached t r) ∙ sym (o.counts reached t)))

count_equal : (cs : List (Cell × ℕ)) (c : Cell × ℕ) (value : Tape → ℕ) (t : Tape) → HasDistinctCells cs → Contains cs c → Ignores value c.0 → count cs (λ u. u c.0 == value u) t * c.1 ≤ total cs
count_equal cs c value t x m i = le_trans (count_hit cs c (λ u. true) value t x m (λ u w. refl) i) (le_of_eq (count_true cs t))

pub chance_equal : (cs : List (Cell × ℕ)) (c : Cell × ℕ) (value : Tape → ℕ) → HasDistinctCells cs → Contains cs c → Ignores value c.0 → AtMost (chance cs (λ u. u c.0 == value u)) (one_of c.1)
chance_equal cs c value x m i = let h = count_equal cs c value blank x m i in omega arith

-- a cell that is chosen from several

hit_here : (r f : Bool) (d c : Cell) (u : Tape) (n : ℕ) → (r && ((same_cell d c || f) && (u d == n)) && same_cell d c) ≡ true → (r && same_cell d c && (u c == n)) ≡ true
hit_here r f d c u n e =
    let p = and_parts (r && ((same_cell d c || f) && (u d == n))) (same_cell d c) e in
    let q = and_parts r ((same_cell d c || f) && (u d == n)) p.0 in
    let w = and_parts (same_cell d c || f) (u d == n) q.1 in
    and_from _ _ (and_from _ _ q.0 p.1) (ap (λ z. u z == n) (sym (same_cell_exact d c p.1)) ∙ w.1)

hit_later : (r a f v : Bool) → (r && ((a || f) && v) && not a) ≡ true → (r && not a && (f && v)) ≡ true
hit_later r true f v e = absurd (both_ways _ refl (and_parts (r && v) false e).1)
hit_later r false f v e =
    let q = and_parts r (f && v) (and_parts (r && (f && v)) true e).0 in
    and_from _ _ (and_from r true q.0 refl) q.1

-- neither the test, nor the choice, nor the value looks at the cell
abbrev pub IsUnseen : List (Cell × ℕ) → ℕ → (Tape → Bool) → (Tape → Cell) → (Tape → ℕ) → Cell → Type 0
IsUnseen cs size reached choice value c = Contains cs (c, size) × Ignores reached c × Ignores choice c × Ignores value c

unseen_later : (cs : List (Cell × ℕ)) (size : ℕ) (reached : Tape → Bool) (choice : Tape → Cell) (value : Tape → ℕ) (c : Cell) (ds : List Cell)
    → AllByRecursion (IsUnseen cs size reached choice value) ds → AllByRecursion (IsUnseen cs size (λ u. reached u && not (same_cell (choice u) c)) choice value) ds
unseen_later cs size reached choice value c [] h = tt
unseen_later cs size reached choice value c (d ∷ ds) h =
    ((h.0.0, λ u v. ap₂ (λ a z. a && not (same_cell z c)) (h.0.1 u v) (h.0.2 u v), h.0.2, h.0.3), unseen_later cs size reached choice value c ds h.1)

count_unseen : (cs : List (Cell × ℕ)) (family : List Cell) (size : ℕ) (reached : Tape → Bool) (choice : Tape → Cell) (value : Tape → ℕ) (t : Tape) → HasDistinctCells cs
    → AllByRecursion (IsUnseen cs size reached choice value) family → count cs (λ u. reached u && hits_one_of family (choice u) (value u) u) t * size ≤ count cs reached t
count_unseen cs [] size reached choice value t x h =
    rw (count_same cs (λ u. reached u && false) (λ u. false) t (λ u. and_right (reached u) false refl) ∙ count_false cs t) (omega arith)
count_unseen cs (c ∷ family) size reached choice value t x h =
    let here : Tape → Bool = λ u. same_cell (choice u) c in
    let hit : Tape → Bool = λ u. reached u && hits_one_of (c ∷ family) (choice u) (value u) u in
    let first : Tape → Bool = λ u. reached u && here u in
    let others : Tape → Bool = λ u. reached u && not (here u) in
    let hit_first : Tape → Bool = λ u. first u && (u c == value u) in
    let hit_other : Tape → Bool = λ u. others u && hits_one_of family (choice u) (value u) u in
    let a = count_hit cs (c, size) first value t x h.0.0 (λ u v. ap₂ (λ b z. b && same_cell z c) (h.0.1 u v) (h.0.2 u v)) h.0.3 in
    let b = count_unseen cs family size others choice value t x (unseen_later cs size reached choice value c family h.1) in
    let w = count_cases cs hit here t in
    let p = count_le cs (λ u. hit u && here u) hit_first t (λ u e. hit_here (reached u) (list_any (same_cell (choice u)) family) (choice u) c u (value u) e) in
    let q = count_le cs (λ u. hit u && not (here u)) hit_other t (λ u e. hit_later (reached u) (here u) (list_any (same_cell (choice u)) family) (u (choice u) == value u) e) in
    two_parts size (count cs hit t) (count cs hit_first t) (count cs hit_other t) (count cs first t) (count cs others t) (count cs reached t) (omega arith) a b (count_cases cs reached here t)
  where
    two_parts : (s n a b c d m : ℕ) → n ≤ a + b → a * s ≤ c → b * s ≤ d → c + d ≡ m → n * s ≤ m
    two_parts s n a b c d m h i j k = let z = mul-le-mul_right s h in omega arith

pub count_chosen : (cs : List (Cell × ℕ)) (family : List Cell) (size : ℕ) (reached : Tape → Bool) (choice : Tape → Cell) (value : Tape → ℕ) (t : Tape) → HasDistinctCells cs
    → All (IsUnseen cs size reached choice value) family → count cs (λ u. reached u && hits_one_of family (choice u) (value u) u) t * size ≤ count cs reached t
count_chosen cs family size reached choice value t x h = count_unseen cs family size reached choice value t x (recursion_from_All (IsUnseen cs size reached choice value) family h)

-- two of several cells

one_of_several : (cs : List (Cell × ℕ)) (c : Cell) (size : ℕ) → HasDistinctCells cs → Contains cs (c, size) → (ds : List Cell) → AllByRecursion (λ d. same_cell c d ≡ false) ds
    → count cs (λ u. list_any (λ d. u c == u d) ds) blank * size ≤ length ds * total cs
one_of_several cs c size x m [] h = rw (count_false cs blank) (omega arith)
one_of_several cs c size x m (d ∷ ds) h =
    let a = count_or cs (λ u. u c == u d) (λ u. list_any (λ d. u c == u d) ds) blank in
    let b = count_equal cs (c, size) (λ u. u d) blank x m (λ u w. written_apart u c w d (apart_back c d h.0)) in
    let k = one_of_several cs c size x m ds h.1 in
    let z = mul-le-mul_right size a in
    omega arith

pairs_more : (n : ℕ) → suc n * (suc n - 1) ≡ n * (n - 1) + 2 * n
pairs_more zero = refl
pairs_more (suc n) =
    let e : suc (suc n) - 1 ≡ suc n = omega arith in
    let d : suc n - 1 ≡ n = omega arith in
    rw (e, d) (omega arith)

add_pairs : (n o a b size all y z : ℕ) → z ≡ y + 2 * n → o ≤ a + b → a * size ≤ n * all → b * (2 * size) ≤ y * all → o * (2 * size) ≤ z * all
add_pairs n o a b size all y z e h k m = let i = mul-le-mul_right (2 * size) h in let j = ap (λ x. x * all) e in omega arith

some_pair : (cs : List (Cell × ℕ)) (chosen : List Cell) (size : ℕ) → HasDistinctCells cs → IsDistinct same_cell chosen → AllByRecursion (λ c. Contains cs (c, size)) chosen
    → AtMost (chance cs (some_equal chosen)) (birthday_bound (length chosen) size)
some_pair cs [] size x y h = rw (count_false cs blank) (omega arith)
some_pair cs (c ∷ ds) size x y h =
    add_pairs (length ds) _ (count cs (λ u. list_any (λ d. u c == u d) ds) blank) (count cs (some_equal ds) blank) size (total cs) (length ds * (length ds - 1)) _
    (pairs_more (length ds))
    (count_or cs (λ u. list_any (λ d. u c == u d) ds) (some_equal ds) blank)
    (one_of_several cs c size x h.0 ds (IsDistinct-head same_cell c ds y))
    (some_pair cs ds size x (IsDistinct-tail same_cell c ds y) h.1)

pub chance_some_equal : (cs : List (Cell × ℕ)) (chosen : List Cell) (size : ℕ) → HasDistinctCells cs → IsDistinct same_cell chosen → All (λ c. Contains cs (c, size)) chosen
    → AtMost (chance cs (some_equal chosen)) (birthday_bound (length chosen) size)
chance_some_equal cs chosen size x y h = some_pair cs chosen size x y (recursion_from_All (λ c. Contains cs (c, size)) chosen h)
