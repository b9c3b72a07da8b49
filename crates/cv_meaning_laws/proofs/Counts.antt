-- Laws of counts.
use Rattle.std.proofs.Common.{◌≡◌, ℕ, zero, suc, ◌+◌, ◌*◌, ◌≤◌, Bool, true, false, cond, ◌||◌, ◌&&◌, List, [], ◌∷◌, refl, sym, ap, ap₂, ◌∙◌, arith, eq-eqb, eqb-true, le_refl, le_trans, add-le-add}
use Rattle.std.proofs.Math.Path.{fun_ext}
use Rattle.std.proofs.lemmas.Bool.{both_ways, and_parts}
use Rattle.cv_meaning.specs.Tapes.{Key_at, Made_at, Picked_at, Cell, New_at, Find_at, Test_at, Coin, same_tuple, same_cell, Tape, written, sum_below, count, total}

-- cells

pub same_tuple_refl : (u : List ℕ) → same_tuple u u ≡ true
same_tuple_refl [] = refl
same_tuple_refl (x ∷ u) = ap₂ ◌&&◌ (eq-eqb x x refl) (same_tuple_refl u)

pub same_tuple_exact : (u v : List ℕ) → same_tuple u v ≡ true → u ≡ v
same_tuple_exact [] [] h = refl
same_tuple_exact (x ∷ u) (y ∷ v) h = let p = and_parts _ _ h in ap₂ ◌∷◌ (eqb-true x y p.0) (same_tuple_exact u v p.1)
same_tuple_exact [] (y ∷ v) h = absurd (both_ways _ refl h)
same_tuple_exact (x ∷ u) [] h = absurd (both_ways _ refl h)

pub same_cell_refl : (c : Cell) → same_cell c c ≡ true
same_cell_refl (New_at x u) = ap₂ ◌&&◌ (eq-eqb x x refl) (same_tuple_refl u)
same_cell_refl (Find_at x u) = ap₂ ◌&&◌ (eq-eqb x x refl) (same_tuple_refl u)
same_cell_refl (Test_at u) = same_tuple_refl u
same_cell_refl (Key_at u) = same_tuple_refl u
same_cell_refl (Made_at x u m) = ap₂ ◌&&◌ (eq-eqb x x refl) (ap₂ ◌&&◌ (eq-eqb m m refl) (same_tuple_refl u))
same_cell_refl (Picked_at x u m) = ap₂ ◌&&◌ (eq-eqb x x refl) (ap₂ ◌&&◌ (eq-eqb m m refl) (same_tuple_refl u))
same_cell_refl (Coin k) = eq-eqb k k refl

pub same_cell_exact : (c d : Cell) → same_cell c d ≡ true → c ≡ d
same_cell_exact (New_at x u) (New_at y v) h = let p = and_parts _ _ h in ap₂ New_at (eqb-true x y p.0) (same_tuple_exact u v p.1)
same_cell_exact (Find_at x u) (Find_at y v) h = let p = and_parts _ _ h in ap₂ Find_at (eqb-true x y p.0) (same_tuple_exact u v p.1)
same_cell_exact (Test_at u) (Test_at v) h = ap Test_at (same_tuple_exact u v h)
same_cell_exact (Key_at u) (Key_at v) h = ap Key_at (same_tuple_exact u v h)
same_cell_exact (Made_at x u m) (Made_at y v n) h = let p = and_parts _ _ h in let r = and_parts _ _ p.1 in λ i. Made_at (eqb-true x y p.0 i) (same_tuple_exact u v r.1 i) (eqb-true m n r.0 i)
same_cell_exact (Picked_at x u m) (Picked_at y v n) h = let p = and_parts _ _ h in let r = and_parts _ _ p.1 in λ i. Picked_at (eqb-true x y p.0 i) (same_tuple_exact u v r.1 i) (eqb-true m n r.0 i)
same_cell_exact (Coin j) (Coin k) h = ap Coin (eqb-true j k h)
same_cell_exact _ _ h = absurd (both_ways _ refl h)

-- sums

pub sum_same : (n : ℕ) (f g : ℕ → ℕ) → ((v : ℕ) → f v ≡ g v) → sum_below n f ≡ sum_below n g
sum_same n f g h = ap (sum_below n) (fun_ext h)

pub sum_le : (n : ℕ) (f g : ℕ → ℕ) → ((v : ℕ) → f v ≤ g v) → sum_below n f ≤ sum_below n g
unfolding sum_below
sum_le zero f g h = le_refl zero
sum_le (suc n) f g h = add-le-add (sum_le n f g h) (h n)

pub sum_constant : (n k : ℕ) → sum_below n (λ v. k) ≡ n * k
unfolding sum_below
sum_constant zero k = omega arith
sum_constant (suc n) k = let e = sum_constant n k in omega arith

pub sum_add : (n : ℕ) (f g : ℕ → ℕ) → sum_below n (λ v. f v + g v) ≡ sum_below n f + sum_below n g
unfolding sum_below
sum_add zero f g = refl
sum_add (suc n) f g = let e = sum_add n f g in omega arith

pub sum_zero : (n : ℕ) → sum_below n (λ v. 0) ≡ 0
sum_zero n = let e = sum_constant n 0 in omega arith

pub sum_swap : (m n : ℕ) (f : ℕ → ℕ → ℕ) → sum_below m (λ v. sum_below n (f v)) ≡ sum_below n (λ w. sum_below m (λ v. f v w))
unfolding sum_below
sum_swap zero n f = sym (sum_zero n)
sum_swap (suc m) n f = ap (λ k. k + sum_below n (f m)) (sum_swap m n f) ∙ sym (sum_add n (λ w. sum_below m (λ v. f v w)) (f m))

-- counts

pub count_same : (cs : List (Cell × ℕ)) (p q : Tape → Bool) (t : Tape) → ((t : Tape) → p t ≡ q t) → count cs p t ≡ count cs q t
count_same cs p q t h = ap (λ r. count cs r t) (fun_ext h)

pub count_true : (cs : List (Cell × ℕ)) (t : Tape) → count cs (λ t. true) t ≡ total cs
unfolding count total
count_true [] t = refl
count_true (c ∷ cs) t = sum_same c.1 _ _ (λ v. count_true cs (written t c.0 v)) ∙ sum_constant c.1 (total cs)

pub count_or : (cs : List (Cell × ℕ)) (p q : Tape → Bool) (t : Tape) → count cs (λ t. p t || q t) t ≤ count cs p t + count cs q t
unfolding count
count_or [] p q t = or_le (p t) (q t)
  where
    or_le : (a b : Bool) → cond (a || b) 1 0 ≤ cond a 1 0 + cond b 1 0
    or_le true true = omega arith
    or_le true false = omega arith
    or_le false true = omega arith
    or_le false false = omega arith
count_or (c ∷ cs) p q t =
    le_trans (sum_le c.1 _ _ (λ v. count_or cs p q (written t c.0 v)))
    (le_of_eq' (sum_add c.1 (λ v. count cs p (written t c.0 v)) (λ v. count cs q (written t c.0 v))))
  where
    le_of_eq' : {a b : ℕ} → a ≡ b → a ≤ b
    le_of_eq' e = omega arith

pub count_le : (cs : List (Cell × ℕ)) (p q : Tape → Bool) (t : Tape) → ((t : Tape) → p t ≡ true → q t ≡ true) → count cs p t ≤ count cs q t
unfolding count
count_le [] p q t h = bits (p t) (q t) (h t)
  where
    bits : (a b : Bool) → (a ≡ true → b ≡ true) → cond a 1 0 ≤ cond b 1 0
    bits true true h = omega arith
    bits true false h = absurd (both_ways _ refl (h refl))
    bits false b h = omega arith
count_le (c ∷ cs) p q t h = sum_le c.1 _ _ (λ v. count_le cs p q (written t c.0 v) h)

-- what a test reads

-- the tapes have the same values at these cells
abbrev pub Agree : (Cell → Bool) → Tape → Tape → Type 0
Agree on t u = (d : Cell) → on d ≡ true → t d ≡ u d

-- the test depends on these cells alone
abbrev pub Reads : (Cell → Bool) → (Tape → Bool) → Type 0
Reads on p = (t u : Tape) → Agree on t u → p t ≡ p u

agree_written : (on : Cell → Bool) (t u : Tape) (c : Cell) (v : ℕ) → Agree on t u → Agree on (written t c v) (written u c v)
unfolding written
agree_written on t u c v h d e = ap (λ k. cond (same_cell d c) v k) (h d e)

agree_off : (on : Cell → Bool) (t : Tape) (c : Cell) (v : ℕ) → on c ≡ false → Agree on (written t c v) t
unfolding written
agree_off on t c v off d e = go (same_cell d c) refl
  where
    go : (b : Bool) → same_cell d c ≡ b → cond b v (t d) ≡ t d
    go true s = absurd (both_ways (on c) off (ap on (sym (same_cell_exact d c s)) ∙ e))
    go false s = refl

pub count_agree : (on : Cell → Bool) (p : Tape → Bool) → Reads on p → (cs : List (Cell × ℕ)) (t u : Tape) → Agree on t u → count cs p t ≡ count cs p u
unfolding count
count_agree on p r [] t u h = ap (λ b. cond b 1 0) (r t u h)
count_agree on p r (c ∷ cs) t u h = sum_same c.1 _ _ (λ v. count_agree on p r cs (written t c.0 v) (written u c.0 v) (agree_written on t u c.0 v h))

-- a cell that the test doesn't read multiplies the count by its size
pub count_unread : (on : Cell → Bool) (p : Tape → Bool) (c : Cell × ℕ) (cs : List (Cell × ℕ)) (t : Tape) → Reads on p → on c.0 ≡ false → count (c ∷ cs) p t ≡ c.1 * count cs p t
unfolding count
count_unread on p c cs t r off = sum_same c.1 _ _ (λ v. count_agree on p r cs (written t c.0 v) t (agree_off on t c.0 v off)) ∙ sum_constant c.1 (count cs p t)

-- the order of cells

written_swap : (t : Tape) (c d : Cell) (v w : ℕ) → same_cell c d ≡ false → written (written t c v) d w ≡ written (written t d w) c v
unfolding written
written_swap t c d v w apart = fun_ext (λ e. go e (same_cell e c) (same_cell e d) refl refl)
  where
    go : (e : Cell) (a b : Bool) → same_cell e c ≡ a → same_cell e d ≡ b → cond b w (cond a v (t e)) ≡ cond a v (cond b w (t e))
    go e true true p q = absurd (both_ways _ apart (ap (λ x. same_cell x d) (sym (same_cell_exact e c p)) ∙ q))
    go e true false p q = refl
    go e false true p q = refl
    go e false false p q = refl

pub count_swap : (c d : Cell × ℕ) (cs : List (Cell × ℕ)) (p : Tape → Bool) (t : Tape) → same_cell c.0 d.0 ≡ false → count (c ∷ d ∷ cs) p t ≡ count (d ∷ c ∷ cs) p t
unfolding count
count_swap c d cs p t apart =
    sum_swap c.1 d.1 (λ v w. count cs p (written (written t c.0 v) d.0 w))
    ∙ sum_same d.1 _ _ (λ w. sum_same c.1 _ _ (λ v. ap (count cs p) (written_swap t c.0 d.0 v w apart)))

pub count_false : (cs : List (Cell × ℕ)) (t : Tape) → count cs (λ t. false) t ≡ 0
unfolding count
count_false [] t = refl
count_false (c ∷ cs) t = sum_same c.1 _ _ (λ v. count_false cs (written t c.0 v)) ∙ sum_zero c.1
