-- The tuples below bounds are listed once.
use Rattle.std.proofs.Common.{◌≡◌, ℕ, zero, suc, ◌<◌, ◌≤◌, ◌&&◌, ◌==◌, Bool, true, false, List, [], ◌∷◌, ◌++◌, flat_map, map, refl, sym, ap, subst, ◌∙◌, append_assoc, append-nil, arith}
use Rattle.std.specs.List.{AllByRecursion, IsDistinct}
use Rattle.cv_syntax_trees.proofs.lists.Each.{AllByRecursion_append, AllByRecursion_flat_map, AllByRecursion_map}
use Rattle.cv_syntax_trees.proofs.lists.Tests.{differs}
use Rattle.cv_meaning.specs.Candidates.{below}
use Rattle.cv_meaning.specs.Cells.{tuples_below}
use Rattle.cv_meaning.specs.Tapes.{New_at, same_cell, same_tuple}

-- two lists without common elements
distinct_both : {A : Type 0} (p : A → A → Bool) (xs ys : List A) → IsDistinct p xs → IsDistinct p ys → AllByRecursion (λ x. AllByRecursion (λ y. p x y ≡ false) ys) xs → IsDistinct p (xs ++ ys)
unfolding IsDistinct
distinct_both p [] ys d e h = e
distinct_both p (x ∷ xs) ys d e h = (AllByRecursion_append (λ y. p x y ≡ false) xs ys d.0 h.0, distinct_both p xs ys d.1 e h.1)

-- with one element before each
distinct_after : (v : ℕ) (ts : List (List ℕ)) → IsDistinct same_tuple ts → IsDistinct same_tuple (map (λ u. v ∷ u) ts)
unfolding IsDistinct
distinct_after v [] d = tt
distinct_after v (t ∷ ts) d = (each ts d.0, distinct_after v ts d.1)
  where
    each : (us : List (List ℕ)) → AllByRecursion (λ u. same_tuple t u ≡ false) us → AllByRecursion (λ u. same_tuple (v ∷ t) u ≡ false) (map (λ u. v ∷ u) us)
    each [] h = tt
    each (u ∷ us) h = (no (v == v) h.0, each us h.1)
      where
        no : (b : Bool) → same_tuple t u ≡ false → (b && same_tuple t u) ≡ false
        no true e = e
        no false e = refl

-- a tuple that begins otherwise
apart_heads : (v w : ℕ) → (v ≡ w → ⊥) → (ts us : List (List ℕ)) → AllByRecursion (λ x. AllByRecursion (λ y. same_tuple x y ≡ false) (map (λ u. w ∷ u) us)) (map (λ u. v ∷ u) ts)
apart_heads v w n ts us = AllByRecursion_map (λ x. AllByRecursion (λ y. same_tuple x y ≡ false) (map (λ u. w ∷ u) us)) (λ u. v ∷ u) (λ t. AllByRecursion_map (λ y. same_tuple (v ∷ t) y ≡ false) (λ u. w ∷ u) (λ u. ap (λ b. b && same_tuple t u) (differs v w n)) us) ts

module _ (ts : List (List ℕ)) where
  abbrev blocks : List ℕ → List (List ℕ)
  blocks vs = flat_map (λ v. map (λ u. v ∷ u) ts) vs

  apart_blocks : (n k : ℕ) → k ≤ n → AllByRecursion (λ x. AllByRecursion (λ y. same_tuple x y ≡ false) (map (λ u. n ∷ u) ts)) (blocks (below k))
  apart_blocks n k l =
      AllByRecursion_flat_map (λ v. v < n) (λ x. AllByRecursion (λ y. same_tuple x y ≡ false) (map (λ u. n ∷ u) ts)) (λ v. map (λ u. v ∷ u) ts)
      (λ v m. apart_heads v n (λ e. let z : v ≡ n = e in omega arith) ts ts) (below k) (all_less k l)
    where
      all_less : (k : ℕ) → k ≤ n → AllByRecursion (λ v. v < n) (below k)
      all_less zero l = tt
      all_less (suc k) l = AllByRecursion_append (λ v. v < n) (below k) (k ∷ []) (all_less k (omega arith)) ((omega arith), tt)

  blocks_more : (vs ws : List ℕ) → blocks (vs ++ ws) ≡ blocks vs ++ blocks ws
  blocks_more [] ws = refl
  blocks_more (v ∷ vs) ws = ap (λ k. map (λ u. v ∷ u) ts ++ k) (blocks_more vs ws) ∙ sym (append_assoc (map (λ u. v ∷ u) ts) (blocks vs) (blocks ws))

  distinct_blocks : IsDistinct same_tuple ts → (n : ℕ) → IsDistinct same_tuple (blocks (below n))
  unfolding IsDistinct
  distinct_blocks d zero = tt
  distinct_blocks d (suc n) =
      subst (IsDistinct same_tuple) (sym (blocks_more (below n) (n ∷ []) ∙ ap (λ k. blocks (below n) ++ k) (append-nil (map (λ u. n ∷ u) ts))))
      (distinct_both same_tuple (blocks (below n)) (map (λ u. n ∷ u) ts) (distinct_blocks d n) (distinct_after n ts d) (apart_blocks n n (omega arith)))

tuples_distinct : (ns : List ℕ) → IsDistinct same_tuple (tuples_below ns)
unfolding tuples_below IsDistinct
tuples_distinct [] = (tt, tt)
tuples_distinct (n ∷ ns) = distinct_blocks (tuples_below ns) (tuples_distinct ns) n

-- so are the cells of a variable's choices
cells_distinct : (x : ℕ) (us : List (List ℕ)) → IsDistinct same_tuple us → IsDistinct same_cell (map (New_at x) us)
unfolding IsDistinct
cells_distinct x [] d = tt
cells_distinct x (u ∷ us) d = (each us d.0, cells_distinct x us d.1)
  where
    each : (ws : List (List ℕ)) → AllByRecursion (λ w. same_tuple u w ≡ false) ws → AllByRecursion (λ c. same_cell (New_at x u) c ≡ false) (map (New_at x) ws)
    each [] h = tt
    each (w ∷ ws) h = (no (x == x) h.0, each ws h.1)
      where
        no : (b : Bool) → same_tuple u w ≡ false → (b && same_tuple u w) ≡ false
        no true e = e
        no false e = refl

pub choices_distinct : (x : ℕ) (ns : List ℕ) → IsDistinct same_cell (map (New_at x) (tuples_below ns))
choices_distinct x ns = cells_distinct x (tuples_below ns) (tuples_distinct ns)
