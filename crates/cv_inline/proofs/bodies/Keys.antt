-- The key of another call, read at the indices of a branch.
use Rattle.std.proofs.Common.{◌≡◌, ℕ, suc, ◌+◌, ◌<◌, ◌≤◌, Bool, true, false, cond, ◌||◌, ◌&&◌, not, ◌==◌, List, [], ◌∷◌, ◌⊎◌, inl, inr, Some, None, refl, sym, ap, ap₂, subst, ◌∙◌, map, filter, length, is_some, eq-eqb, eqb-true, nat_lt, arith}
use Rattle.std.proofs.lemmas.Bool.{both_ways, and_parts}
use Rattle.std.specs.List.{AllByRecursion}
use Rattle.cv_syntax_trees.specs.declared.head.Head.TheVariants.{Leaf, Read, Cons}
use Rattle.cv_syntax_trees.specs.Tree.{Tree, Empty, Node, lone, binders, binds, same_tree}
use Rattle.cv_meaning.specs.Interpretation.{Setting}
use Rattle.cv_meaning.specs.Memory.{Store, Indices, tuple, put}
use Rattle.cv_meaning.specs.Terms.{or_zero, found_in, leaf_value_from, leaf_value, value, values}
use Rattle.cv_meaning.specs.Binders.{fits, bound_to}
use Rattle.cv_meaning.specs.Candidates.{is_assigned, are_assigned}
use Rattle.cv_meaning_laws.specs.Agreement.{AgreeOn}
use Rattle.cv_inline.proofs.bodies.Stores.{bound_agree}
use Rattle.cv_meaning.specs.contexts.Sites.{is_below}
use Rattle.cv_meaning.specs.contexts.Inlined.{read_at, index_terms, moved_leaf, moved, needed, each_once, is_index_of, branch_indices, index_moves, index_reads, cells_then}
use Rattle.cv_inline.specs.bodies.Inlining.{Inlining}
use Rattle.cv_meaning.specs.contexts.KeyTerms.{IsFineKeyTerm, AreFineKeyTerms}
use Rattle.cv_inline.specs.bodies.Related.{indices_at}
use Rattle.cv_inline.proofs.bodies.Terms.{read_value}
use Rattle.cv_syntax_trees.proofs.lists.Each.{AllByRecursion_append}
use Rattle.cv_meaning_laws.proofs.Counts.{same_tuple_refl}

-- names of the indices of a branch
pub record AreNames (drawn : ℕ → Bool) (name : ℕ → ℕ) (count : ℕ) : Type 0 where
  pub apart : (i j : ℕ) → i < count → j < count → (name i == name j) ≡ (i == j)
  pub are_drawn : (j : ℕ) → j < count → drawn (name j) ≡ true

module _ (p : Inlining) (name : ℕ → ℕ) (count : ℕ) (names : AreNames p.drawn name count) where
  later : (j k : ℕ) (rs : List (ℕ × ℕ)) → j < k → k + length rs ≤ count → binds (binders (branch_indices name k rs)) (name j) ≡ false
  unfolding binds
  later j k [] l c = refl
  later j k (r ∷ rs) l c = ap₂ ◌||◌ (names.apart j k (omega arith) (omega arith) ∙ ne) (later j (suc k) rs (omega arith) (omega arith))
    where
      ne : (j == k) ≡ false
      ne = go (j == k) refl
        where
          go : (b : Bool) → (j == k) ≡ b → b ≡ false
          go true q = let e : j ≡ k = eqb-true j k q in absurd (omega arith)
          go false q = refl

  -- an index of a branch has its value
  index_value : (k v : ℕ) (rs : List (ℕ × ℕ)) (w : List ℕ) (n : Store) → suc k + length rs ≤ count → value p.g p.at (bound_to (put n (name k) (tuple p.at) v) (tuple p.at) (binders (branch_indices name (suc k) rs)) w) (read_at (name k) (index_terms p.c.replications)) ≡ v
  unfolding put
  index_value k v rs w n c =
      let m : Store = bound_to (put n (name k) (tuple p.at) v) (tuple p.at) (binders (branch_indices name (suc k) rs)) w in
      read_value p (name k) (names.are_drawn k (omega arith)) (index_terms p.c.replications) m
      ∙ ap (λ u. or_zero (m (name k) u)) (p.here m)
      ∙ ap or_zero (sym (bound_agree (put n (name k) (tuple p.at) v) (tuple p.at) (binders (branch_indices name (suc k) rs)) w (λ y. name k == y) (λ y e. ap (binds (binders (branch_indices name (suc k) rs))) (sym (eqb-true (name k) y e)) ∙ later k (suc k) rs (omega arith) c) (name k) (tuple p.at) (eq-eqb (name k) (name k) refl)))
      ∙ ap₂ (λ b q. or_zero (cond (b && q) (Some v) (n (name k) (tuple p.at)))) (eq-eqb (name k) (name k) refl) (same_tuple_refl (tuple p.at))

  abbrev pub MovesTo : Store → List (ℕ × Tree) → Indices → Type 0
  MovesTo m [] [] = Unit {0}
  MovesTo m (x ∷ xs) (i ∷ is) = (x.0 ≡ i.0) × (value p.g p.at m x.1 ≡ i.1) × MovesTo m xs is
  MovesTo m _ _ = ⊥

  pub moves_to : (parameter : ℕ → ℕ) (rs : List (ℕ × ℕ)) (w : List ℕ) (k : ℕ) (n : Store) → k + length rs ≤ count → fits parameter (binders (branch_indices name k rs)) w ≡ true
      → MovesTo (bound_to n (tuple p.at) (binders (branch_indices name k rs)) w) (index_moves (index_terms p.c.replications) name k rs) (indices_at rs w)
  unfolding bound_to
  moves_to s [] [] k n c f = tt
  moves_to s [] (v ∷ w) k n c f = absurd (both_ways _ refl f)
  moves_to s (r ∷ rs) [] k n c f = absurd (both_ways _ refl f)
  moves_to s (r ∷ rs) (v ∷ w) k n c f = (refl, index_value k v rs w n (omega arith), moves_to s rs w (suc k) (put n (name k) (tuple p.at) v) (omega arith) (and_parts (nat_lt v (s r.1)) _ f).1)

  pub index_tuple : (parameter : ℕ → ℕ) (rs : List (ℕ × ℕ)) (w : List ℕ) (k : ℕ) (n : Store) → k + length rs ≤ count → fits parameter (binders (branch_indices name k rs)) w ≡ true
      → values p.g p.at (bound_to n (tuple p.at) (binders (branch_indices name k rs)) w) (index_reads (index_terms p.c.replications) name k rs) ≡ w
  unfolding bound_to value
  index_tuple s [] [] k n c f = refl
  index_tuple s [] (v ∷ w) k n c f = absurd (both_ways _ refl f)
  index_tuple s (r ∷ rs) [] k n c f = absurd (both_ways _ refl f)
  index_tuple s (r ∷ rs) (v ∷ w) k n c f = ap₂ ◌∷◌ (index_value k v rs w n (omega arith)) (index_tuple s rs w (suc k) (put n (name k) (tuple p.at) v) (omega arith) (and_parts (nat_lt v (s r.1)) _ f).1)

  pub fits_length : (parameter : ℕ → ℕ) (rs : List (ℕ × ℕ)) (w : List ℕ) (k : ℕ) → fits parameter (binders (branch_indices name k rs)) w ≡ true → length w ≡ length rs
  fits_length s [] [] k f = refl
  fits_length s [] (v ∷ w) k f = absurd (both_ways _ refl f)
  fits_length s (r ∷ rs) [] k f = absurd (both_ways _ refl f)
  fits_length s (r ∷ rs) (v ∷ w) k f = ap suc (fits_length s rs w (suc k) (and_parts (nat_lt v (s r.1)) _ f).1)

  -- a term of a key of a site, moved
  module _ (plain : ℕ → Bool) (apart : (x : ℕ) → plain x ≡ true → found_in p.at x ≡ None) (rs : List (ℕ × ℕ)) (own : (x : ℕ) → plain x ≡ true → is_index_of rs x ≡ false) (n m : Store) (same : AgreeOn plain n m) where
    name_found : (ms : List (ℕ × Tree)) (is : Indices) (w : List ℕ) (rs' : List (ℕ × ℕ)) → is ≡ indices_at rs' w → length w ≡ length rs' → MovesTo m ms is → (x : ℕ) → is_index_of rs' x ≡ true → value p.g p.at m (moved_leaf ms x) ≡ leaf_value p.g is n x
    name_found ms is w [] e l h x i = absurd (both_ways _ refl i)
    name_found ms is [] (r ∷ rs') e l h x i = absurd (omega arith)
    name_found [] is (v ∷ w) (r ∷ rs') e l h x i = absurd (subst (MovesTo m []) e h)
    name_found (y ∷ ms) is (v ∷ w) (r ∷ rs') e l h x i =
        let h' : MovesTo m (y ∷ ms) ((r.0, v) ∷ indices_at rs' w) = subst (MovesTo m (y ∷ ms)) e h in
        subst (λ is. value p.g p.at m (moved_leaf (y ∷ ms) x) ≡ leaf_value p.g is n x) (sym e)
        (subst (λ z. value p.g p.at m (cond (z == x) y.1 (moved_leaf ms x)) ≡ leaf_value_from p.g n x (cond (r.0 == x) (Some v) (found_in (indices_at rs' w) x))) (sym h'.0)
        (go (r.0 == x) refl i h'.1 (name_found ms (indices_at rs' w) w rs' refl (omega arith) h'.2 x)))
      where
        go : (b : Bool) → (r.0 == x) ≡ b → (b || is_index_of rs' x) ≡ true → value p.g p.at m y.1 ≡ v → (is_index_of rs' x ≡ true → value p.g p.at m (moved_leaf ms x) ≡ leaf_value p.g (indices_at rs' w) n x)
            → value p.g p.at m (cond b y.1 (moved_leaf ms x)) ≡ leaf_value_from p.g n x (cond b (Some v) (found_in (indices_at rs' w) x))
        go true q i z f = z
        go false q i z f = f i

    not_moved : (ms : List (ℕ × Tree)) (is : Indices) (w : List ℕ) (rs' : List (ℕ × ℕ)) → is ≡ indices_at rs' w → MovesTo m ms is → (x : ℕ) → is_index_of rs' x ≡ false → (moved_leaf ms x ≡ lone (Leaf x)) × (found_in is x ≡ None)
    not_moved [] is w [] e h x i = (refl, ap (λ is. found_in is x) e)
    not_moved (y ∷ ms) is w [] e h x i = absurd (subst (MovesTo m (y ∷ ms)) e h)
    not_moved [] is [] (r ∷ rs') e h x i = (refl, ap (λ is. found_in is x) e)
    not_moved (y ∷ ms) is [] (r ∷ rs') e h x i = absurd (subst (MovesTo m (y ∷ ms)) e h)
    not_moved [] is (v ∷ w) (r ∷ rs') e h x i = absurd (subst (MovesTo m []) e h)
    not_moved (y ∷ ms) is (v ∷ w) (r ∷ rs') e h x i =
        let h' : MovesTo m (y ∷ ms) ((r.0, v) ∷ indices_at rs' w) = subst (MovesTo m (y ∷ ms)) e h in
        let q = go (r.0 == x) refl i (not_moved ms (indices_at rs' w) w rs' refl h'.2 x) in
        (ap (λ z. cond (z == x) y.1 (moved_leaf ms x)) h'.0 ∙ q.0, ap (λ is. found_in is x) e ∙ q.1)
      where
        go : (b : Bool) → (r.0 == x) ≡ b → (b || is_index_of rs' x) ≡ false → (is_index_of rs' x ≡ false → (moved_leaf ms x ≡ lone (Leaf x)) × (found_in (indices_at rs' w) x ≡ None))
            → (cond b y.1 (moved_leaf ms x) ≡ lone (Leaf x)) × (cond b (Some v) (found_in (indices_at rs' w) x) ≡ None)
        go true q i f = absurd (both_ways _ i refl)
        go false q i f = f i

    module _ (ms : List (ℕ × Tree)) (w : List ℕ) (l : length w ≡ length rs) (to : MovesTo m ms (indices_at rs w)) where
      leaf_moved : (x : ℕ) → (is_index_of rs x ≡ true) ⊎ (plain x ≡ true) → value p.g p.at m (moved_leaf ms x) ≡ leaf_value p.g (indices_at rs w) n x
      unfolding value
      leaf_moved x (inl i) = name_found ms (indices_at rs w) w rs refl l to x i
      leaf_moved x (inr e) =
          let q = not_moved ms (indices_at rs w) w rs refl to x (own x e) in
          ap (value p.g p.at m) q.0 ∙ ap (leaf_value_from p.g m x) (apart x e) ∙ ap (λ o. cond (p.g.is_constant x) (p.g.interpretation.table x []) (or_zero o)) (sym (same x [] e)) ∙ sym (ap (leaf_value_from p.g n x) q.1)

      mutual
        unfolding value moved IsFineKeyTerm AreFineKeyTerms

        pub term_moved : (t : Tree) → IsFineKeyTerm (is_index_of rs) plain t → value p.g p.at m (moved ms t) ≡ value p.g (indices_at rs w) n t
        term_moved Empty f = refl
        term_moved (Node (Leaf x) a b) f = leaf_moved x f
        term_moved (Node (Read x) a b) f = ap or_zero (sym (same x _ f.0) ∙ ap (n x) (terms_moved a f.1))
        term_moved (Node h a b) f = absurd f

        pub terms_moved : (t : Tree) → AreFineKeyTerms (is_index_of rs) plain t → values p.g p.at m (moved ms t) ≡ values p.g (indices_at rs w) n t
        terms_moved Empty f = refl
        terms_moved (Node Cons a b) f = ap₂ ◌∷◌ (term_moved a f.0) (terms_moved b f.1)
        terms_moved (Node h a b) f = absurd f

      -- the reads that a key needs

      abbrev ReadFine : Tree → Type 0
      ReadFine (Node (Leaf x) a b) = plain x ≡ true
      ReadFine (Node (Read x) a b) = (plain x ≡ true) × AreFineKeyTerms (is_index_of rs) plain a
      ReadFine r = ⊥

      read_moved : (r : Tree) → ReadFine r → is_assigned p.g p.at n m (moved ms r) ≡ is_assigned p.g (indices_at rs w) n n r
      unfolding moved
      read_moved (Node (Leaf x) a b) f = ap (is_assigned p.g p.at n m) (not_moved ms (indices_at rs w) w rs refl to x (own x f)).0
      read_moved (Node (Read x) a b) f = ap (λ u. is_some (n x u)) (terms_moved a f.1)
      read_moved Empty f = absurd f
      read_moved (Node h a b) f = absurd f

      mutual
        unfolding needed IsFineKeyTerm AreFineKeyTerms

        needed_fine : (t : Tree) → IsFineKeyTerm (is_index_of rs) plain t → AllByRecursion ReadFine (needed (is_index_of rs) t)
        needed_fine Empty f = tt
        needed_fine (Node (Leaf x) a b) f = go (is_index_of rs x) refl f
          where
            go : (b : Bool) → is_index_of rs x ≡ b → (is_index_of rs x ≡ true) ⊎ (plain x ≡ true) → AllByRecursion ReadFine (cond b [] (lone (Leaf x) ∷ []))
            go true q f = tt
            go false q (inl f) = absurd (both_ways _ q f)
            go false q (inr f) = (f, tt)
        needed_fine (Node (Read x) a b) f = AllByRecursion_append ReadFine (needed (is_index_of rs) a) (Node (Read x) a Empty ∷ []) (all_needed_fine a f.1) ((f.0, f.1), tt)
        needed_fine (Node h a b) f = absurd f

        all_needed_fine : (t : Tree) → AreFineKeyTerms (is_index_of rs) plain t → AllByRecursion ReadFine (needed (is_index_of rs) t)
        all_needed_fine Empty f = tt
        all_needed_fine (Node Cons a b) f = AllByRecursion_append ReadFine (needed (is_index_of rs) a) (needed (is_index_of rs) b) (needed_fine a f.0) (all_needed_fine b f.1)
        all_needed_fine (Node h a b) f = absurd f

      filtered : {A : Type 0} (P : A → Type 0) (q : A → Bool) (xs : List A) → AllByRecursion P xs → AllByRecursion P (filter q xs)
      filtered P q [] h = tt
      filtered P q (x ∷ xs) h = go (q x) (filtered P q xs h.1)
        where
          go : (b : Bool) → AllByRecursion P (filter q xs) → AllByRecursion P (cond b (x ∷ filter q xs) (filter q xs))
          go true k = (h.0, k)
          go false k = k

      once : (P : Tree → Type 0) (ts : List Tree) → AllByRecursion P ts → AllByRecursion P (each_once ts)
      once P [] h = tt
      once P (t ∷ ts) h = (h.0, filtered P (λ r. not (same_tree r t)) (each_once ts) (once P ts h.1))

      -- where the reads that the key needs are assigned at the site's call, the list comes to the cells behind them
      pub key_cells : (t cells : Tree) → AreFineKeyTerms (is_index_of rs) plain t → AllByRecursion (λ r. is_assigned p.g (indices_at rs w) n n r ≡ true) (needed (is_index_of rs) t)
          → are_assigned p.g p.at n m (cells_then (map (moved ms) (each_once (needed (is_index_of rs) t))) cells) ≡ are_assigned p.g p.at n m cells
      key_cells t cells f h = go (each_once (needed (is_index_of rs) t)) (once ReadFine (needed (is_index_of rs) t) (all_needed_fine t f)) (once (λ r. is_assigned p.g (indices_at rs w) n n r ≡ true) (needed (is_index_of rs) t) h)
        where
          go : (ts : List Tree) → AllByRecursion ReadFine ts → AllByRecursion (λ r. is_assigned p.g (indices_at rs w) n n r ≡ true) ts → are_assigned p.g p.at n m (cells_then (map (moved ms) ts) cells) ≡ are_assigned p.g p.at n m cells
          go [] k h = refl
          go (t ∷ ts) k h = ap (λ b. elim b [ true ↦ are_assigned p.g p.at n m (cells_then (map (moved ms) ts) cells) | false ↦ false ]) (read_moved t k.0 ∙ h.0) ∙ go ts k.1 h.1

-- a branch's indices fit exactly where the tuple is below the bounds of its site
pub fits_below : (parameter : ℕ → ℕ) (name : ℕ → ℕ) (w : List ℕ) (k : ℕ) (rs : List (ℕ × ℕ)) → fits parameter (binders (branch_indices name k rs)) w ≡ is_below w (map (λ (r : ℕ × ℕ). parameter r.1) rs)
fits_below s name [] k [] = refl
fits_below s name (v ∷ w) k [] = refl
fits_below s name [] k (r ∷ rs) = refl
fits_below s name (v ∷ w) k (r ∷ rs) = ap (λ b. nat_lt v (s r.1) && b) (fits_below s name w (suc k) rs)

-- cells behind an unassigned one, or behind some that are not assigned
pub cells_behind : (g : Setting) (at : Indices) (m n : Store) (ts : List Tree) (cells : Tree) → are_assigned g at m n cells ≡ false → are_assigned g at m n (cells_then ts cells) ≡ false
cells_behind g at m n [] cells e = e
cells_behind g at m n (t ∷ ts) cells e = go (is_assigned g at m n t) (cells_behind g at m n ts cells e)
  where
    go : (b : Bool) → are_assigned g at m n (cells_then ts cells) ≡ false → (elim b [ true ↦ are_assigned g at m n (cells_then ts cells) | false ↦ false ]) ≡ false
    go true q = q
    go false q = refl
