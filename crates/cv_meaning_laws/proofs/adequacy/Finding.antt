-- The candidates of a find and their sentence.
use Rattle.std.proofs.Common.{◌≡◌, ◌≢◌, ℕ, zero, suc, ◌+◌, ◌<◌, ◌≤◌, Bool, true, false, cond, nat_lt, List, [], ◌∷◌, map, length, ◌⊎◌, inl, inr, Some, refl, sym, ap, subst, ◌∙◌, arith, ltb-true, lt-ltb, eqb-true, eq-eqb}
use Rattle.std.proofs.lemmas.Bool.{both_ways, and_parts, and_from}
use Rattle.std.specs.Prelude.{◌↔◌}
use Rattle.std.specs.List.{AllByRecursion, AllPairs, Contains}
use Rattle.cv_syntax_trees.specs.declared.head.Head.TheVariants.{Leaf, Read, Binder}
use Rattle.cv_syntax_trees.specs.Tree.{Tree, Empty, Node, first, second}
use Rattle.cv_meaning.specs.Interpretation.{Setting}
use Rattle.cv_meaning.specs.Memory.{Store, Indices}
use Rattle.cv_meaning.specs.Terms.{value, is_one}
use Rattle.cv_meaning.specs.Binders.{fits, binder_count, widest_binder}
use Rattle.cv_meaning.specs.Candidates.{Candidate, below, tuples_up_to, is_assigned, are_assigned, is_candidate, candidate, candidates_at, most_indices, widest, candidates}
use Rattle.cv_meaning_laws.proofs.Listed.{Has, has_left, has_right, has_map, has_flat_map}
use Rattle.cv_meaning_laws.specs.adequacy.Finds.{branch_at, AreIndices, IsAssigned, AreAssigned, with_indices, IsCandidate, IsCandidateOf, IsEarlier, IsBefore}
use Rattle.cv_meaning_laws.proofs.adequacy.Lists.{has_append, flat_map_has, map_has, has_below, contains_has, has_contains}
use Rattle.cv_meaning_laws.proofs.adequacy.Ordered.{Ordered, ordered_pairs, ordered_append, ordered_map, ordered_flat_map, ordered_below}

-- the tests of a branch

fits_means : (g : Setting) (bs : Tree) (u : List ℕ) → fits g.interpretation.parameter_value bs u ≡ true → AreIndices g bs u
fits_means g Empty [] h = tt
fits_means g (Node (Binder i n) a b) (v ∷ vs) h = let p = and_parts (nat_lt v _) _ h in (ltb-true v _ p.0, fits_means g b vs p.1)
fits_means g _ _ h = absurd (both_ways _ refl h)

means_fits : (g : Setting) (bs : Tree) (u : List ℕ) → AreIndices g bs u → fits g.interpretation.parameter_value bs u ≡ true
means_fits g Empty [] h = refl
means_fits g (Node (Binder i n) a b) (v ∷ vs) h = and_from (nat_lt v _) _ (lt-ltb v _ h.0) (means_fits g b vs h.1)
means_fits g _ _ h = absurd h

assigned_means : (g : Setting) (at : Indices) (m n : Store) (a : Tree) → is_assigned g at m n a ≡ true → IsAssigned g at m n a
assigned_means g at m n (Node (Leaf x) a b) h = h
assigned_means g at m n (Node (Read x) a b) h = h
assigned_means g at m n _ h = both_ways _ refl h

means_assigned : (g : Setting) (at : Indices) (m n : Store) (a : Tree) → IsAssigned g at m n a → is_assigned g at m n a ≡ true
means_assigned g at m n (Node (Leaf x) a b) h = h
means_assigned g at m n (Node (Read x) a b) h = h
means_assigned g at m n _ h = absurd h

each_assigned_means : (g : Setting) (at : Indices) (m n : Store) (cells : Tree) → are_assigned g at m n cells ≡ true → AreAssigned g at m n cells
each_assigned_means g at m n Empty h = tt
each_assigned_means g at m n (Node k a b) h = go (is_assigned g at m n a) refl h (each_assigned_means g at m n b)
  where
    go : (t : Bool) → is_assigned g at m n a ≡ t → elim t [ true ↦ are_assigned g at m n b | false ↦ false ] ≡ true → (are_assigned g at m n b ≡ true → AreAssigned g at m n b) → AreAssigned g at m n (Node k a b)
    go true x y ih = (assigned_means g at m n a x, ih y)
    go false x y ih = absurd (both_ways _ refl y)

means_each_assigned : (g : Setting) (at : Indices) (m n : Store) (cells : Tree) → AreAssigned g at m n cells → are_assigned g at m n cells ≡ true
means_each_assigned g at m n Empty h = refl
means_each_assigned g at m n (Node k a b) h =
    let x = means_assigned g at m n a h.0 in
    subst (λ t. elim t [ true ↦ are_assigned g at m n b | false ↦ false ] ≡ true) (sym x) (means_each_assigned g at m n b h.1)

-- one branch

record IsThisCandidate (g : Setting) (at : Indices) (m : Store) (u : List ℕ) (k : ℕ) (branch : Tree) (c : Candidate) : Type 0 where
  number : c.branch ≡ k
  tuple_is : c.tuple ≡ u
  is : IsCandidate g at m branch u

candidate_means : (g : Setting) (at : Indices) (m : Store) (u : List ℕ) (k : ℕ) (branch : Tree) (c : Candidate) → Has (candidate g at m u k branch) c → IsThisCandidate g at m u k branch c
candidate_means g at m u k branch c h = fit (fits g.interpretation.parameter_value (first branch) u) refl h
  where
    n : Store
    n = with_indices at m branch u

    this : Candidate
    this = record { branch = k; tuple = u }

    passed : Bool
    passed = is_candidate g at m n (second branch)

    held : AreIndices g (first branch) u → (a : Bool) → are_assigned g at m n (first (second branch)) ≡ a → Has (cond (elim a [ true ↦ is_one (value g at n (first (second (second branch)))) | false ↦ false ]) (this ∷ []) []) c → IsThisCandidate g at m u k branch c
    held i true a x = go (is_one (value g at n (first (second (second branch))))) refl x
      where
        go : (b : Bool) → is_one (value g at n (first (second (second branch)))) ≡ b → Has (cond b (this ∷ []) []) c → IsThisCandidate g at m u k branch c
        go true o (inl e) =
            record {
              number = ap (λ (z : Candidate). z.branch) e;
              tuple_is = ap (λ (z : Candidate). z.tuple) e;
              is = record { indices = i; defined = each_assigned_means g at m n (first (second branch)) a; condition = eqb-true _ 1 o };
            }
        go true o (inr e) = absurd e
        go false o e = absurd e
    held i false a x = absurd x

    fit : (b : Bool) → fits g.interpretation.parameter_value (first branch) u ≡ b → Has (elim b [ true ↦ (cond passed (this ∷ []) []) | false ↦ [] ]) c → IsThisCandidate g at m u k branch c
    fit true f x = held (fits_means g (first branch) u f) (are_assigned g at m n (first (second branch))) refl x
    fit false f x = absurd x

means_candidate : (g : Setting) (at : Indices) (m : Store) (u : List ℕ) (k : ℕ) (branch : Tree) → IsCandidate g at m branch u → Has (candidate g at m u k branch) (record { branch = k; tuple = u })
means_candidate g at m u k branch h =
    subst (λ b. Has (elim b [ true ↦ (cond (is_candidate g at m n (second branch)) (this ∷ []) []) | false ↦ [] ]) this) (sym (means_fits g (first branch) u h.indices))
    (subst (λ b. Has (cond b (this ∷ []) []) this) (sym passes) (inl refl))
  where
    n : Store
    n = with_indices at m branch u

    this : Candidate
    this = record { branch = k; tuple = u }

    passes : is_candidate g at m n (second branch) ≡ true
    passes =
        subst (λ a. elim a [ true ↦ is_one (value g at n (first (second (second branch)))) | false ↦ false ] ≡ true)
        (sym (means_each_assigned g at m n (first (second branch)) h.defined)) (eq-eqb _ 1 h.condition)

candidate_ordered : (g : Setting) (at : Indices) (m : Store) (u : List ℕ) (k : ℕ) (branch : Tree) → Ordered IsBefore (candidate g at m u k branch)
candidate_ordered g at m u k branch = fit (fits g.interpretation.parameter_value (first branch) u) (is_candidate g at m (with_indices at m branch u) (second branch))
  where
    this : Candidate
    this = record { branch = k; tuple = u }

    fit : (a b : Bool) → Ordered IsBefore (elim a [ true ↦ (cond b (this ∷ []) []) | false ↦ [] ])
    fit true true = (λ y i. absurd i, tt)
    fit true false = tt
    fit false b = tt

-- the branches, with one tuple

record IsNumbered (g : Setting) (at : Indices) (m : Store) (u : List ℕ) (k : ℕ) (branches : Tree) (c : Candidate) : Type 0 where
  number : ℕ
  branch : Tree
  stands : branch_at branches number ≡ Some branch
  this : IsThisCandidate g at m u (k + number) branch c

numbered : (g : Setting) (at : Indices) (m : Store) (u : List ℕ) (k : ℕ) (branches : Tree) (c : Candidate) → Has (candidates_at g at m u k branches) c → IsNumbered g at m u k branches c
unfolding candidates_at
numbered g at m u k Empty c h = absurd h
numbered g at m u k (Node x branch more) c h = go (has_append (candidate g at m u k branch) _ c h) (numbered g at m u (suc k) more c)
  where
    go : Has (candidate g at m u k branch) c ⊎ Has (candidates_at g at m u (suc k) more) c → (Has (candidates_at g at m u (suc k) more) c → IsNumbered g at m u (suc k) more c) → IsNumbered g at m u k (Node x branch more) c
    go (inl i) ih =
        let t = candidate_means g at m u k branch c i in
        record { number = zero; branch = branch; stands = refl; this = record { number = omega (arith, t.number); tuple_is = t.tuple_is; is = t.is } }
    go (inr i) ih =
        let r = ih i in
        record { number = suc r.number; branch = r.branch; stands = r.stands; this = record { number = omega (arith, r.this.number); tuple_is = r.this.tuple_is; is = r.this.is } }

number_has : (g : Setting) (at : Indices) (m : Store) (u : List ℕ) (k j l : ℕ) (branches branch : Tree) → l ≡ k + j → branch_at branches j ≡ Some branch → IsCandidate g at m branch u → Has (candidates_at g at m u k branches) (record { branch = l; tuple = u })
unfolding candidates_at
number_has g at m u k j l Empty branch e s h = cc
number_has g at m u k zero l (Node x b more) branch e s h =
    let same : b ≡ branch = cc in
    let here : k ≡ l = omega arith in
    has_left (candidate g at m u k b) _ _ (subst (λ z. Has (candidate g at m u k b) (record { branch = z; tuple = u })) here (means_candidate g at m u k b (subst (λ z. IsCandidate g at m z u) (sym same) h)))
number_has g at m u k (suc j) l (Node x b more) branch e s h = has_right (candidate g at m u k b) _ _ (number_has g at m u (suc k) j l more branch (omega arith) s h)

branches_ordered : (g : Setting) (at : Indices) (m : Store) (u : List ℕ) (k : ℕ) (branches : Tree) → Ordered IsBefore (candidates_at g at m u k branches)
unfolding candidates_at
branches_ordered g at m u k Empty = tt
branches_ordered g at m u k (Node x branch more) =
    ordered_append IsBefore (candidate g at m u k branch) (candidates_at g at m u (suc k) more) (candidate_ordered g at m u k branch) (branches_ordered g at m u (suc k) more)
    (λ c d i j. let s = candidate_means g at m u k branch c i in let r = numbered g at m u (suc k) more d j in inr (s.tuple_is ∙ sym r.this.tuple_is, omega (arith, s.number, r.this.number)))

-- tuples

tuple_has : (d n : ℕ) (u : List ℕ) → length u ≤ d → AllByRecursion (λ v. v < n) u → Has (tuples_up_to d n) u
unfolding tuples_up_to
tuple_has zero n [] l h = inl refl
tuple_has zero n (v ∷ u) l h = absurd (omega arith)
tuple_has (suc d) n [] l h = inl refl
tuple_has (suc d) n (v ∷ u) l h = inr (has_flat_map (λ w. map (λ t. w ∷ t) (tuples_up_to d n)) (below n) v (v ∷ u) (has_below n v h.0) (has_map (λ t. v ∷ t) (tuples_up_to d n) u (tuple_has d n u (omega arith) h.1)))

tuples_ordered : (d n : ℕ) → Ordered IsEarlier (tuples_up_to d n)
unfolding tuples_up_to
tuples_ordered zero n = (λ y i. absurd i, tt)
tuples_ordered (suc d) n = (
  λ u i. let r = flat_map_has (λ w. map (λ t. w ∷ t) (tuples_up_to d n)) (below n) u i in let s = map_has (λ t. r.0 ∷ t) (tuples_up_to d n) u r.2 in subst (IsEarlier []) (sym s.2) tt,
  ordered_flat_map (λ v w. v < w) IsEarlier (λ w. map (λ t. w ∷ t) (tuples_up_to d n))
      (λ w. ordered_map IsEarlier IsEarlier (λ t. w ∷ t) (λ s t e. inr (refl, e)) (tuples_up_to d n) (tuples_ordered d n))
      (λ v w s t l i j. let x = map_has (λ z. v ∷ z) (tuples_up_to d n) s i in let y = map_has (λ z. w ∷ z) (tuples_up_to d n) t j in subst (λ z. IsEarlier z t) (sym x.2) (subst (IsEarlier (v ∷ x.0)) (sym y.2) (inl l)))
      (below n) (ordered_below n),
)

-- the tuples of a branch are among those of the find

as_many : (g : Setting) (bs : Tree) (u : List ℕ) → AreIndices g bs u → length u ≤ binder_count bs
as_many g Empty [] h = omega arith
as_many g (Node (Binder i n) a b) (v ∷ u) h = let r = as_many g b u h.1 in omega arith
as_many g _ _ h = absurd h

each_below : (g : Setting) (bs : Tree) (u : List ℕ) (n : ℕ) → widest_binder g.interpretation.parameter_value bs ≤ n → AreIndices g bs u → AllByRecursion (λ v. v < n) u
each_below g Empty [] n l h = tt
each_below g (Node (Binder i p) a b) (v ∷ u) n l h = let w : v < g.interpretation.parameter_value p = h.0 in (omega arith, each_below g b u n (omega arith) h.1)
each_below g _ _ n l h = absurd h

most_of : (branches branch : Tree) (j : ℕ) → branch_at branches j ≡ Some branch → binder_count (first branch) ≤ most_indices branches
most_of Empty branch j s = cc
most_of (Node x b more) branch zero s = let same : b ≡ branch = cc in subst (λ z. binder_count (first z) ≤ most_indices (Node x b more)) same (omega arith)
most_of (Node x b more) branch (suc j) s = let r = most_of more branch j s in omega arith

widest_of : (size : ℕ → ℕ) (branches branch : Tree) (j : ℕ) → branch_at branches j ≡ Some branch → widest_binder size (first branch) ≤ widest size branches
widest_of size Empty branch j s = cc
widest_of size (Node x b more) branch zero s = let same : b ≡ branch = cc in subst (λ z. widest_binder size (first z) ≤ widest size (Node x b more)) same (omega arith)
widest_of size (Node x b more) branch (suc j) s = let r = widest_of size more branch j s in omega arith

-- all candidates

pub has_candidate : (g : Setting) (at : Indices) (m : Store) (branches : Tree) (c : Candidate) → Has (candidates g at m branches) c → IsCandidateOf g at m branches c
unfolding candidates
has_candidate g at m branches c h =
    let tuples : List (List ℕ) = tuples_up_to (most_indices branches) (widest g.interpretation.parameter_value branches) in
    let r = flat_map_has (λ u. candidates_at g at m u 0 branches) tuples c h in
    let n = numbered g at m r.0 0 branches c r.2 in
    let at_number : n.number ≡ c.branch = omega (arith, n.this.number) in
    (n.branch, subst (λ k. branch_at branches k ≡ Some n.branch) at_number n.stands, subst (IsCandidate g at m n.branch) (sym n.this.tuple_is) n.this.is)

candidate_has : (g : Setting) (at : Indices) (m : Store) (branches : Tree) (c : Candidate) → IsCandidateOf g at m branches c → Has (candidates g at m branches) c
unfolding candidates
candidate_has g at m branches c (branch, stands, h) =
    let tuples : List (List ℕ) = tuples_up_to (most_indices branches) (widest g.interpretation.parameter_value branches) in
    let few = as_many g (first branch) c.tuple h.indices in
    let most = most_of branches branch c.branch stands in
    has_flat_map (λ u. candidates_at g at m u 0 branches) tuples c.tuple c
    (tuple_has _ _ c.tuple (omega (arith, few, most)) (each_below g (first branch) c.tuple _ (widest_of _ branches branch c.branch stands) h.indices))
    (number_has g at m c.tuple 0 c.branch c.branch branches branch (omega arith) stands h)

pub candidates_mean : (g : Setting) (at : Indices) (m : Store) (branches : Tree) (c : Candidate) → Contains (candidates g at m branches) c ↔ IsCandidateOf g at m branches c
candidates_mean g at m branches c = (λ h. has_candidate g at m branches c (contains_has _ c h), λ h. has_contains _ c (candidate_has g at m branches c h))

all_ordered : (g : Setting) (at : Indices) (m : Store) (branches : Tree) → Ordered IsBefore (candidates g at m branches)
unfolding candidates
all_ordered g at m branches =
    ordered_flat_map IsEarlier IsBefore (λ u. candidates_at g at m u 0 branches) (λ u. branches_ordered g at m u 0 branches)
    (λ u v c d e i j. let r = numbered g at m u 0 branches c i in let s = numbered g at m v 0 branches d j in inl (subst (λ z. IsEarlier z d.tuple) (sym r.this.tuple_is) (subst (IsEarlier u) (sym s.this.tuple_is) e)))
    _ (tuples_ordered (most_indices branches) (widest g.interpretation.parameter_value branches))

pub candidates_ordered : (g : Setting) (at : Indices) (m : Store) (branches : Tree) → AllPairs IsBefore (candidates g at m branches)
candidates_ordered g at m branches = ordered_pairs IsBefore _ (all_ordered g at m branches)

not_itself : (u : List ℕ) → IsEarlier u u → ⊥
not_itself [] h = h
not_itself (x ∷ u) (inl l) = absurd (omega arith)
not_itself (x ∷ u) (inr r) = not_itself u r.1

apart : (c d : Candidate) → IsBefore c d → c ≢ d
apart c d (inl e) same = not_itself d.tuple (subst (λ (z : Candidate). IsEarlier z.tuple d.tuple) same e)
apart c d (inr r) same = let e : c.branch ≡ d.branch = ap (λ (z : Candidate). z.branch) same in absurd (omega (arith, r.1))

pub candidates_once : (g : Setting) (at : Indices) (m : Store) (branches : Tree) → AllPairs (λ c d. c ≢ d) (candidates g at m branches)
candidates_once g at m branches i j d l k = apart _ _ (candidates_ordered g at m branches i j d l k)
