-- Stores that agree off some variables, and whose values of these are related cell by cell, give the same values, candidates and
-- answers to `defined` lists, where no value of these is read.
use Rattle.std.proofs.Common.{◌≡◌, ℕ, suc, ◌==◌, ◌&&◌, Bool, true, false, cond, not, List, [], ◌∷◌, ◌++◌, flat_map, Option, Some, is_some, refl, sym, ap, ap₂, subst, ◌∙◌, eqb-true}
use Rattle.std.proofs.Math.Path.{fun_ext}
use Rattle.std.proofs.lemmas.Bool.{both_ways, and_parts, or_parts, not-true}
use Rattle.cv_syntax_trees.specs.declared.head.Head.TheVariants.{Leaf, Read, Binder, Branch, Cons}
use Rattle.cv_syntax_trees.specs.Tree.{Tree, Empty, Node, first}
use Rattle.cv_meaning.specs.Tapes.{same_tuple}
use Rattle.cv_meaning.specs.Interpretation.{Setting}
use Rattle.cv_meaning.specs.Memory.{Store, Indices, put, tuple}
use Rattle.cv_meaning.specs.Terms.{is_one, values}
use Rattle.cv_meaning.specs.Binders.{fits, bound_to}
use Rattle.cv_meaning.specs.Candidates.{Candidate, tuples_up_to, is_assigned, are_assigned, candidate, candidates_at, most_indices, widest, candidates}
use Rattle.cv_meaning_laws.proofs.Counts.{same_tuple_exact}
use Rattle.cv_meaning_runs.specs.Replacement.{Branches}
use Rattle.cv_meaning_chances.specs.unread.Dropping.{reads_none}
use Rattle.cv_meaning_chances.proofs.unread.Unread.{value_same, values_same}
use Rattle.cv_costs.specs.quiet.Quiet.{Kind, IsQuiet, over, in_branch, binds_one, cells_read_none}
use Rattle.cv_costs.specs.quiet.Twins.{AreRelated, Link}

module _ (k : Kind) (K : Link) where
  abbrev xs : ℕ → Bool
  xs = k.unread

  -- stores that are changed at one cell

  pub put_related : (m n : Store) → AreRelated xs K m n → (x : ℕ) (u : List ℕ) (v w : ℕ) → (xs x ≡ false → v ≡ w) → (xs x ≡ true → K x u (Some v) (Some w)) → AreRelated xs K (put m x u v) (put n x u w)
  unfolding put
  put_related m n r x u v w e l = record {
    others = λ y z h. other y z h (y == x) refl (same_tuple z u);
    own = λ y h z. own y z h (y == x) refl (same_tuple z u) refl;
  }
    where
      other : (y : ℕ) (z : List ℕ) → not (xs y) ≡ true → (b : Bool) → (y == x) ≡ b → (c : Bool) → cond (b && c) (Some v) (m y z) ≡ cond (b && c) (Some w) (n y z)
      other y z h true i true = ap Some (e (sym (ap xs (eqb-true y x i)) ∙ not-true (xs y) h))
      other y z h true i false = r.others y z h
      other y z h false i c = r.others y z h

      own : (y : ℕ) (z : List ℕ) → xs y ≡ true → (b : Bool) → (y == x) ≡ b → (c : Bool) → same_tuple z u ≡ c → K y z (cond (b && c) (Some v) (m y z)) (cond (b && c) (Some w) (n y z))
      own y z h true i true j =
          let name : x ≡ y = sym (eqb-true y x i) in
          let cell : u ≡ z = sym (same_tuple_exact z u j) in
          subst (λ (p : ℕ × List ℕ). K p.0 p.1 (Some v) (Some w)) (λ d. (name d, cell d)) (l (ap xs name ∙ h))
      own y z h true i false j = r.own y h z
      own y z h false i c j = r.own y h z

  pub bound_related : (m n : Store) → AreRelated xs K m n → (u : List ℕ) (bs : Tree) (vs : List ℕ) → binds_one xs bs ≡ false → AreRelated xs K (bound_to m u bs vs) (bound_to n u bs vs)
  unfolding bound_to binds_one
  bound_related m n r u (Node (Binder x T) a b) (v ∷ vs) e =
      let p = or_parts (xs x) (binds_one xs b) e in
      bound_related (put m x u v) (put n x u v) (put_related m n r x u v v (λ h. refl) (λ h. absurd (both_ways (xs x) p.0 h))) u b vs p.1
  bound_related m n r u bs vs e = r

  module _ (linked : (x : ℕ) (u : List ℕ) (o q : Option ℕ) → K x u o q → is_some o ≡ is_some q) where
    some_same : (m n : Store) → AreRelated xs K m n → (x : ℕ) (u : List ℕ) → is_some (m x u) ≡ is_some (n x u)
    some_same m n r x u = go (xs x) refl
      where
        go : (b : Bool) → xs x ≡ b → is_some (m x u) ≡ is_some (n x u)
        go true e = linked x u (m x u) (n x u) (r.own x e u)
        go false e = ap is_some (r.others x u (ap not e))

    module _ (g : Setting) (at : Indices) where
      -- `m` and `o` are the stores in which a cell is looked for, `n` and `p` those in which its indices are read

      cell_same : (m n o p : Store) → AreRelated xs K m o → AreRelated xs K n p → (a : Tree) → reads_none xs (first a) ≡ true → is_assigned g at m n a ≡ is_assigned g at o p a
      cell_same m n o p r s (Node (Leaf x) a b) e = some_same m o r x []
      cell_same m n o p r s (Node (Read x) a b) e = some_same m o r x (values g at n a) ∙ ap (λ u. is_some (o x u)) (values_same g at xs n p s.others a e)
      cell_same m n o p r s a e = refl

      cells_same : (m n o p : Store) → AreRelated xs K m o → AreRelated xs K n p → (a : Tree) → cells_read_none xs a ≡ true → are_assigned g at m n a ≡ are_assigned g at o p a
      unfolding cells_read_none
      cells_same m n o p r s Empty e = refl
      cells_same m n o p r s (Node h a b) e =
          let f = and_parts (reads_none xs (first a)) (cells_read_none xs b) e in
          ap₂ (λ (x y : Bool). elim x [ true ↦ y | false ↦ false ]) (cell_same m n o p r s a f.0) (cells_same m n o p r s b f.1)

      arm_same : (m o : Store) → AreRelated xs K m o → (u : List ℕ) (j : ℕ) (bs l d b : Tree) → binds_one xs bs ≡ false → cells_read_none xs l ≡ true → reads_none xs d ≡ true
          → candidate g at m u j (Node Branch bs (Node Cons l (Node Cons d b))) ≡ candidate g at o u j (Node Branch bs (Node Cons l (Node Cons d b)))
      arm_same m o r u j bs l d b c e f =
          let n : Store = bound_to m (tuple at) bs u in
          let p : Store = bound_to o (tuple at) bs u in
          let s : AreRelated xs K n p = bound_related m o r (tuple at) bs u c in
          let one : List Candidate = record { branch = j; tuple = u } ∷ [] in
          ap₂ (λ (x y : Bool). elim (fits g.interpretation.parameter_value bs u) as (λ _. List Candidate) [
            | true ↦ cond (elim x [ true ↦ y | false ↦ false ]) one []
            | false ↦ []
          ])
          (cells_same m n o p r s l e) (ap is_one (value_same g at xs n p s.others d f))

      offers_same : {is : List ℕ} (m o : Store) → AreRelated xs K m o → (a : Tree) → IsQuiet k is Branches a → (u : List ℕ) (n : ℕ) → candidates_at g at m u n a ≡ candidates_at g at o u n a
      unfolding candidates_at
      offers_same m o r a over u n = refl
      offers_same m o r a (in_branch {binders = bs} {defined = l} {condition = d} {b = b} {more = more} c e f y z) u n =
          ap₂ ◌++◌ (arm_same m o r u n bs l d b c e f) (offers_same m o r more z u (suc n))

      pub candidates_same : {is : List ℕ} (m o : Store) → AreRelated xs K m o → (a : Tree) → IsQuiet k is Branches a → candidates g at m a ≡ candidates g at o a
      unfolding candidates
      candidates_same m o r a q =
          ap (λ f. flat_map f (tuples_up_to (most_indices a) (widest g.interpretation.parameter_value a))) (fun_ext (λ u. offers_same m o r a q u 0))
