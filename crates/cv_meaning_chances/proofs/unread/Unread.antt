-- Stores that agree off some variables give the same values and candidates to what reads none of them.
use Rattle.std.proofs.Common.{◌≡◌, ℕ, suc, ◌==◌, ◌&&◌, Bool, true, false, cond, not, max, List, [], ◌∷◌, ◌++◌, flat_map, Some, is_some, refl, ap, ap₂, ◌∙◌, eqb-true}
use Rattle.std.proofs.Math.Path.{fun_ext}
use Rattle.std.proofs.lemmas.Bool.{both_ways, and_parts, not-true}
use Rattle.cv_syntax_trees.specs.declared.head.Head.{Head}
use Rattle.cv_syntax_trees.specs.declared.head.Head.TheVariants.{Leaf, Read, Binder, Branch, Cons}
use Rattle.cv_syntax_trees.specs.Tree.{Tree, Empty, Node, first, second, head_reads_only, reads_only}
use Rattle.cv_meaning.specs.Tapes.{same_tuple}
use Rattle.cv_meaning.specs.Interpretation.{Setting}
use Rattle.cv_meaning.specs.Memory.{Store, Indices, put, tuple}
use Rattle.cv_meaning.specs.Terms.{is_one, value, values}
use Rattle.cv_meaning.specs.Binders.{fits, bound_to, binder_count, widest_binder}
use Rattle.cv_meaning.specs.Candidates.{Candidate, tuples_up_to, is_assigned, are_assigned, candidate, candidates_at, most_indices, widest, candidates}
use Rattle.cv_meaning_laws.specs.Agreement.{AgreeOn}
use Rattle.cv_meaning_laws.proofs.Agreeing.{value_agree, values_agree}
use Rattle.cv_meaning_runs.specs.Replacement.{Branches}
use Rattle.cv_meaning_chances.specs.unread.Dropping.{reads_none, IsDropped, same, in_branch, in_later_branch}

-- the parts of a tree that reads none

pub first_reads : (xs : ℕ → Bool) (h : Head) (a b : Tree) → reads_none xs (Node h a b) ≡ true → reads_none xs a ≡ true
unfolding reads_only
first_reads xs h a b e = (and_parts (reads_none xs a) _ (and_parts (head_reads_only (λ x. not (xs x)) h) _ e).1).0

pub second_reads : (xs : ℕ → Bool) (h : Head) (a b : Tree) → reads_none xs (Node h a b) ≡ true → reads_none xs b ≡ true
unfolding reads_only
second_reads xs h a b e = (and_parts (reads_none xs a) _ (and_parts (head_reads_only (λ x. not (xs x)) h) _ e).1).1

pub first_part : (xs : ℕ → Bool) (a : Tree) → reads_none xs a ≡ true → reads_none xs (first a) ≡ true
unfolding reads_only
first_part xs Empty e = refl
first_part xs (Node h a b) e = first_reads xs h a b e

pub second_part : (xs : ℕ → Bool) (a : Tree) → reads_none xs a ≡ true → reads_none xs (second a) ≡ true
unfolding reads_only
second_part xs Empty e = refl
second_part xs (Node h a b) e = second_reads xs h a b e

-- stores that are changed at one variable

pub put_agrees : (on : ℕ → Bool) (m n : Store) → AgreeOn on m n → (x : ℕ) (u : List ℕ) (v : ℕ) → AgreeOn on (put m x u v) (put n x u v)
unfolding put
put_agrees on m n r x u v y w e = ap (λ o. cond ((y == x) && same_tuple w u) (Some v) o) (r y w e)

-- the second store is not changed, where the variable is one of those
pub put_aside : (xs : ℕ → Bool) (m n : Store) → AgreeOn (λ y. not (xs y)) m n → (x : ℕ) (u : List ℕ) (v : ℕ) → xs x ≡ true → AgreeOn (λ y. not (xs y)) (put m x u v) n
unfolding put
put_aside xs m n r x u v h y w e = go (y == x) refl
  where
    go : (b : Bool) → (y == x) ≡ b → cond (b && same_tuple w u) (Some v) (m y w) ≡ n y w
    go true k = absurd (both_ways (xs y) (not-true (xs y) e) (ap xs (eqb-true y x k) ∙ h))
    go false k = r y w e

pub bound_agrees : (on : ℕ → Bool) (m n : Store) → AgreeOn on m n → (u : List ℕ) (bs : Tree) (vs : List ℕ) → AgreeOn on (bound_to m u bs vs) (bound_to n u bs vs)
unfolding bound_to
bound_agrees on m n r u (Node (Binder x T) a b) (v ∷ vs) = bound_agrees on (put m x u v) (put n x u v) (put_agrees on m n r x u v) u b vs
bound_agrees on m n r u bs vs = r

module _ (g : Setting) (at : Indices) (xs : ℕ → Bool) where
  abbrev Agree : Store → Store → Type 0
  Agree = AgreeOn (λ x. not (xs x))

  pub value_same : (m n : Store) → Agree m n → (a : Tree) → reads_none xs a ≡ true → value g at m a ≡ value g at n a
  value_same m n r a e = value_agree g at (λ x. not (xs x)) m n r a e

  pub values_same : (m n : Store) → Agree m n → (a : Tree) → reads_none xs a ≡ true → values g at m a ≡ values g at n a
  values_same m n r a e = values_agree g at (λ x. not (xs x)) m n r a e

  -- `m` and `o` are the stores in which a cell is looked for, `n` and `p` those in which its indices are read

  assigned_same : (m n o p : Store) → Agree m o → Agree n p → (a : Tree) → reads_none xs a ≡ true → is_assigned g at m n a ≡ is_assigned g at o p a
  unfolding reads_only
  assigned_same m n o p r s (Node (Leaf x) a b) e = ap is_some (r x [] (and_parts (not (xs x)) _ e).0)
  assigned_same m n o p r s (Node (Read x) a b) e =
      ap is_some (r x (values g at n a) (and_parts (not (xs x)) _ e).0 ∙ ap (o x) (values_same n p s a (first_reads xs (Read x) a b e)))
  assigned_same m n o p r s a e = refl

  all_assigned_same : (m n o p : Store) → Agree m o → Agree n p → (a : Tree) → reads_none xs a ≡ true → are_assigned g at m n a ≡ are_assigned g at o p a
  all_assigned_same m n o p r s Empty e = refl
  all_assigned_same m n o p r s (Node h a b) e =
      ap₂ (λ (x y : Bool). elim x [ true ↦ y | false ↦ false ]) (assigned_same m n o p r s a (first_reads xs h a b e)) (all_assigned_same m n o p r s b (second_reads xs h a b e))

  -- the same list and condition make the same candidate
  pub candidate_same : (m o : Store) → Agree m o → (u : List ℕ) (k : ℕ) (b c : Tree) → first b ≡ first c → first (second b) ≡ first (second c) → first (second (second b)) ≡ first (second (second c))
      → reads_none xs (first (second c)) ≡ true → reads_none xs (first (second (second c))) ≡ true → candidate g at m u k b ≡ candidate g at o u k c
  candidate_same m o r u k b c x y z e f =
      let n : Store = bound_to m (tuple at) (first c) u in
      let p : Store = bound_to o (tuple at) (first c) u in
      let s : Agree n p = bound_agrees (λ x. not (xs x)) m o r (tuple at) (first c) u in
      let one : List Candidate = record { branch = k; tuple = u } ∷ [] in
      let holds : Tree → Tree → Tree → List Candidate =
      λ (bs l d : Tree). elim (fits g.interpretation.parameter_value bs u) as (λ _. List Candidate) [
        | true ↦ cond (elim (are_assigned g at m (bound_to m (tuple at) bs u) l) [ true ↦ is_one (value g at (bound_to m (tuple at) bs u) d) | false ↦ false ]) one []
        | false ↦ []
      ] in
      (λ i. holds (x i) (y i) (z i))
      ∙ ap₂ (λ (x y : Bool). elim (fits g.interpretation.parameter_value (first c) u) as (λ _. List Candidate) [
        | true ↦ cond (elim x [ true ↦ y | false ↦ false ]) one []
        | false ↦ []
      ])
      (all_assigned_same m n o p r s (first (second c)) e) (ap is_one (value_same n p s (first (second (second c))) f))

  pub record SameBranches (m o : Store) (a c : Tree) : Type 0 where
    pub offers : (u : List ℕ) (k : ℕ) → candidates_at g at m u k a ≡ candidates_at g at o u k c
    pub most : most_indices a ≡ most_indices c
    pub wide : widest g.interpretation.parameter_value a ≡ widest g.interpretation.parameter_value c

  pub more_branches : (m o : Store) (h : Head) (b c more rest : Tree) → first b ≡ first c → ((u : List ℕ) (k : ℕ) → candidate g at m u k b ≡ candidate g at o u k c) → SameBranches m o more rest → SameBranches m o (Node h b more) (Node h c rest)
  unfolding candidates_at
  more_branches m o h b c more rest x e r = record {
    offers = λ u k. ap₂ ◌++◌ (e u k) (r.offers u (suc k));
    most = ap₂ (λ bs n. max (binder_count bs) n) x r.most;
    wide = ap₂ (λ bs n. max (widest_binder g.interpretation.parameter_value bs) n) x r.wide;
  }

  pub one_branch : (m o : Store) → Agree m o → (b : Tree) → reads_none xs b ≡ true → (u : List ℕ) (k : ℕ) → candidate g at m u k b ≡ candidate g at o u k b
  one_branch m o r b e u k = candidate_same m o r u k b b refl refl refl (first_part xs (second b) (second_part xs b e)) (first_part xs (second (second b)) (second_part xs (second b) (second_part xs b e)))

  pub same_branches : (m o : Store) → Agree m o → (a : Tree) → reads_none xs a ≡ true → SameBranches m o a a
  unfolding candidates_at
  same_branches m o r Empty e = record { offers = λ u k. refl; most = refl; wide = refl }
  same_branches m o r (Node h b more) e =
      more_branches m o h b b more more refl (one_branch m o r b (first_reads xs h b more e)) (same_branches m o r more (second_reads xs h b more e))

  branches_same : (m o : Store) → Agree m o → (a c : Tree) → IsDropped xs Branches a c → SameBranches m o a c
  branches_same m o r a c (same e) = same_branches m o r a e
  branches_same m o r a c (in_branch {binders = bs} {defined = d} {condition = n} {b = b} {c = x} {more = more} {rest = rest} e f h y z) =
      let left : Tree = Node Branch bs (Node Cons d (Node Cons n b)) in
      let right : Tree = Node Branch bs (Node Cons d (Node Cons n x)) in
      more_branches m o Cons left right more rest refl (λ u k. candidate_same m o r u k left right refl refl refl f h) (branches_same m o r more rest z)
  branches_same m o r a c (in_later_branch {a = b} {b = x} {c = y} e z) = more_branches m o Cons b b x y refl (one_branch m o r b e) (branches_same m o r x y z)

  pub same_candidates : (m o : Store) (a c : Tree) → SameBranches m o a c → candidates g at m a ≡ candidates g at o c
  unfolding candidates
  same_candidates m o a c s =
      ap₂ (λ d n. flat_map (λ u. candidates_at g at m u 0 a) (tuples_up_to d n)) s.most s.wide
      ∙ ap (λ f. flat_map f (tuples_up_to (most_indices c) (widest g.interpretation.parameter_value c))) (fun_ext (λ u. s.offers u 0))

  pub candidates_same : (m o : Store) → Agree m o → (a c : Tree) → IsDropped xs Branches a c → candidates g at m a ≡ candidates g at o c
  candidates_same m o r a c x = same_candidates m o a c (branches_same m o r a c x)
