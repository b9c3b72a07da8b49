-- A `find` has the same candidates under other names.
use Rattle.std.proofs.Common.{◌≡◌, ℕ, suc, Bool, true, false, cond, max, List, [], ◌∷◌, ◌++◌, flat_map, is_some, refl, sym, ap, ap₂, ◌∙◌}
use Rattle.std.proofs.Math.Path.{fun_ext}
use Rattle.cv_syntax_trees.specs.declared.head.Head.TheVariants.{Leaf, Read}
use Rattle.cv_syntax_trees.specs.Tree.{Tree, Empty, Node, first, second}
use Rattle.cv_meaning.specs.Interpretation.{Setting}
use Rattle.cv_meaning.specs.Memory.{Store, Indices, tuple}
use Rattle.cv_meaning.specs.Terms.{is_one, value, values}
use Rattle.cv_meaning.specs.Binders.{fits, bound_to, binder_count, widest_binder}
use Rattle.cv_meaning.specs.Candidates.{Candidate, tuples_up_to, is_assigned, are_assigned, candidate, candidates_at, most_indices, widest, candidates}
use Rattle.cv_steps_laws.specs.renaming.Naming.{with_names, indices_with_names, IsNaming}
use Rattle.cv_steps_laws.proofs.renaming.Values.{AgreeUnder, first_under, second_under, tuple_under, fits_under, count_under, widest_under, bound_under, value_under, values_under}

module _ (g : Setting) (name : ℕ → ℕ) (fine : IsNaming g name) (at : Indices) where
  abbrev Agree : Store → Store → Type 0
  Agree = AgreeUnder name

  abbrev others : Indices
  others = indices_with_names name at

  -- `m` and `o` are the stores in which a cell is looked for, `n` and `p` those in which its indices are read

  assigned_under : (m n o p : Store) → Agree m o → Agree n p → (t : Tree) → is_assigned g at m n t ≡ is_assigned g others o p (with_names name t)
  unfolding with_names
  assigned_under m n o p r s Empty = refl
  assigned_under m n o p r s (Node (Leaf x) a b) = ap is_some (r x [])
  assigned_under m n o p r s (Node (Read x) a b) = ap is_some (r x (values g at n a) ∙ ap (o (name x)) (values_under g name fine at n p s a))
  assigned_under m n o p r s (Node h a b) = refl

  all_assigned_under : (m n o p : Store) → Agree m o → Agree n p → (t : Tree) → are_assigned g at m n t ≡ are_assigned g others o p (with_names name t)
  unfolding with_names
  all_assigned_under m n o p r s Empty = refl
  all_assigned_under m n o p r s (Node h a b) =
      ap₂ (λ (x y : Bool). elim x [ true ↦ y | false ↦ false ]) (assigned_under m n o p r s a) (all_assigned_under m n o p r s b)

  -- the list and the condition of a branch

  list_under : (b : Tree) → first (second (with_names name b)) ≡ with_names name (first (second b))
  list_under b = ap first (second_under name b) ∙ first_under name (second b)

  condition_under : (b : Tree) → first (second (second (with_names name b))) ≡ with_names name (first (second (second b)))
  condition_under b = ap (λ t. first (second t)) (second_under name b) ∙ list_under (second b)

  module _ (m n : Store) (r : Agree m n) where
    candidate_under : (u : List ℕ) (k : ℕ) (b : Tree) → candidate g at m u k b ≡ candidate g others n u k (with_names name b)
    candidate_under u k b =
        let bs : Tree = first b in
        let l : Tree = first (second b) in
        let d : Tree = first (second (second b)) in
        let own : Store = bound_to m (tuple at) bs u in
        let other : Store = bound_to n (tuple at) (with_names name bs) u in
        let s : Agree own other = bound_under g name fine m n r (tuple at) bs u in
        let one : List Candidate = record { branch = k; tuple = u } ∷ [] in
        let holds : List ℕ → Tree → Tree → Tree → List Candidate =
        λ (w : List ℕ) (bs l d : Tree). elim (fits g.interpretation.parameter_value bs u) as (λ _. List Candidate) [
          | true ↦ cond (elim (are_assigned g others n (bound_to n w bs u) l) [ true ↦ is_one (value g others (bound_to n w bs u) d) | false ↦ false ]) one []
          | false ↦ []
        ] in
        (λ i. elim (fits_under name g.interpretation.parameter_value bs u i) as (λ _. List Candidate) [
          | true ↦ cond (elim (all_assigned_under m own n other r s l i) [ true ↦ is_one (value_under g name fine at own other s d i) | false ↦ false ]) one []
          | false ↦ []
        ])
        ∙ (λ i. holds (sym (tuple_under name at) i) (sym (first_under name b) i) (sym (list_under b) i) (sym (condition_under b) i))

    at_under : (u : List ℕ) (k : ℕ) (t : Tree) → candidates_at g at m u k t ≡ candidates_at g others n u k (with_names name t)
    unfolding candidates_at with_names
    at_under u k Empty = refl
    at_under u k (Node h b more) = ap₂ ◌++◌ (candidate_under u k b) (at_under u (suc k) more)

    most_under : (t : Tree) → most_indices t ≡ most_indices (with_names name t)
    unfolding with_names
    most_under Empty = refl
    most_under (Node h b more) = ap₂ max (count_under name (first b) ∙ ap binder_count (sym (first_under name b))) (most_under more)

    wide_under : (t : Tree) → widest g.interpretation.parameter_value t ≡ widest g.interpretation.parameter_value (with_names name t)
    unfolding with_names
    wide_under Empty = refl
    wide_under (Node h b more) =
        ap₂ max (widest_under name g.interpretation.parameter_value (first b) ∙ ap (widest_binder g.interpretation.parameter_value) (sym (first_under name b))) (wide_under more)

    pub candidates_under : (t : Tree) → candidates g at m t ≡ candidates g others n (with_names name t)
    unfolding candidates
    candidates_under t =
        ap₂ (λ d w. flat_map (λ u. candidates_at g at m u 0 t) (tuples_up_to d w)) (most_under t) (wide_under t)
        ∙ ap (λ f. flat_map f (tuples_up_to (most_indices (with_names name t)) (widest g.interpretation.parameter_value (with_names name t)))) (fun_ext (λ u. at_under u 0 t))
