-- Branches have the same candidates with the term in place of each read of the variable.
use Rattle.std.proofs.Common.{◌≡◌, ℕ, suc, Bool, true, false, cond, max, List, [], ◌∷◌, ◌++◌, flat_map, refl, sym, ap, ap₂, subst}
use Rattle.std.proofs.lemmas.Bool.{both_ways}
use Rattle.std.specs.List.{AllByRecursion}
use Rattle.cv_syntax_trees.specs.declared.head.Head.TheVariants.{Branch, Cons}
use Rattle.cv_syntax_trees.specs.Tree.{Tree, Empty, Node}
use Rattle.cv_meaning.specs.Binders.{binder_count, bound_to, fits, widest_binder}
use Rattle.cv_meaning.specs.Candidates.{Candidate, are_assigned, candidate, candidates, candidates_at, most_indices, tuples_up_to, widest}
use Rattle.cv_meaning.specs.Interpretation.{Setting}
use Rattle.cv_meaning.specs.Memory.{Indices, Memory, Store, tuple}
use Rattle.cv_meaning.specs.Terms.{is_one, value}
use Rattle.cv_scope_rules.specs.Context.{Context}
use Rattle.cv_scope_rules.specs.Phrases.{Arm, Binders, Branches, Inputs, Term, is_phrase}
use Rattle.cv_scope_rules.specs.Scope.{is_variable}
use Rattle.cv_scope_runs.specs.Promises.{BranchesHold, TuplesHold}
use Rattle.cv_scope_runs.proofs.Games.{Game}
use Rattle.cv_scope_runs.proofs.Standing.{Stands, in_first, in_second}
use Rattle.cv_steps.specs.Unletting.{Assignment, is_listed, with_term}
use Rattle.cv_steps.proofs.Flat.{guarded_of, guards_of}
use Rattle.cv_steps_laws.proofs.Unletted.{put_bare}
use Rattle.cv_steps_derivations.proofs.unletting.Reach.{plain}
use Rattle.cv_steps_derivations.proofs.unletting.Sites.{OneDefinition}
use Rattle.cv_steps_derivations.proofs.unletting.Values.{same_cells, same_values}

-- the trees have the same candidates in a store
record HaveSameCandidates (g : Setting) (at : Indices) (m : Store) (a c : Tree) : Type 0 where
  indices : most_indices a ≡ most_indices c
  bounds : (bound : ℕ → ℕ) → widest bound a ≡ widest bound c
  candidates : (u : List ℕ) (k : ℕ) → candidates_at g at m u k a ≡ candidates_at g at m u k c

module _ (g : Setting) (game : Tree) (x : ℕ) (d : Assignment) (fine : Game g (is_variable game) game) (well : is_phrase Inputs game ≡ true) (one : OneDefinition game x d) (free : is_listed x game ≡ false) where
  abbrev put : Tree → Tree
  put t = with_term x d t

  -- one branch
  same_candidate : (at : Indices) (m : Memory) (us cells c b : Tree) {p : ℕ} {Γ : Context} → Stands game p Arm Γ (Node Branch us (Node Cons cells (Node Cons c b))) → TuplesHold g Γ at m (Node Branch us (Node Cons cells (Node Cons c b))) → (u : List ℕ) (k : ℕ)
      → candidate g at m.store u k (Node Branch us (Node Cons cells (Node Cons c b))) ≡ candidate g at m.store u k (Node Branch us (Node Cons (put cells) (Node Cons (put c) (put b))))
  same_candidate at m us cells c b {Γ = Γ} st hold u k = go (fits g.interpretation.parameter_value us u) refl
    where
      n : Store
      n = bound_to m.store (tuple at) us u

      if_fits : Bool → Bool → List Candidate
      if_fits v w = elim v [ true ↦ cond w (record { branch = k; tuple = u } ∷ []) [] | false ↦ [] ]

      both : Bool → Bool → Bool
      both v w = elim v [ true ↦ w | false ↦ false ]

      go : (v : Bool) → fits g.interpretation.parameter_value us u ≡ v
          → if_fits v (both (are_assigned g at m.store n cells) (is_one (value g at n c))) ≡ if_fits v (both (are_assigned g at m.store n (put cells)) (is_one (value g at n (put c))))
      go false f = refl
      go true f =
          let facts : AllByRecursion (λ t. value g at n t ≡ 1) Γ.facts = (hold u f).list.facts in
          ap₂ (λ v w. if_fits true (both v (is_one w)))
          (same_cells g game x d fine well one free at n m.store cells (in_first refl (in_second refl st)) facts)
          (same_values g game x d fine well one free at n Term c (in_first refl (in_second refl (in_second refl st))) facts)

  kept_candidates : (at : Indices) (m : Memory) (t : Tree) {p : ℕ} {Γ : Context} → Stands game p Branches Γ t → BranchesHold g Γ at m t → HaveSameCandidates g at m.store t (put t)
  unfolding with_term candidates_at is_phrase
  kept_candidates at m Empty st hold = record { indices = refl; bounds = λ bound. refl; candidates = λ u k. refl }
  kept_candidates at m (Node Cons (Node Branch us (Node Cons cells (Node Cons c b))) more) st hold =
      let arm : Tree = Node Branch us (Node Cons cells (Node Cons c b)) in
      let next : Tree → Tree = λ z. Node Cons (Node Branch z (Node Cons (put cells) (Node Cons (put c) (put b)))) (put more) in
      let r = kept_candidates at m more (in_second refl st) hold.1 in
      subst (λ z. HaveSameCandidates g at m.store (Node Cons arm more) (next z)) (sym (put_bare x d Binders us refl (plain g game x d fine well one free (in_first refl (in_first refl st)))))
      (record {
        indices = ap (max (binder_count us)) r.indices;
        bounds = λ bound. ap (max (widest_binder bound us)) (r.bounds bound);
        candidates = λ u k. ap₂ ◌++◌ (same_candidate at m us cells c b (in_first refl st) hold.0 u k) (r.candidates u (suc k));
      })
  kept_candidates at m (Node Cons (Node Branch us (Node Cons cells rest)) more) st hold = absurd (both_ways false refl (guarded_of us cells rest more (plain g game x d fine well one free st)))
  kept_candidates at m (Node Cons (Node Branch us rest) more) st hold = absurd (both_ways false refl (guards_of us rest more (plain g game x d fine well one free st)))
  kept_candidates at m t st hold = absurd (both_ways false refl (plain g game x d fine well one free st))

  pub candidates_kept : (at : Indices) (m : Memory) (t : Tree) {p : ℕ} {Γ : Context} → Stands game p Branches Γ t → BranchesHold g Γ at m t → candidates g at m.store t ≡ candidates g at m.store (put t)
  unfolding candidates
  candidates_kept at m t st hold =
      let h = kept_candidates at m t st hold in
      λ i. flat_map (λ u. h.candidates u 0 i) (tuples_up_to (h.indices i) (h.bounds g.interpretation.parameter_value i))
