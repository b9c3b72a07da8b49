-- Branches have the same candidates with a condition reworded, at a visited `find`.
use Rattle.std.proofs.Common.{◌≡◌, ℕ, suc, ◌+◌, Bool, true, false, cond, max, List, [], ◌∷◌, ◌++◌, flat_map, refl, sym, ap, subst, ◌∙◌, arith}
use Rattle.std.proofs.lemmas.Bool.{both_ways, and_parts}
use Rattle.cv_syntax_trees.specs.declared.head.Head.TheVariants.{Branch, Cons}
use Rattle.cv_syntax_trees.specs.Tree.{Tree, Empty, Node, first_place, second_place, size}
use Rattle.cv_meaning.specs.Interpretation.{Interpretation, Setting, setting_of}
use Rattle.cv_meaning.specs.Binders.{binder_count, bound_to, fits, widest_binder}
use Rattle.cv_meaning.specs.Candidates.{Candidate, are_assigned, candidate, candidates, candidates_at, most_indices, tuples_up_to, widest}
use Rattle.cv_meaning.specs.Memory.{Indices, Memory, Store, tuple}
use Rattle.cv_meaning.specs.Terms.{is_one, value}
use Rattle.cv_meaning.specs.Replaced.{replaced}
use Rattle.cv_scope_rules.specs.Phrases.{Arm, Branches, Term, is_phrase}
use Rattle.cv_scene.specs.Scenes.{Scene, part_at}
use Rattle.cv_steps.specs.Rewriting.{has_term_at}
use Rattle.cv_steps.proofs.Flat.{guarded_of, guards_of}
use Rattle.cv_derive_laws.specs.stores.Holding.{HoldAt, HoldInConditions}
use Rattle.cv_steps.proofs.Places.{InBranches, in_condition, in_body, later, branches, in_branches, nothing_there}
use Rattle.cv_steps_derivations.proofs.rewriting.Values.{values_kept}

-- the trees have the same candidates in a store
record HaveSameCandidates (g : Setting) (at : Indices) (x : Store) (a c : Tree) : Type 0 where
  indices : most_indices a ≡ most_indices c
  bounds : (bound : ℕ → ℕ) → widest bound a ≡ widest bound c
  candidates : (u : List ℕ) (k : ℕ) → candidates_at g at x u k a ≡ candidates_at g at x u k c

same_candidates : (g : Setting) (at : Indices) (x : Store) (a c : Tree) → HaveSameCandidates g at x a c → candidates g at x a ≡ candidates g at x c
unfolding candidates
same_candidates g at x a c h = λ i. flat_map (λ u. h.candidates u 0 i) (tuples_up_to (h.indices i) (h.bounds g.interpretation.parameter_value i))

module _ (s : Scene) (i : Interpretation) (m old : Tree) (place : ℕ) (equal : (at : Indices) (x n : Store) → HoldAt s i place at x n → value (setting_of s.declarations i) at n old ≡ value (setting_of s.declarations i) at n m) where
  abbrev g : Setting
  g = setting_of s.declarations i

  -- one branch, with another condition
  same_candidate : (at : Indices) (x : Store) (us cells c d b : Tree) (u : List ℕ) (k : ℕ)
      → (fits i.parameter_value us u ≡ true → are_assigned g at x (bound_to x (tuple at) us u) cells ≡ true → value g at (bound_to x (tuple at) us u) c ≡ value g at (bound_to x (tuple at) us u) d)
      → candidate g at x u k (Node Branch us (Node Cons cells (Node Cons c b))) ≡ candidate g at x u k (Node Branch us (Node Cons cells (Node Cons d b)))
  same_candidate at x us cells c d b u k e = go (fits i.parameter_value us u) refl (are_assigned g at x n cells) refl
    where
      n : Store
      n = bound_to x (tuple at) us u

      if_assigned : Bool → Tree → Bool
      if_assigned w t = elim w [ true ↦ is_one (value g at n t) | false ↦ false ]

      if_fits : Bool → Bool → List Candidate
      if_fits v w = elim v [ true ↦ cond w (record { branch = k; tuple = u } ∷ []) [] | false ↦ [] ]

      go : (v : Bool) → fits i.parameter_value us u ≡ v → (w : Bool) → are_assigned g at x n cells ≡ w → if_fits v (if_assigned w c) ≡ if_fits v (if_assigned w d)
      go false f w h = refl
      go true f false h = refl
      go true f true h = ap (λ z. if_fits true (is_one z)) (e f h)

  kept_candidates : (t : Tree) (p q : ℕ) → p + q ≡ place → part_at t q ≡ old → is_phrase Branches t ≡ true → has_term_at Branches t q ≡ true → (at : Indices) (x : Memory) → HoldInConditions s i p at x t → HaveSameCandidates g at x.store t (replaced t q m)
  unfolding is_phrase candidates_at size
  kept_candidates Empty p q e o w h at x k = absurd (nothing_there Branches q h)
  kept_candidates (Node Cons (Node Branch us (Node Cons cells (Node Cons c b))) more) p q e o w h at x k =
      go (in_branches m us cells c b more q h) (kept_candidates more)
    where
      arm : Tree → Tree
      arm d = Node Branch us (Node Cons cells (Node Cons d b))

      phrases : (is_phrase Arm (arm c) ≡ true) × (is_phrase Branches more ≡ true)
      phrases = and_parts (is_phrase Arm (arm c)) _ w

      condition : is_phrase Term c ≡ true
      condition = (and_parts (is_phrase Term c) _ (guarded_of us cells (Node Cons c b) more w)).0

      changed : (d : Tree) → ((u : List ℕ) (l : ℕ) → candidate g at x.store u l (arm c) ≡ candidate g at x.store u l (arm d)) → HaveSameCandidates g at x.store (branches us cells c b more) (branches us cells d b more)
      changed d f = record { indices = refl; bounds = λ bound. refl; candidates = λ u l. ap (λ cs. cs ++ candidates_at g at x.store u (suc l) more) (f u l) }

      go : InBranches m us cells c b more q
          → ((p q : ℕ) → p + q ≡ place → part_at more q ≡ old → is_phrase Branches more ≡ true → has_term_at Branches more q ≡ true → (at : Indices) (x : Memory) → HoldInConditions s i p at x more → HaveSameCandidates g at x.store more (replaced more q m))
          → HaveSameCandidates g at x.store (branches us cells c b more) (replaced (branches us cells c b more) q m)
      go (in_condition l f) ih =
          subst (HaveSameCandidates g at x.store (branches us cells c b more)) (sym f.next)
          (changed (replaced c l m) (λ u j. same_candidate at x.store us cells c (replaced c l m) b u j
          (λ v z.
          let n : Store = bound_to x.store (tuple at) us u in
          let there : second_place (first_place p Cons) Branch us + size cells + l ≡ place = (let y = f.place in omega arith) in
          let held : HoldAt s i place at x.store n = subst (λ r. HoldAt s i r at x.store n) there (k.0 u v z l f.below) in
          values_kept g at n m Term c condition l f.term (subst (λ t. value g at n t ≡ value g at n m) (sym o ∙ f.part) (equal at x.store n held)))))
      go (in_body l f) ih = subst (HaveSameCandidates g at x.store (branches us cells c b more)) (sym f.next) (record { indices = refl; bounds = λ bound. refl; candidates = λ u j. refl })
      go (later l f) ih =
          let r = ih (second_place p Cons (arm c)) l (let y = f.place in omega arith) (sym f.part ∙ o) phrases.1 f.term at x k.1 in
          subst (HaveSameCandidates g at x.store (branches us cells c b more)) (sym f.next)
          (record { indices = ap (max (binder_count us)) r.indices; bounds = λ bound. ap (max (widest_binder bound us)) (r.bounds bound); candidates = λ u j. ap (λ cs. candidate g at x.store u j (arm c) ++ cs) (r.candidates u (suc j)) })
  kept_candidates (Node Cons (Node Branch us (Node Cons cells rest)) more) p q e o w h at x k = absurd (both_ways false refl (guarded_of us cells rest more w))
  kept_candidates (Node Cons (Node Branch us rest) more) p q e o w h at x k = absurd (both_ways false refl (guards_of us rest more w))
  kept_candidates t p q e o w h at x k = absurd (both_ways false refl w)

  pub candidates_kept : (t : Tree) (p q : ℕ) → p + q ≡ place → part_at t q ≡ old → is_phrase Branches t ≡ true → has_term_at Branches t q ≡ true → (at : Indices) (x : Memory) → HoldInConditions s i p at x t → candidates g at x.store t ≡ candidates g at x.store (replaced t q m)
  candidates_kept t p q e o w h at x k = same_candidates g at x.store t (replaced t q m) (kept_candidates t p q e o w h at x k)
