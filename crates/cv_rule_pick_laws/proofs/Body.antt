-- The body of the branch says the same with the terms for its index variables, at each visit.
use Rattle.std.proofs.Common.{◌≡◌, ℕ, suc, ◌+◌, Bool, true, false, cond, max, List, [], ◌∷◌, ◌++◌, flat_map, None, is_some, refl, sym, ap, ap₂, subst, ◌∙◌, arith}
use Rattle.std.proofs.lemmas.Bool.{both_ways, and_parts, or_left, or_right}
use Rattle.cv_syntax_trees.specs.declared.head.Head.{Head}
use Rattle.cv_syntax_trees.specs.declared.head.Head.TheVariants.{Stop, Yield, Par, Repl, In, Out, Event, New, Let, If, Find, Branch, Cons, Leaf, Read}
use Rattle.cv_syntax.specs.Layouts.{IsSyntax}
use Rattle.cv_syntax_trees.specs.Tree.{Tree, Empty, Node, second_place}
use Rattle.cv_meaning.specs.Binders.{binder_count, bound_to, fits, widest_binder}
use Rattle.cv_meaning.specs.Candidates.{Candidate, are_assigned, candidate, candidates, candidates_at, is_assigned, most_indices, tuples_up_to, widest}
use Rattle.cv_meaning.specs.Interpretation.{Interpretation, Setting, setting_of}
use Rattle.cv_meaning.specs.Memory.{Indices, Local, Store, tuple}
use Rattle.cv_meaning.specs.Serving.{Visit}
use Rattle.cv_meaning.specs.Terms.{is_one, value}
use Rattle.cv_meaning_runs.specs.Replacement as runs
use Rattle.cv_meaning_runs.specs.Replacement.{Process, before_body}
use Rattle.cv_meaning_chances.specs.rewording.Rewording.{SaysTheSame, has_terms}
use Rattle.cv_scope_rules.specs.Context.{Context}
use Rattle.cv_scope_rules.specs.Made.{is_bound, is_own_of}
use Rattle.cv_scope_rules.specs.Phrases.{Phrase, Arm as OfArm, Binders, Body, Branches, Cells, Else, Guarded, Guards, Inputs, Message, Nil, OneCell, Pattern, Term, Terms, Then, is_phrase}
use Rattle.cv_scope_runs.specs.Reads.{IsKept}
use Rattle.cv_scope_runs.proofs.Standing.{Stands, in_first, in_second}
use Rattle.cv_derive_laws.specs.stores.Holding.{IsReady}
use Rattle.cv_derive_laws.specs.stores.Soundness.{DerivationsHold}
use Rattle.cv_derive_laws.proofs.stores.Sites.{bound_keeps}
use Rattle.cv_scene.specs.Scenes.{Scene}
use Rattle.cv_steps.proofs.Flat.{guarded_of, guards_of}
use Rattle.cv_steps_laws.proofs.Unletted.{is_bare}
use Rattle.cv_rule_pick.specs.Picking.{with_terms}
use Rattle.cv_rule_pick_laws.specs.Settling.{IsSettled, same, kept, reworded, in_parallel, in_list, in_find, in_branch}
use Rattle.cv_rule_pick_laws.proofs.Equal.{IsExpected, equal_there}
use Rattle.cv_rule_pick_laws.proofs.Picks as picks
use Rattle.cv_rule_pick_laws.proofs.Picks.{AllTerms, IsPick}
use Rattle.cv_rule_pick_laws.proofs.Standing.{IsBelow, first_is_below, second_is_below}
use Rattle.cv_rule_pick_laws.proofs.Terms.{AllBoth, SameValues, reads, same_values, with_bare, with_kept, with_node}

-- the trees have the same candidates in a store
record HaveSameCandidates (g : Setting) (at : Indices) (m : Store) (t u : Tree) : Type 0 where
  indices : most_indices t ≡ most_indices u
  bounds : (bound : ℕ → ℕ) → widest bound t ≡ widest bound u
  candidates : (w : List ℕ) (k : ℕ) → candidates_at g at m w k t ≡ candidates_at g at m w k u

same_candidates : (g : Setting) (at : Indices) (m : Store) (t u : Tree) → HaveSameCandidates g at m t u → candidates g at m t ≡ candidates g at m u
unfolding candidates
same_candidates g at m t u h = λ i. flat_map (λ w. h.candidates w 0 i) (tuples_up_to (h.indices i) (h.bounds g.interpretation.parameter_value i))

module _ (s : Scene) (place : ℕ) (ms d e next : Tree) (k : IsPick s place ms d e next) (ready : IsReady s.declarations s.game) (phrases : AllTerms (λ m. is_phrase Term m ≡ true) ms) (i : Interpretation) (sound : DerivationsHold s.declarations) where
  abbrev game : Tree
  game = s.game

  abbrev g : Setting
  g = setting_of s.declarations i

  abbrev V : Visit → Type 0
  V = IsExpected s i ready

  abbrev cs : List Tree
  cs = picks.cs s place ms d e next k ready i

  abbrev Δ : Context
  Δ = picks.Δ s place ms d e next k ready i

  abbrev picked : Tree → Tree
  picked t = with_terms cs ms t

  node : (h : Head) (a b : Tree) → reads h ≡ false → picked (Node h a b) ≡ Node h (picked a) (picked b)
  node = with_node cs ms (picks.cells_are s place ms d e next k ready i)

  bare : (σ : Phrase) (t : Tree) → is_bare σ ≡ true → is_phrase σ t ≡ true → picked t ≡ t
  bare = with_bare cs ms (picks.cells_are s place ms d e next k ready i)

  branch_is : (us cells c b more : Tree) → is_phrase Binders us ≡ true
      → picked (Node Cons (Node Branch us (Node Cons cells (Node Cons c b))) more) ≡ Node Cons (Node Branch us (Node Cons (picked cells) (Node Cons (picked c) (picked b)))) (picked more)
  branch_is us cells c b more w =
      node Cons (Node Branch us (Node Cons cells (Node Cons c b))) more refl
      ∙ ap (λ t. Node Cons t (picked more))
      (node Branch us (Node Cons cells (Node Cons c b)) refl
      ∙ ap₂ (Node Branch) (bare Binders us refl w) (node Cons cells (Node Cons c b) refl ∙ ap (Node Cons (picked cells)) (node Cons c b refl)))

  -- candidates

  module _ (at : Indices) (m : Store) (equal : (n : Store) → IsKept m n → AllBoth (λ c t. value g at n c ≡ value g at n t) cs ms) where
    values_same : (n : Store) → IsKept m n → (σ : Phrase) (t : Tree) → is_phrase σ t ≡ true → SameValues g at n σ t (picked t)
    values_same n l σ t w = same_values cs ms (picks.cells_are s place ms d e next k ready i) g at n (equal n l) σ t w

    same_cell : (n : Store) → IsKept m n → (c : Tree) {q : ℕ} {Θ : Context} → Stands game q OneCell Θ c → is_phrase OneCell c ≡ true → is_assigned g at m n c ≡ is_assigned g at m n (picked c)
    unfolding is_phrase
    same_cell n l (Node (Leaf y) a b) st w =
        sym (ap (is_assigned g at m n) (with_kept cs ms (picks.cells_are s place ms d e next k ready i) (Leaf y) a b (picks.none_here s place ms d e next k ready i (Node (Leaf y) a b) st)))
    same_cell n l (Node (Read y) a b) st w =
        ap (λ vs. is_some (m y vs)) (values_same n l Terms a (and_parts (is_phrase Terms a) _ w).0)
        ∙ sym (ap (is_assigned g at m n) (with_kept cs ms (picks.cells_are s place ms d e next k ready i) (Read y) a b (picks.none_here s place ms d e next k ready i (Node (Read y) a b) st)))
    same_cell n l c st w = absurd (both_ways false refl w)

    same_cells : (n : Store) → IsKept m n → (t : Tree) {q : ℕ} {Θ : Context} → Stands game q Cells Θ t → is_phrase Cells t ≡ true → are_assigned g at m n t ≡ are_assigned g at m n (picked t)
    unfolding is_phrase with_terms
    same_cells n l Empty st w = refl
    same_cells n l (Node Cons c more) st w =
        let r = and_parts (is_phrase OneCell c) _ w in
        ap₂ (λ (v z : Bool). elim v [ true ↦ z | false ↦ false ]) (same_cell n l c (in_first refl st) r.0) (same_cells n l more (in_second refl st) r.1)
        ∙ ap (are_assigned g at m n) (sym (node Cons c more refl))
    same_cells n l t st w = absurd (both_ways false refl w)

    same_candidate : (us cells c b : Tree) (w : List ℕ) (j : ℕ) → (fits g.interpretation.parameter_value us w ≡ true → are_assigned g at m (bound_to m (tuple at) us w) cells ≡ are_assigned g at m (bound_to m (tuple at) us w) (picked cells))
        → (fits g.interpretation.parameter_value us w ≡ true → value g at (bound_to m (tuple at) us w) c ≡ value g at (bound_to m (tuple at) us w) (picked c))
        → candidate g at m w j (Node Branch us (Node Cons cells (Node Cons c b))) ≡ candidate g at m w j (Node Branch us (Node Cons (picked cells) (Node Cons (picked c) (picked b))))
    same_candidate us cells c b w j x y = go (fits g.interpretation.parameter_value us w) refl
      where
        n : Store
        n = bound_to m (tuple at) us w

        if_fits : Bool → Bool → List Candidate
        if_fits v z = elim v [ true ↦ cond z (record { branch = j; tuple = w } ∷ []) [] | false ↦ [] ]

        both : Bool → Bool → Bool
        both v z = elim v [ true ↦ z | false ↦ false ]

        go : (v : Bool) → fits g.interpretation.parameter_value us w ≡ v
            → if_fits v (both (are_assigned g at m n cells) (is_one (value g at n c))) ≡ if_fits v (both (are_assigned g at m n (picked cells)) (is_one (value g at n (picked c))))
        go false f = refl
        go true f = ap₂ (λ v z. if_fits true (both v (is_one z))) (x f) (y f)

    kept_candidates : (t : Tree) {q : ℕ} {Θ : Context} → Stands game q Branches Θ t → is_phrase Branches t ≡ true → ((y : ℕ) → is_own_of t y ≡ true → m y (tuple at) ≡ None) → HaveSameCandidates g at m t (picked t)
    unfolding is_phrase candidates_at with_terms
    kept_candidates Empty st w free = record { indices = refl; bounds = λ bound. refl; candidates = λ u j. refl }
    kept_candidates (Node Cons (Node Branch us (Node Cons cells (Node Cons c b))) more) st w free =
        let p = and_parts (is_phrase OfArm (Node Branch us (Node Cons cells (Node Cons c b)))) _ w in
        let o = and_parts (is_phrase Binders us) _ p.0 in
        let cell_list = and_parts (is_phrase Cells cells) _ o.1 in
        let test = and_parts (is_phrase Term c) _ cell_list.1 in
        let guards = in_second refl (in_first refl st) in
        let r = kept_candidates more (in_second refl st) p.1 (λ y f. free y (or_right (is_bound us y) (is_own_of more y) f)) in
        let keeps : (u : List ℕ) → IsKept m (bound_to m (tuple at) us u) = λ u. bound_keeps m (tuple at) us u (λ y f. free y (or_left (is_bound us y) (is_own_of more y) f)) in
        subst (HaveSameCandidates g at m (Node Cons (Node Branch us (Node Cons cells (Node Cons c b))) more)) (sym (branch_is us cells c b more o.0))
        (record {
          indices = ap (max (binder_count us)) r.indices;
          bounds = λ bound. ap (max (widest_binder bound us)) (r.bounds bound);
          candidates = λ u j. ap₂ ◌++◌
              (same_candidate us cells c b u j (λ f. same_cells (bound_to m (tuple at) us u) (keeps u) cells (in_first refl guards) cell_list.0) (λ f. values_same (bound_to m (tuple at) us u) (keeps u) Term c test.0))
              (r.candidates u (suc j));
        })
    kept_candidates (Node Cons (Node Branch us (Node Cons cells rest)) more) st w free = absurd (both_ways false refl (guarded_of us cells rest more w))
    kept_candidates (Node Cons (Node Branch us rest) more) st w free = absurd (both_ways false refl (guards_of us rest more w))
    kept_candidates t st w free = absurd (both_ways false refl w)

  -- constructs

  nothing : (σ : Phrase) (t : Tree) (p : ℕ) → is_bare σ ≡ true → is_phrase σ t ≡ true → IsSettled g V Process p t (picked t)
  nothing σ t p f w = subst (IsSettled g V Process p t) (sym (bare σ t f w)) same

  kept_here : (h : Head) (a b : Tree) (p : ℕ) → reads h ≡ false → (σ : Phrase) → is_bare σ ≡ true → is_phrase σ a ≡ true → IsSettled g V Process (second_place p h a) b (picked b) → IsSettled g V Process p (Node h a b) (picked (Node h a b))
  kept_here h a b p f σ r w z = subst (IsSettled g V Process p (Node h a b)) (sym (node h a b f ∙ ap (λ t. Node h t (picked b)) (bare σ a r w))) (kept z)

  reworded_here : (h : Head) (a b : Tree) {p : ℕ} {Θ : Context} → Stands game p Body Θ (Node h a b) → IsBelow Δ Θ → IsSyntax (Node h a b) → reads h ≡ false → has_terms h ≡ true → (σ : Phrase) → is_phrase σ a ≡ true
      → ((l : Local) → SameValues g l.indices l.memory.store σ a (picked a) → SaysTheSame g h a (picked a) l) → IsSettled g V Process (second_place p h a) b (picked b) → IsSettled g V Process p (Node h a b) (picked (Node h a b))
  reworded_here h a b {p = p} {Θ = Θ} st l syn f t σ w says z =
      subst (IsSettled g V Process p (Node h a b)) (sym (node h a b f))
      (reworded t (λ r v. says r (values_same r.indices r.memory.store (equal_there s place ms d e next k ready phrases i sound (record { place = p; tree = Node h a b; before = r }) v Body Θ st l syn) r.memory.store (λ y u j m. m) σ a w)) z)

  abbrev As : Phrase → ℕ → Tree → Tree → Type 0
  As Inputs p t u = IsSettled g V Process p t u
  As Body p t u = IsSettled g V Process p t u
  As Then p t u = IsSettled g V Process p t u
  As Else p t u = IsSettled g V Process p t u
  As Branches p t u = IsSettled g V runs.Branches p t u
  As σ p t u = Unit {0}

  pub settled : (σ : Phrase) (t : Tree) {p : ℕ} {Θ : Context} → Stands game p σ Θ t → IsBelow Δ Θ → is_phrase σ t ≡ true → As σ p t (picked t)
  unfolding is_phrase with_terms
  settled Inputs (Node Stop a b) {p = p} st l w = let r = and_parts (is_phrase Nil a) _ w in kept_here Stop a b p refl Nil refl r.0 (nothing Nil b _ refl r.1)
  settled Inputs (Node Par a b) {p = p} {Θ = Θ} st l w =
      let r = and_parts (is_phrase Inputs a) _ w in
      subst (IsSettled g V Process p (Node Par a b)) (sym (node Par a b refl))
      (in_parallel (settled Inputs a (in_first refl st) (first_is_below Δ Inputs Par Θ l) r.0) (settled Inputs b (in_second refl st) (second_is_below Δ Inputs Par Θ l a) r.1))
  settled Inputs (Node (Repl j n) a b) {p = p} {Θ = Θ} st l w =
      let r = and_parts (is_phrase Nil a) _ w in kept_here (Repl j n) a b p refl Nil refl r.0 (settled Inputs b (in_second refl st) (second_is_below Δ Inputs (Repl j n) Θ l a) r.1)
  settled Inputs (Node (In c) a b) {p = p} {Θ = Θ} st l w =
      let r = and_parts (is_phrase Pattern a) _ w in kept_here (In c) a b p refl Pattern refl r.0 (settled Body b (in_second refl st) (second_is_below Δ Inputs (In c) Θ l a) r.1)
  settled Inputs t st l w = absurd (both_ways false refl w)
  settled Body (Node Yield a b) {p = p} st l w = let r = and_parts (is_phrase Nil a) _ w in kept_here Yield a b p refl Nil refl r.0 (nothing Nil b _ refl r.1)
  settled Body (Node (New y T) a b) {p = p} {Θ = Θ} st l w =
      let r = and_parts (is_phrase Nil a) _ w in kept_here (New y T) a b p refl Nil refl r.0 (settled Body b (in_second refl st) (second_is_below Δ Body (New y T) Θ l a) r.1)
  settled Body (Node (Out c) a b) {p = p} {Θ = Θ} st l w =
      let r = and_parts (is_phrase Message a) _ w in
      reworded_here (Out c) a b st l refl refl refl Message r.0 (λ z v. v) (settled Inputs b (in_second refl st) (second_is_below Δ Body (Out c) Θ l a) r.1)
  settled Body (Node (Let y T) a b) {p = p} {Θ = Θ} st l w =
      let r = and_parts (is_phrase Term a) _ w in
      reworded_here (Let y T) a b st l refl refl refl Term r.0 (λ z v. v) (settled Body b (in_second refl st) (second_is_below Δ Body (Let y T) Θ l a) r.1)
  settled Body (Node (Event y) a b) {p = p} {Θ = Θ} st l w =
      let r = and_parts (is_phrase Terms a) _ w in
      reworded_here (Event y) a b st l refl refl refl Terms r.0 (λ z v. v) (settled Body b (in_second refl st) (second_is_below Δ Body (Event y) Θ l a) r.1)
  settled Body (Node If a b) {p = p} {Θ = Θ} st l w =
      let r = and_parts (is_phrase Term a) _ w in
      reworded_here If a b st l refl refl refl Term r.0 (λ z v. ap is_one v) (settled Then b (in_second refl st) (second_is_below Δ Body If Θ l a) r.1)
  settled Body (Node (Find n) a b) {p = p} {Θ = Θ} st l w =
      let r = and_parts (is_phrase Branches a) _ w in
      subst (IsSettled g V Process p (Node (Find n) a b)) (sym (node (Find n) a b refl))
      (in_find
      (λ z v.
      same_candidates g z.indices z.memory.store a (picked a)
      (kept_candidates z.indices z.memory.store (equal_there s place ms d e next k ready phrases i sound (record { place = p; tree = Node (Find n) a b; before = z }) v Body Θ st l refl) a (in_first refl st) r.0 v.own))
      (settled Branches a (in_first refl st) (first_is_below Δ Body (Find n) Θ l) r.0) (settled Body b (in_second refl st) (second_is_below Δ Body (Find n) Θ l a) r.1))
  settled Body t st l w = absurd (both_ways false refl w)
  settled Then (Node Cons a b) {p = p} {Θ = Θ} st l w =
      let r = and_parts (is_phrase Body a) _ w in
      subst (IsSettled g V Process p (Node Cons a b)) (sym (node Cons a b refl))
      (in_list (settled Body a (in_first refl st) (first_is_below Δ Then Cons Θ l) r.0) (settled Else b (in_second refl st) (second_is_below Δ Then Cons Θ l a) r.1))
  settled Then t st l w = absurd (both_ways false refl w)
  settled Else (Node Cons a b) {p = p} {Θ = Θ} st l w =
      let r = and_parts (is_phrase Body a) _ w in
      subst (IsSettled g V Process p (Node Cons a b)) (sym (node Cons a b refl)) (in_list (settled Body a (in_first refl st) (first_is_below Δ Else Cons Θ l) r.0) (nothing Nil b _ refl r.1))
  settled Else t st l w = absurd (both_ways false refl w)
  settled Branches Empty st l w = same
  settled Branches (Node Cons (Node Branch us (Node Cons cells (Node Cons c b))) more) {p = p} {Θ = Θ} st l w =
      let x = and_parts (is_phrase OfArm (Node Branch us (Node Cons cells (Node Cons c b)))) _ w in
      let o = and_parts (is_phrase Binders us) _ x.0 in
      let q = and_parts (is_phrase Cells cells) _ o.1 in
      let r = and_parts (is_phrase Term c) _ q.1 in
      let arm = in_first refl st in
      let guards = in_second refl arm in
      let guarded = in_second refl guards in
      let below_arm = first_is_below Δ Branches Cons Θ l in
      let below_guards = second_is_below Δ OfArm Branch _ below_arm us in
      let below_guarded = second_is_below Δ Guards Cons _ below_guards cells in
      let body = settled Body b (in_second refl guarded) (second_is_below Δ Guarded Cons _ below_guarded c) r.1 in
      subst (IsSettled g V runs.Branches p (Node Cons (Node Branch us (Node Cons cells (Node Cons c b))) more)) (sym (branch_is us cells c b more o.0))
      (in_branch (subst (λ n. IsSettled g V Process n b (picked b)) (there p us cells c) body) (settled Branches more (in_second refl st) (second_is_below Δ Branches Cons Θ l (Node Branch us (Node Cons cells (Node Cons c b)))) x.1))
    where
      there : (p : ℕ) (us cells c : Tree) → second_place (second_place (second_place (p + 0) Branch us) Cons cells) Cons c ≡ p + before_body us cells c
      there p us cells c = omega arith
  settled Branches (Node Cons (Node Branch us (Node Cons cells rest)) more) st l w = absurd (both_ways false refl (guarded_of us cells rest more w))
  settled Branches (Node Cons (Node Branch us rest) more) st l w = absurd (both_ways false refl (guards_of us rest more w))
  settled Branches t st l w = absurd (both_ways false refl w)
  settled σ t st l w = tt
