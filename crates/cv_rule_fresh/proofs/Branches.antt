-- An equality of a value that misses a term with the term is false: where a term of a construct has it, and in the conditions of the
-- branches of a `find`, which keep their candidates.
use Rattle.std.proofs.Common.{◌≡◌, ℕ, suc, ◌+◌, ◌<◌, Bool, true, false, cond, max, List, [], ◌∷◌, ◌++◌, flat_map, Some, None, refl, sym, ap, subst, ◌∙◌, arith}
use Rattle.std.proofs.lemmas.Bool.{both_ways, and_parts, or_left, or_right}
use Rattle.cv_syntax_trees.specs.declared.head.Head.TheVariants.{Branch, Cons}
use Rattle.cv_syntax_trees.specs.Tree.{Tree, Empty, Node, first_place, second_place, size}
use Rattle.cv_syntax.specs.Layouts.{IsSyntax}
use Rattle.cv_meaning.specs.Interpretation.{Setting}
use Rattle.cv_meaning.specs.Binders.{binder_count, bound_to, fits, widest_binder}
use Rattle.cv_meaning.specs.Candidates.{Candidate, are_assigned, candidate, candidates, candidates_at, most_indices, tuples_up_to, widest}
use Rattle.cv_meaning.specs.Memory.{Indices, Store, tuple}
use Rattle.cv_meaning.specs.Terms.{is_one, value}
use Rattle.cv_meaning.specs.Replaced.{replaced}
use Rattle.cv_scene.specs.lines.Truths.{no}
use Rattle.cv_scope_rules.specs.Context.{Context, known_at}
use Rattle.cv_scope_rules.specs.Made.{is_bound, is_own_of}
use Rattle.cv_scope_rules.specs.Phrases.{Phrase, Arm, Branches, Inputs, Term, is_phrase}
use Rattle.cv_scope_rules.specs.Scope.{is_variable}
use Rattle.cv_scope_runs.specs.Reads.{IsKept}
use Rattle.cv_scope_runs.proofs.Contexts.{Matches, bound_later}
use Rattle.cv_scope_runs.proofs.Games.{Game, stands_asked}
use Rattle.cv_scope_runs.proofs.Standing.{Stands, in_first, in_second, stands_known}
use Rattle.cv_scene.specs.Scenes.{part_at}
use Rattle.cv_steps.specs.Rewriting.{has_term_at}
use Rattle.cv_steps.proofs.Flat.{guarded_of, guards_of, is_of_terms}
use Rattle.cv_steps.proofs.Places.{InBranches, in_condition, in_body, later, branches, in_branches, nothing_there}
use Rattle.cv_rule_fresh.specs.collisions.Choices.{Choice, choice_above}
use Rattle.cv_rule_fresh.proofs.Missed.{Misses, misses_later}
use Rattle.cv_rule_fresh.proofs.Standing.{There, choice_down, last_of, terms_choose_none, there}
use Rattle.cv_rule_fresh.proofs.Values.{values_kept}

-- a term at a place of a game has the value 0 where a variable misses another term, and the variable is chosen above the place in the
-- same body
pub record Guess (g : Setting) (game : Tree) (place : ℕ) (old : Tree) (x : ℕ) (c : Choice) (other : Tree) : Type 0 where
  pub fine : Game g (is_variable game) game
  pub whole : is_phrase Inputs game ≡ true
  pub syntax_node : IsSyntax old
  pub above : choice_above game x place ≡ Some c
  pub false_there : (Γ : Context) → known_at game place ≡ Some Γ → (at : Indices) (m : Store) → Matches g (is_variable game) Γ.replications at → Misses g (is_variable game) x other at m → value g at m old ≡ value g at m no

-- the trees have the same candidates in a store
record HaveSameCandidates (g : Setting) (at : Indices) (x : Store) (a c : Tree) : Type 0 where
  indices : most_indices a ≡ most_indices c
  bounds : (bound : ℕ → ℕ) → widest bound a ≡ widest bound c
  candidates : (u : List ℕ) (k : ℕ) → candidates_at g at x u k a ≡ candidates_at g at x u k c

same_candidates : (g : Setting) (at : Indices) (x : Store) (a c : Tree) → HaveSameCandidates g at x a c → candidates g at x a ≡ candidates g at x c
unfolding candidates
same_candidates g at x a c h = λ i. flat_map (λ u. h.candidates u 0 i) (tuples_up_to (h.indices i) (h.bounds g.interpretation.parameter_value i))

-- one branch, with another condition
same_candidate : (g : Setting) (at : Indices) (x : Store) (us cells c d b : Tree) (u : List ℕ) (k : ℕ)
    → (fits g.interpretation.parameter_value us u ≡ true → value g at (bound_to x (tuple at) us u) c ≡ value g at (bound_to x (tuple at) us u) d)
    → candidate g at x u k (Node Branch us (Node Cons cells (Node Cons c b))) ≡ candidate g at x u k (Node Branch us (Node Cons cells (Node Cons d b)))
same_candidate g at x us cells c d b u k e = go (fits g.interpretation.parameter_value us u) refl (are_assigned g at x n cells)
  where
    n : Store
    n = bound_to x (tuple at) us u

    if_assigned : Bool → Tree → Bool
    if_assigned w t = elim w [ true ↦ is_one (value g at n t) | false ↦ false ]

    if_fits : Bool → Bool → List Candidate
    if_fits v w = elim v [ true ↦ cond w (record { branch = k; tuple = u } ∷ []) [] | false ↦ [] ]

    go : (v : Bool) → fits g.interpretation.parameter_value us u ≡ v → (w : Bool) → if_fits v (if_assigned w c) ≡ if_fits v (if_assigned w d)
    go false f w = refl
    go true f false = refl
    go true f true = ap (λ z. if_fits true (is_one z)) (e f)

module _ (g : Setting) (game : Tree) (place : ℕ) (old : Tree) (x : ℕ) (c : Choice) (other : Tree) (E : Guess g game place old x c other) where
  abbrev Miss : Indices → Store → Type 0
  Miss at m = Misses g (is_variable game) x other at m

  -- in a term of a tree that stands somewhere
  pub false_in : (σ : Phrase) → is_of_terms σ ≡ true → (t : Tree) (k : ℕ) {p : ℕ} {Γ : Context} (st : Stands game p σ Γ t) → is_phrase σ t ≡ true → has_term_at σ t k ≡ true → k < size t → p + k ≡ place → part_at t k ≡ old
      → (at : Indices) (m : Store) → Matches g (is_variable game) Γ.replications at → (last_of game x st ≡ Some c → Miss at m) → value g at m (part_at t k) ≡ value g at m no
  false_in σ s t k {p = p} {Γ = Γ} st w h l e o at m f miss =
      let z : There game p σ Γ t k = there game σ t k st w h in
      let there_old : Stands game place Term z.above old = subst (λ u. Stands game place Term z.above u) o (subst (λ n. Stands game n Term z.above (part_at t k)) e z.stands) in
      let last : last_of game x st ≡ Some c = sym (choice_down game x st k l ∙ terms_choose_none x (last_of game x st) σ t p k s w l) ∙ (ap (choice_above game x) e ∙ E.above) in
      subst (λ u. value g at m u ≡ value g at m no) (sym o)
      (E.false_there z.above (stands_known game place Term z.above old E.syntax_node there_old) at m (subst (λ rs. Matches g (is_variable game) rs at) (sym (z.replications s)) f) (miss last))

  kept_candidates : (t : Tree) (q : ℕ) {p : ℕ} {Γ : Context} (st : Stands game p Branches Γ t) → p + q ≡ place → part_at t q ≡ old → is_phrase Branches t ≡ true → has_term_at Branches t q ≡ true → (at : Indices) (m : Store)
      → Matches g (is_variable game) Γ.replications at → ((y : ℕ) → is_own_of t y ≡ true → m y (tuple at) ≡ None) → (last_of game x st ≡ Some c → Miss at m) → HaveSameCandidates g at m t (replaced t q no)
  unfolding is_phrase candidates_at size
  kept_candidates Empty q st e o w h at m f free miss = absurd (nothing_there Branches q h)
  kept_candidates (Node Cons (Node Branch us (Node Cons cells (Node Cons d b))) more) q {p = p} {Γ = Γ} st e o w h at m f free miss =
      go (in_branches no us cells d b more q h) (λ r k l y z i. kept_candidates more r (in_second refl st) k l y z at m f i miss)
    where
      arm : Tree → Tree
      arm z = Node Branch us (Node Cons cells (Node Cons z b))

      phrases : (is_phrase Arm (arm d) ≡ true) × (is_phrase Branches more ≡ true)
      phrases = and_parts (is_phrase Arm (arm d)) _ w

      condition : is_phrase Term d ≡ true
      condition = (and_parts (is_phrase Term d) _ (guarded_of us cells (Node Cons d b) more w)).0

      st_arm : Stands game (first_place p Cons) Arm Γ (arm d)
      st_arm = in_first refl st

      changed : (z : Tree) → ((u : List ℕ) (l : ℕ) → candidate g at m u l (arm d) ≡ candidate g at m u l (arm z)) → HaveSameCandidates g at m (branches us cells d b more) (branches us cells z b more)
      changed z k = record { indices = refl; bounds = λ bound. refl; candidates = λ u l. ap (λ cs. cs ++ candidates_at g at m u (suc l) more) (k u l) }

      kept : (u : List ℕ) → IsKept m (bound_to m (tuple at) us u)
      kept u = bound_later m (tuple at) us u (stands_asked g (is_variable game) game E.fine st_arm).0.distinct (λ y i. free y (or_left (is_bound us y) _ i))

      go : InBranches no us cells d b more q
          → ((r : ℕ) → second_place p Cons (arm d) + r ≡ place → part_at more r ≡ old → is_phrase Branches more ≡ true → has_term_at Branches more r ≡ true → ((y : ℕ) → is_own_of more y ≡ true → m y (tuple at) ≡ None) → HaveSameCandidates g at m more (replaced more r no))
          → HaveSameCandidates g at m (branches us cells d b more) (replaced (branches us cells d b more) q no)
      go (in_condition l z) ih =
          subst (HaveSameCandidates g at m (branches us cells d b more)) (sym z.next)
          (changed (replaced d l no) (λ u j. same_candidate g at m us cells d (replaced d l no) b u j
          (λ v.
          let n : Store = bound_to m (tuple at) us u in
          let guards = in_second refl st_arm in
          let guarded = in_second refl guards in
          values_kept g at n no Term d condition l z.term
          (false_in Term refl d l (in_first refl guarded) condition z.term z.below (let y = z.place in omega arith) (sym z.part ∙ o) at n f (λ i. misses_later g (is_variable game) x other at m n (kept u) (miss i))))))
      go (in_body l z) ih = subst (HaveSameCandidates g at m (branches us cells d b more)) (sym z.next) (record { indices = refl; bounds = λ bound. refl; candidates = λ u j. refl })
      go (later l z) ih =
          let r = ih l (let y = z.place in omega arith) (sym z.part ∙ o) phrases.1 z.term (λ y i. free y (or_right (is_bound us y) _ i)) in
          subst (HaveSameCandidates g at m (branches us cells d b more)) (sym z.next)
          (record { indices = ap (max (binder_count us)) r.indices; bounds = λ bound. ap (max (widest_binder bound us)) (r.bounds bound); candidates = λ u j. ap (λ cs. candidate g at m u j (arm d) ++ cs) (r.candidates u (suc j)) })
  kept_candidates (Node Cons (Node Branch us (Node Cons cells rest)) more) q st e o w h at m f free miss = absurd (both_ways false refl (guarded_of us cells rest more w))
  kept_candidates (Node Cons (Node Branch us rest) more) q st e o w h at m f free miss = absurd (both_ways false refl (guards_of us rest more w))
  kept_candidates t q st e o w h at m f free miss = absurd (both_ways false refl w)

  pub candidates_kept : (t : Tree) (q : ℕ) {p : ℕ} {Γ : Context} (st : Stands game p Branches Γ t) → p + q ≡ place → part_at t q ≡ old → is_phrase Branches t ≡ true → has_term_at Branches t q ≡ true → (at : Indices) (m : Store)
      → Matches g (is_variable game) Γ.replications at → ((y : ℕ) → is_own_of t y ≡ true → m y (tuple at) ≡ None) → (last_of game x st ≡ Some c → Miss at m) → candidates g at m t ≡ candidates g at m (replaced t q no)
  candidates_kept t q st e o w h at m f free miss = same_candidates g at m t (replaced t q no) (kept_candidates t q st e o w h at m f free miss)
