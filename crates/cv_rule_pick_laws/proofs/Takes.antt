-- The `find` takes its branch whenever it is visited.
use Rattle.std.proofs.Common.{◌≡◌, ℕ, suc, zero, ◌<◌, ◌%◌, not, Bool, true, false, List, [], ◌∷◌, length, map, slice_get, is_some, refl, sym, ap, subst, ◌∙◌, arith, nat_lt, lt-ltb}
use Rattle.std.proofs.lemmas.Bool.{both_ways, and_parts, and_from}
use Rattle.std.proofs.Math.Nat.{mod-lt}
use Rattle.std.specs.List.{AllByRecursion}
use Rattle.cv_syntax_trees.specs.declared.head.Head.TheVariants.{Binder, Branch, Cons, Leaf, Read}
use Rattle.cv_syntax_trees.specs.Tree.{Tree, Empty, Node}
use Rattle.cv_syntax_trees.specs.declared.sites.sort.Sort.{Sort}
use Rattle.cv_syntax_trees.specs.declared.sites.sort.Sort.TheVariants.{BelowParameter}
use Rattle.cv_syntax_trees.specs.sites.Sorts.{same_sort}
use Rattle.cv_meaning.specs.Binders.{bound_to, fits}
use Rattle.cv_meaning.specs.Candidates.{Candidate, candidates, chosen, is_assigned}
use Rattle.cv_meaning.specs.Interpretation.{Interpretation, Setting, setting_of}
use Rattle.cv_meaning.specs.Memory.{Indices, Local, Store, put, tuple}
use Rattle.cv_meaning.specs.Satisfies.{Satisfies}
use Rattle.cv_meaning.specs.Side.{no_side}
use Rattle.cv_meaning.specs.Terms.{value, values}
use Rattle.cv_meaning_laws.specs.Agreement.{AgreeOn}
use Rattle.cv_meaning_laws.specs.adequacy.Finds.{AreAssigned, AreIndices, IsAssigned, IsCandidateOf}
use Rattle.cv_meaning_laws.specs.adequacy.Typed as meaning
use Rattle.cv_meaning_laws.proofs.Listed.{Has}
use Rattle.cv_meaning_laws.proofs.adequacy.Finding.{candidates_mean}
use Rattle.cv_meaning_laws.proofs.adequacy.Lists.{contains_has}
use Rattle.cv_meaning_laws.proofs.adequacy.Sorted.{typed_value}
use Rattle.cv_meaning_chances.specs.thinning.Thinning.{binds_only}
use Rattle.cv_meaning_chances.specs.unread.Dropping.{reads_none}
use Rattle.cv_meaning_chances.proofs.unread.Unread.{put_aside, value_same, values_same}
use Rattle.cv_typing_runs.specs.Games.{context_of, sort_of_meaning}
use Rattle.cv_typing_runs.proofs.Models.{is_model}
use Rattle.cv_typing_runs.proofs.Terms.{same_sorts}
use Rattle.cv_scope_rules.specs.Context.{Context, cells_of, items}
use Rattle.cv_scope_rules.specs.Made.{is_bound, is_own_at}
use Rattle.cv_scope_rules.specs.Phrases.{Phrase, Cells, OneCell, Term, Terms, is_phrase}
use Rattle.cv_scope_rules.specs.Scope.{is_variable}
use Rattle.cv_scope_runs.specs.Promises.{BranchHolds}
use Rattle.cv_scope_runs.specs.Reads.{IsKept}
use Rattle.cv_scope_runs.proofs.Contexts.{Holds, Matches}
use Rattle.cv_scope_runs.proofs.Standing.{Stands, in_first, in_second, stands_known}
use Rattle.cv_scope_runs.proofs.TermsLater.{Readable, store_extends, value_kept}
use Rattle.cv_scene.specs.lines.Lines.{lines_of, statements}
use Rattle.cv_derive_laws.specs.stores.Holding.{IsReady}
use Rattle.cv_derive_laws.specs.stores.Soundness.{DerivationsHold}
use Rattle.cv_derive_laws.specs.stores.Truth.{IsTrue}
use Rattle.cv_derive_laws.proofs.reached.Reached.{same_indices}
use Rattle.cv_derive_laws.proofs.stores.Sites.{bound_keeps}
use Rattle.cv_derive_laws.proofs.stores.Terms.{term_sorted}
use Rattle.cv_scene.specs.Scenes.{Scene}
use Rattle.cv_scene.specs.Terms.{is_sort, is_term_at, replications_at}
use Rattle.cv_steps.specs.Rewriting.{sort_at}
use Rattle.cv_rule_pick.specs.Picking.{Arm, arm_place, guards, guards_with, with_terms}
use Rattle.cv_rule_pick_laws.proofs.Equal.{IsExpected, names_readable, one_context}
use Rattle.cv_rule_pick_laws.proofs.Names.{with_unread}
use Rattle.cv_rule_pick_laws.proofs.Picks as picks
use Rattle.cv_rule_pick_laws.proofs.Picks.{AllIndices, AllTerms, AreMatched, IsPick, branches_tree, guards_tree, indices_matched, indices_sorted, terms_weaker}
use Rattle.cv_rule_pick_laws.proofs.Terms.{AllBoth, same_values, with_kept}

-- a choice among some candidates

got : (cs : List Candidate) (i : ℕ) → i < length cs → is_some (slice_get cs i) ≡ true
got [] i l = absurd (omega arith)
got (c ∷ cs) zero l = refl
got (c ∷ cs) (suc i) l = got cs i (omega arith)

some_chosen : (cs : List Candidate) (c : Candidate) → Has cs c → (v : ℕ) → is_some (chosen cs v) ≡ true
unfolding chosen
some_chosen [] c h v = absurd h
some_chosen (d ∷ cs) c h v = got (d ∷ cs) (v % length (d ∷ cs)) (mod-lt v (omega arith))

-- what the derivation says

guards_true : (g : Setting) (at : Indices) (m : Store) (cells : List Tree) (c : Tree) → AllByRecursion (IsTrue g at m m) (statements (lines_of (guards cells c))) → AllByRecursion (λ d. is_assigned g at m m d ≡ true) cells × (value g at m c ≡ 1)
unfolding lines_of statements
guards_true g at m [] c k = (tt, k.0)
guards_true g at m (d ∷ more) c k = let r = guards_true g at m more c k.1 in ((k.0, r.0), r.1)

-- values of terms of index variables

indices_fit : (g : Setting) (us : Tree) (vs : List ℕ) → AreIndices g us vs → fits g.interpretation.parameter_value us vs ≡ true
indices_fit g Empty [] h = refl
indices_fit g (Node (Binder y T) a us) (v ∷ vs) h = and_from (nat_lt v (g.interpretation.parameter_value T)) _ (lt-ltb v (g.interpretation.parameter_value T) h.0) (indices_fit g us vs h.1)
indices_fit g us vs h = absurd h

pairs_equal : (g : Setting) (at : Indices) (m n : Store) (cs : List Tree) (ms : Tree) → map (value g at n) cs ≡ values g at m ms → AllTerms (λ t. value g at n t ≡ value g at m t) ms → AllBoth (λ c t. value g at n c ≡ value g at n t) cs ms
unfolding value values
pairs_equal g at m n [] ms e k = tt
pairs_equal g at m n (c ∷ cs) Empty e k = tt
pairs_equal g at m n (c ∷ cs) (Node h t ms) e k =
    let p = apart (value g at n c) (value g at m t) (map (value g at n) cs) (values g at m ms) e in
    (p.0 ∙ sym k.0, pairs_equal g at m n cs ms p.1 k.1)
  where
    apart : (x y : ℕ) (xs ys : List ℕ) → x ∷ xs ≡ y ∷ ys → (x ≡ y) × (xs ≡ ys)
    apart x y xs ys e = (cc, cc)

bound_aside : (xs : ℕ → Bool) (u : List ℕ) (x y : Store) → AgreeOn (λ z. not (xs z)) x y → (bs : Tree) (vs : List ℕ) → binds_only xs bs ≡ true → AgreeOn (λ z. not (xs z)) (bound_to x u bs vs) y
unfolding bound_to
bound_aside xs u x y e Empty vs f = e
bound_aside xs u x y e (Node (Binder z T) a b) [] f = e
bound_aside xs u x y e (Node (Binder z T) a b) (v ∷ vs) f = let r = and_parts (xs z) _ f in bound_aside xs u (put x z u v) y (put_aside xs x y e z u v r.0) b vs r.1
bound_aside xs u x y e (Node h a b) vs f = absurd (both_ways false refl f)

module _ (s : Scene) (place : ℕ) (ms d e next : Tree) (k : IsPick s place ms d e next) (ready : IsReady s.declarations s.game) (typed : AllTerms (λ m. is_term_at s place m ≡ true) ms) (phrases : AllTerms (λ m. is_phrase Term m ≡ true) ms) (i : Interpretation)
    (sat : Satisfies s.declarations i) (sound : DerivationsHold s.declarations) where
  abbrev game : Tree
  game = s.game

  abbrev g : Setting
  g = setting_of s.declarations i

  abbrev var : ℕ → Bool
  var = is_variable game

  abbrev a : Arm
  a = k.arm

  abbrev xs : ℕ → Bool
  xs = picks.xs s place ms d e next k ready i

  abbrev cs : List Tree
  cs = picks.cs s place ms d e next k ready i

  abbrev Γ : Context
  Γ = picks.Γ s place ms d e next k ready i

  abbrev found : Tree
  found = picks.found s place ms d e next k ready i

  abbrev picked : Tree → Tree
  picked t = with_terms cs ms t

  -- the values of the terms are below the parameters of the indices

  sorted_below : (at : Indices) (m : Store) → meaning.AreIndicesOf i (picks.rs s place ms d e next k ready i) at → meaning.IsTypedStore (context_of s.declarations game) i m → (T : ℕ) (t : Tree) → is_term_at s place t ≡ true → is_sort (sort_at s place t) (BelowParameter T) ≡ true
      → value g at m t < i.parameter_value T
  sorted_below at m indices types T t f h =
      let r = term_sorted s (replications_at s place) t ready.arguments ready.formed f in
      let one : r.0 ≡ BelowParameter T = sort_is r.0 (subst (λ o. is_sort o (BelowParameter T) ≡ true) r.1 h) in
      typed_value (context_of s.declarations game) i no_side (is_model s.declarations game i sat ready.sorts) (picks.rs s place ms d e next k ready i) at m indices types t (meaning.BelowParameter T)
      (subst (λ S. meaning.HasSort (context_of s.declarations game) (picks.rs s place ms d e next k ready i) t (sort_of_meaning S)) one r.2)
    where
      sort_is : (S : Sort) → same_sort S (BelowParameter T) ≡ true → S ≡ BelowParameter T
      sort_is S g = sym (same_sorts S (BelowParameter T) (ap not g))

  are_below : (at : Indices) (m : Store) → meaning.AreIndicesOf i (picks.rs s place ms d e next k ready i) at → meaning.IsTypedStore (context_of s.declarations game) i m → (us ns : Tree) → AllIndices (λ T t. is_sort (sort_at s place t) (BelowParameter T) ≡ true) us ns → AllTerms (λ t. is_term_at s place t ≡ true) ns
      → AreMatched us ns → AreIndices g us (values g at m ns)
  unfolding value values
  are_below at m indices types Empty Empty l q c = tt
  are_below at m indices types (Node (Binder y T) b us) (Node h t ns) l q c = (sorted_below at m indices types T t q.0 l.0, are_below at m indices types us ns l.1 q.1 c)
  are_below at m indices types us ns l q c = absurd c

  -- at a visit

  module _ (l : Local) (x : IsExpected s i ready (record { place = place; tree = found; before = l })) where
    abbrev at : Indices
    at = l.indices

    abbrev m : Store
    m = l.memory.store

    one : x.holds.above ≡ Γ
    one = one_context x.holds.above Γ (sym (stands_known game place x.holds.phrase x.holds.above found refl x.holds.stands) ∙ picks.find_known s place ms d e next k ready i)

    matches : Matches g var Γ.replications at
    matches = subst (λ (Ξ : Context). Matches g var Ξ.replications at) one x.holds.matches

    holds : Holds g var Γ at m l.memory.events
    holds = subst (λ (Ξ : Context). Holds g var Ξ at m l.memory.events) one x.holds.holds

    abbrev vs : List ℕ
    vs = values g at m ms

    abbrev n : Store
    n = bound_to m (tuple at) a.binders vs

    indices : AreIndices g a.binders vs
    indices =
        are_below at m (subst (λ qs. meaning.AreIndicesOf i qs at) (sym (picks.same_replications s place ms d e next k ready i)) (same_indices s.declarations i at Γ.replications matches.named)) x.types a.binders ms
        (indices_sorted s place a.binders ms k.indices) typed (indices_matched s place a.binders ms k.indices)

    branch : BranchHolds g Γ at l.memory n vs a.binders (guards_tree a a.body)
    branch = (x.candidates Γ (picks.find_known s place ms d e next k ready i)).0 vs (indices_fit g a.binders vs indices)

    own_values : map (value g at n) cs ≡ vs
    own_values = subst (λ qs. map (value g at n) (cells_of qs a.binders) ≡ vs) (sym (picks.same_replications s place ms d e next k ready i)) branch.own

    own_here : (y : ℕ) → is_bound a.binders y ≡ true → is_own_at found y ≡ true
    own_here y f = ap (λ t. is_own_at t y) (sym (picks.find s place ms d e next k ready i).is) ∙ (picks.own_is s place ms d e next k ready i y ∙ f)

    kept : IsKept m n
    kept = bound_keeps m (tuple at) a.binders vs (λ y f. x.own y (own_here y f))

    equal : AllBoth (λ c t. value g at n c ≡ value g at n t) cs ms
    equal =
        pairs_equal g at m n cs ms own_values
        (terms_weaker (λ t. Readable g var at m t) (λ t. value g at n t ≡ value g at m t) (λ t r. value_kept g var at m at n (store_extends g var at m n kept) t r) ms
        (names_readable s place ms d e next k ready phrases i sound at m l.memory.events matches holds))

    agree : AgreeOn (λ z. not (xs z)) n m
    agree = bound_aside xs (tuple at) m m (λ y u f. refl) a.binders vs (picks.binds_own s place ms d e next k ready i)

    lines : AllByRecursion (λ c. is_assigned g at m m c ≡ true) (map (with_terms cs ms) (items a.cells)) × (value g at m (picked a.condition) ≡ 1)
    lines = guards_true g at m (map (with_terms cs ms) (items a.cells)) (picked a.condition) (sound.targets s i place at m m e (guards_with cs ms a) (x.derived refl).0 k.at_find)

    unread : (t : Tree) {q : ℕ} {σ : Phrase} {Θ : Context} → Stands game q σ Θ t → arm_place place < q → reads_none xs (picked t) ≡ true
    unread t st f =
        with_unread g game (picks.fine s place ms d e next k ready i) xs cs (arm_place place) (picks.behind s place ms d e next k ready i) (picks.cells_are s place ms d e next k ready i) k.named ms (picks.paired s place ms d e next k ready i)
        (picks.both_unread s place ms d e next k ready i) t st f

    condition : value g at n a.condition ≡ 1
    condition =
        same_values cs ms (picks.cells_are s place ms d e next k ready i) g at n equal Term a.condition (picks.phrases s place ms d e next k ready i).condition
        ∙ (value_same g at xs n m agree (picked a.condition) (unread a.condition (picks.condition_stands s place ms d e next k ready i) (omega arith)) ∙ lines.1)

    one_assigned : (c : Tree) {q : ℕ} {Θ : Context} → Stands game q OneCell Θ c → arm_place place < q → is_phrase OneCell c ≡ true → is_assigned g at m m (picked c) ≡ true → IsAssigned g at m n c
    unfolding is_phrase
    one_assigned (Node (Leaf y) p q) st f w h =
        sym (ap (is_assigned g at m m) (with_kept cs ms (picks.cells_are s place ms d e next k ready i) (Leaf y) p q (picks.none_here s place ms d e next k ready i (Node (Leaf y) p q) st))) ∙ h
    one_assigned (Node (Read y) p q) st f w h =
        let r = and_parts (is_phrase Terms p) _ w in
        let same : values g at n p ≡ values g at m (picked p) =
        same_values cs ms (picks.cells_are s place ms d e next k ready i) g at n equal Terms p r.0 ∙ values_same g at xs n m agree (picked p) (unread p (in_first refl st) (omega arith)) in
        ap (λ u. is_some (m y u)) same ∙ (sym (ap (is_assigned g at m m) (with_kept cs ms (picks.cells_are s place ms d e next k ready i) (Read y) p q (picks.none_here s place ms d e next k ready i (Node (Read y) p q) st))) ∙ h)
    one_assigned c st f w h = absurd (both_ways false refl w)

    all_assigned : (t : Tree) {q : ℕ} {Θ : Context} → Stands game q Cells Θ t → arm_place place < q → is_phrase Cells t ≡ true → AllByRecursion (λ c. is_assigned g at m m c ≡ true) (map (with_terms cs ms) (items t)) → AreAssigned g at m n t
    unfolding is_phrase
    all_assigned Empty st f w h = tt
    all_assigned (Node Cons c more) st f w h =
        let r = and_parts (is_phrase OneCell c) _ w in
        (one_assigned c (in_first refl st) (omega arith) r.0 h.0, all_assigned more (in_second refl st) (omega arith) r.1 h.1)
    all_assigned t st f w h = absurd (both_ways false refl w)

    abbrev taken : Candidate
    taken = record { branch = 0; tuple = vs }

    candidate_there : IsCandidateOf g at m (branches_tree a a.body) taken
    candidate_there = (
      Node Branch a.binders (guards_tree a a.body),
      refl,
      record {
        indices = indices;
        defined = all_assigned a.cells (picks.cells_stand s place ms d e next k ready i) (omega arith) (picks.phrases s place ms d e next k ready i).cells lines.0;
        condition = condition;
      },
    )

    pub takes : (v : ℕ) → is_some (chosen (candidates g at m (branches_tree a a.body)) v) ≡ true
    takes v = some_chosen (candidates g at m (branches_tree a a.body)) taken (contains_has (candidates g at m (branches_tree a a.body)) taken ((candidates_mean g at m (branches_tree a a.body) taken).1 candidate_there)) v
