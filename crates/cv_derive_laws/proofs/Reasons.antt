-- A line that is right by its reason is true, where the lines that it cites are.
use Rattle.std.proofs.Common.{◌≡◌, ℕ, zero, suc, ◌<◌, Bool, true, false, cond, is_some, ◌&&◌, ◌||◌, ◌==◌, not, nat_lt, lt-ltb, List, [], ◌∷◌, ◌++◌, map, zip, ◌⊎◌, inl, inr, Option, Some, None, refl, sym, ap, ap₂, subst, ◌∙◌, eqb-true, eq-eqb}
use Rattle.std.specs.Prelude.{option_map, slice_get}
use Rattle.std.proofs.lemmas.Bool.{both_ways, and_from, and_parts}
use Rattle.std.specs.List.{AllByRecursion, list_any}
use Rattle.cv_syntax_trees.specs.declared.head.Head.{Head}
use Rattle.cv_syntax_trees.specs.declared.head.Head.TheVariants as head
use Rattle.cv_syntax_trees.specs.declared.head.Head.TheVariants.{Leaf, Read, Apply, Eq, And, Or, Not, Binder, Cons, Forall}
use Rattle.cv_syntax_trees.specs.Declarations.{Declaration, Named, Equation, Equiv, Query}
use Rattle.cv_syntax_trees.specs.Head.{same_head}
use Rattle.cv_syntax_trees.specs.Tree.{Tree, Empty, Node, bound_names, first, second, same_tree}
use Rattle.cv_syntax_trees.proofs.Equality.{same_head_exact, same_tree_exact}
use Rattle.cv_meaning.specs.Interpretation.{Interpretation, Setting, is_constant_of, setting_of}
use Rattle.cv_meaning.specs.Memory.{Indices, Store, nowhere, tuple}
use Rattle.cv_meaning.specs.Terms.{bit, found_in, is_one, leaf_value, leaf_value_from, or_zero, value, values}
use Rattle.cv_meaning.specs.Binders.{fits}
use Rattle.cv_meaning.specs.Candidates.{is_assigned}
use Rattle.cv_meaning.specs.Satisfies.{DeclarationHolds, EquationHolds, Satisfies}
use Rattle.cv_meaning_laws.specs.adequacy.Typed as meaning
use Rattle.cv_meaning_laws.specs.adequacy.Typed.{HasSort, Scope, boolean}
use Rattle.cv_scope_rules.specs.Context.{items}
use Rattle.cv_scope_rules.specs.Phrases.{IsWellFormed, OneCell, Term, is_phrase}
use Rattle.cv_syntax_trees.specs.declared.sites.sort.Sort.{Sort}
use Rattle.cv_syntax_trees.specs.declared.sites.sort.Sort.TheVariants.{BelowParameter, OfType}
use Rattle.cv_scope_rules.specs.typing.Signature.{sort_of}
use Rattle.cv_syntax_trees.specs.sites.Sorts.{same_sort}
use Rattle.cv_scope_runs.specs.Promises.{AreIndicesOf}
use Rattle.cv_typing_runs.specs.Games.{HasArguments, context_of, sort_of_meaning}
use Rattle.cv_typing_runs.proofs.Terms.{same_sorts}
use Rattle.cv_scene.specs.Terms.{above_under, is_sort, is_term_under, signature_in}
use Rattle.cv_derive_laws.proofs.stores.Terms.{term_sorted}
use Rattle.cv_scene.specs.lines.Given.{with_given}
use Rattle.cv_scene.specs.lines.Inferences.{Visible, are_equal_by, cell_in, cited_cell, is_both, is_left, is_refuted, is_reflexive, is_replaced_by, is_right_side, is_symmetric, is_transitive, number_of, cited_term, term_in}
use Rattle.cv_scene.specs.lines.Lines.{Statement, Holds, IsDefined}
use Rattle.cv_scene.specs.Late.{are_current, index_term, is_alone, is_late, is_late_cell, is_next, without_next}
use Rattle.cv_scene.specs.Reasons.{are_congruent_by, are_equal_in, are_of_types, arguments, equations_in, is_cell_of, is_congruent, is_distinct_of, is_fact_of, is_given_of, is_instance, is_reason_of_cell, is_tree}
use Rattle.cv_scene.specs.Sights.{Pair, Sight, from_one, is_cell_under, is_term_of, is_typed, site_cells, site_facts}
use Rattle.cv_scene.specs.lines.Truths.{is_truth, no}
use Rattle.cv_derive_laws.specs.stores.Truth.{AreAssigned, AreTrue, HasClosedEquations, IfBeside, IfEquation, IsClosedEquation, IsMetBeside, IsReached, IsTrue, WasReached, is_name_of}
use Rattle.cv_derive_laws.proofs.Substitution.{names_of, put_value}
use Rattle.cv_derive_laws.proofs.Truths.{IsBit, below_two, bit_true, equal_true, nought_one, true_equal, truth_holds}
use Rattle.cv_syntax_trees.proofs.lists.Tests.{or_cases}

-- lists

item_holds : {A : Type 0} (P : A → Type 0) (xs : List A) (k : ℕ) (x : A) → AllByRecursion P xs → from_one xs k ≡ Some x → P x
item_holds P xs zero x h e = absurd (cc)
item_holds {A = A} P xs (suc k) x h e = go xs k h e
  where
    go : (xs : List A) (k : ℕ) → AllByRecursion P xs → slice_get xs k ≡ Some x → P x
    go [] k h e = absurd (cc)
    go (y ∷ xs) zero h e = let q : y ≡ x = cc in subst P q h.0
    go (y ∷ xs) (suc k) h e = go xs k h.1 e

any_holds : (P : Tree → Type 0) (c : Tree) (cs : List Tree) → AllByRecursion P cs → list_any (same_tree c) cs ≡ true → P c
any_holds P c [] h e = absurd (both_ways false refl e)
any_holds P c (d ∷ cs) h e = go (or_cases (same_tree c d) _ e) (any_holds P c cs h.1)
  where
    go : (same_tree c d ≡ true) ⊎ (list_any (same_tree c) cs ≡ true) → (list_any (same_tree c) cs ≡ true → P c) → P c
    go (inl k) f = subst P (sym (same_tree_exact c d k)) h.0
    go (inr k) f = f k

-- what is said of equations, of each that is declared
equations_hold : (g : Setting) (all ds : List Declaration) → AllByRecursion (IfEquation all) ds → AllByRecursion (DeclarationHolds g) ds → AllByRecursion (λ e. IsClosedEquation all e × EquationHolds g e) (equations_in ds)
equations_hold g all [] a b = tt
equations_hold g all (Equation t ∷ ds) a b = ((a.0, b.0), equations_hold g all ds a.1 b.1)
equations_hold g all (Named x c args r ∷ ds) a b = equations_hold g all ds a.1 b.1
equations_hold g all (Equiv x t ∷ ds) a b = equations_hold g all ds a.1 b.1
equations_hold g all (Query t ∷ ds) a b = equations_hold g all ds a.1 b.1

-- a name of indices has a value
pub named_found : (ix : Indices) (x : ℕ) → is_name_of (names_of ix) x ≡ true → found_in ix x ≡ None → ⊥
named_found [] x e f = both_ways false refl e
named_found (p ∷ ix) x e f = go (p.0 == x) e f (named_found ix x)
  where
    go : (b : Bool) → (b || is_name_of (names_of ix) x) ≡ true → cond b (Some p.1) (found_in ix x) ≡ None → (is_name_of (names_of ix) x ≡ true → found_in ix x ≡ None → ⊥) → ⊥
    go true e f k = cc
    go false e f k = k e f

not_empty : (t : Tree) → is_phrase Term t ≡ true → t ≡ Empty → ⊥
unfolding is_phrase
not_empty Empty e f = both_ways false refl e
not_empty (Node h a b) e f = cc

no_cell_empty : (t : Tree) → is_phrase OneCell t ≡ true → t ≡ Empty → ⊥
unfolding is_phrase
no_cell_empty Empty e f = both_ways false refl e
no_cell_empty (Node h a b) e f = cc

module _ (s : Sight) (i : Interpretation) (at : Indices) (m n : Store) (r : WasReached s i at m n) (term_for : HasArguments s.scene.declarations) (well : IsWellFormed s.scene.declarations s.scene.game) (model : Satisfies s.scene.declarations i) (closed : HasClosedEquations s.scene.declarations) where
  abbrev pub g : Setting
  g = setting_of s.scene.declarations i

  abbrev pub c : meaning.Context
  c = context_of s.scene.declarations s.scene.game

  abbrev pub rs : Scope
  rs = s.replications

  abbrev pub V : Tree → ℕ
  V t = value g at n t

  abbrev pub IsTerm : Tree → Type 0
  IsTerm t = is_term_under s.scene s.replications t ≡ true

  pub sorted_term : (t : Tree) → IsTerm t → (S : Sort) × (sort_of (signature_in s.scene) (above_under s.replications) t ≡ Some S) × HasSort c rs t (sort_of_meaning S)
  sorted_term t e = term_sorted s.scene s.replications t term_for well e

  term_there : (t : Tree) → IsTerm t → t ≡ Empty → ⊥
  term_there t e = not_empty t (and_parts (is_phrase Term t) _ e).0

  pub bits : (t : Tree) → HasSort c rs t boolean → IsBit (V t)
  bits t h = below_two (V t) (subst (λ k. V t < k) model.bool (r.types t boolean h))

  -- the lines that may be cited

  pub record IsFine (t : Statement) : Type 0 where
    pub holds : IsTrue g at m n t
    pub typed : is_typed s t ≡ true

  abbrev pub AreFine : Visible → Type 0
  AreFine v = (k : ℕ) (t : Statement) → v k ≡ Some t → IsFine t

  -- what is assumed
  abbrev pub IsAssumed : Tree → Type 0
  IsAssumed a = (a ≡ Empty → ⊥) → V a ≡ 1

  pub equal : (a b : Tree) → V a ≡ V b → V (Node Eq a b) ≡ 1
  equal = equal_true g c rs at n bits

  pub equals : (a b : Tree) → V (Node Eq a b) ≡ 1 → V a ≡ V b
  equals = true_equal g c rs at n bits

  module _ (v : Visible) (fine : AreFine v) where
    said_true : (l : Tree) → (cited_term v l ≡ Empty → ⊥) → V (cited_term v l) ≡ 1
    said_true l k = go (v (number_of l)) refl k
      where
        go : (o : Option Statement) → v (number_of l) ≡ o → (term_in o ≡ Empty → ⊥) → V (term_in o) ≡ 1
        go None e k = absurd (k refl)
        go (Some (Holds t)) e k = (fine (number_of l) (Holds t) e).holds
        go (Some (IsDefined d)) e k = absurd (k refl)

    cell_said : (l : Tree) → (cited_cell v l ≡ Empty → ⊥) → IsFine (IsDefined (cited_cell v l))
    cell_said l k = go (v (number_of l)) refl k
      where
        go : (o : Option Statement) → v (number_of l) ≡ o → (cell_in o ≡ Empty → ⊥) → IsFine (IsDefined (cell_in o))
        go None e k = absurd (k refl)
        go (Some (Holds t)) e k = absurd (k refl)
        go (Some (IsDefined d)) e k = fine (number_of l) (IsDefined d) e

    -- a line that is this term
    said_is : (l t : Tree) (h : Head) (a b : Tree) → cited_term v l ≡ t → t ≡ Node h a b → V t ≡ 1
    said_is l t h a b e f = ap V (sym e) ∙ said_true l (λ z. clash (sym f ∙ (sym e ∙ z)))
      where
        clash : Node h a b ≡ Empty → ⊥
        clash z = cc

    tree_is : (o : Option Tree) (t : Tree) → is_tree o t ≡ true → o ≡ Some t
    tree_is None t e = absurd (both_ways false refl e)
    tree_is (Some u) t e = ap Some (sym (same_tree_exact t u e))

    -- facts of the place, and of sites

    pub by_fact : (k : ℕ) (t : Tree) → is_tree (from_one s.facts k) t ≡ true → V t ≡ 1
    by_fact k t e = item_holds (λ f. V f ≡ 1) s.facts k t r.facts (tree_is (from_one s.facts k) t e)

    site_holds : (d : Tree) → (d ≡ Empty → ⊥) ⊎ (d ≡ Empty) → ((d ≡ Empty → ⊥) → IsFine (IsDefined d)) → AreTrue g at m n (site_facts s d) × AreAssigned g at m n (site_cells s d)
    site_holds d (inl k) f = let x = f k in r.sites d x.typed x.holds
    site_holds d (inr e) f = subst (λ d. AreTrue g at m n (site_facts s d) × AreAssigned g at m n (site_cells s d)) (sym e) (tt, tt)

    is_empty : (t : Tree) → (t ≡ Empty → ⊥) ⊎ (t ≡ Empty)
    is_empty Empty = inr refl
    is_empty (Node h a b) = inl (λ e. cc)

    cited_site : (l : Tree) → AreTrue g at m n (site_facts s (cited_cell v l)) × AreAssigned g at m n (site_cells s (cited_cell v l))
    cited_site l = site_holds (cited_cell v l) (is_empty (cited_cell v l)) (cell_said l)

    pub by_site : (l : Tree) (k : ℕ) (t : Tree) → is_tree (from_one (site_facts s (cited_cell v l)) k) t ≡ true → V t ≡ 1
    by_site l k t e = item_holds (λ f. V f ≡ 1) (site_facts s (cited_cell v l)) k t (cited_site l).0 (tree_is (from_one (site_facts s (cited_cell v l)) k) t e)

    -- equality

    pub by_refl : (t : Tree) → is_reflexive t ≡ true → V t ≡ 1
    by_refl Empty e = absurd (both_ways false refl e)
    by_refl (Node Eq a b) e = equal a b (ap V (same_tree_exact a b e))
    by_refl (Node h a b) e = absurd (both_ways false refl e)

    pub by_sym : (l u t : Tree) → cited_term v l ≡ u → is_symmetric u t ≡ true → V t ≡ 1
    by_sym l (Node Eq x y) (Node Eq a b) f e =
        let p = and_parts (same_tree a y) (same_tree b x) e in
        equal a b (ap V (same_tree_exact a y p.0) ∙ (sym (equals x y (said_is l (Node Eq x y) Eq x y f refl)) ∙ sym (ap V (same_tree_exact b x p.1))))
    by_sym l u t f e = absurd (both_ways false refl e)

    pub by_trans : (l k u w t : Tree) → cited_term v l ≡ u → cited_term v k ≡ w → is_transitive u w t ≡ true → V t ≡ 1
    by_trans l k (Node Eq w x) (Node Eq y z) (Node Eq a b) f h e =
        let p = and_parts (same_tree x y) _ e in
        let q = and_parts (same_tree a w) (same_tree b z) p.1 in
        equal a b (ap V (same_tree_exact a w q.0) ∙ (equals w x (said_is l (Node Eq w x) Eq w x f refl) ∙ (ap V (same_tree_exact x y p.0) ∙ (equals y z (said_is k (Node Eq y z) Eq y z h refl) ∙ sym (ap V (same_tree_exact b z q.1))))))
    by_trans l k u w t f h e = absurd (both_ways false refl e)

    -- congruence

    items_values : (t : Tree) → values g at n t ≡ map V (items t)
    unfolding values
    items_values Empty = refl
    items_values (Node h a b) = ap (λ vs. V a ∷ vs) (items_values b)

    equal_by : (ls xs ys : List Tree) → are_equal_by v ls xs ys ≡ true → map V xs ≡ map V ys
    equal_by [] [] [] e = refl
    equal_by (l ∷ ls) (a ∷ xs) (b ∷ ys) e =
        let p = and_parts (same_tree (cited_term v l) (Node Eq a b)) _ e in
        ap₂ ◌∷◌ (equals a b (said_is l (Node Eq a b) Eq a b (same_tree_exact (cited_term v l) (Node Eq a b) p.0) refl)) (equal_by ls xs ys p.1)
    equal_by ls xs ys e = absurd (both_ways false refl e)

    one_same : (a b : Tree) → map V (a ∷ []) ≡ map V (b ∷ []) → V a ≡ V b
    one_same a b e = cc

    two_same : (a b d e : Tree) → map V (a ∷ b ∷ []) ≡ map V (d ∷ e ∷ []) → (V a ≡ V d) × (V b ≡ V e)
    two_same a b d e f = (cc, cc)

    same_cong : (h : Head) (a b d e : Tree) (ls : List Tree) → are_congruent_by v ls (arguments s h a b) (arguments s h d e) ≡ true → V (Node h a b) ≡ V (Node h d e)
    unfolding value
    same_cong (Apply f) a b d e ls k = ap (g.interpretation.table f) (items_values a ∙ (equal_by ls (items a) (items d) k ∙ sym (items_values d)))
    same_cong (Read x) a b d e ls k = ap (λ u. or_zero (n x u)) (items_values a ∙ (equal_by ls (items a) (items d) k ∙ sym (items_values d)))
    same_cong (Leaf x) a b d e ls k = refl
    same_cong Eq a b d e ls k = let q = two_same a b d e (equal_by ls (a ∷ b ∷ []) (d ∷ e ∷ []) k) in ap₂ (λ x y. bit (x == y)) q.0 q.1
    same_cong And a b d e ls k = let q = two_same a b d e (equal_by ls (a ∷ b ∷ []) (d ∷ e ∷ []) k) in ap₂ (λ x y. bit (is_one x && is_one y)) q.0 q.1
    same_cong Or a b d e ls k = let q = two_same a b d e (equal_by ls (a ∷ b ∷ []) (d ∷ e ∷ []) k) in ap₂ (λ x y. bit (is_one x || is_one y)) q.0 q.1
    same_cong Not a b d e ls k = ap (λ x. bit (not (is_one x))) (one_same a d (equal_by ls (a ∷ []) (d ∷ []) k))
    same_cong h a b d e ls k = absurd (both_ways false refl k)

    pub by_cong : (ls t : Tree) → is_congruent s v ls t ≡ true → V t ≡ 1
    by_cong ls (Node Eq (Node h a b) (Node k d e)) f =
        let p = and_parts (same_head h k) _ f in
        equal (Node h a b) (Node k d e)
        (subst (λ k. are_congruent_by v (items ls) (arguments s h a b) (arguments s k d e) ≡ true → V (Node h a b) ≡ V (Node k d e)) (same_head_exact h k p.0) (same_cong h a b d e (items ls)) p.1)
    by_cong ls t f = absurd (both_ways false refl f)

    -- connectives

    pub by_mp : (l k u w t : Tree) → cited_term v l ≡ u → cited_term v k ≡ w → is_replaced_by u w t ≡ true → V t ≡ 1
    by_mp l k (Node h a b) (Node Eq x y) t f j e =
        let p = and_parts (same_tree (Node h a b) x) (same_tree t y) e in
        ap V (same_tree_exact t y p.1) ∙ (sym (equals x y (said_is k (Node Eq x y) Eq x y j refl)) ∙ (sym (ap V (same_tree_exact (Node h a b) x p.0)) ∙ said_is l (Node h a b) h a b f refl))
    by_mp l k u w t f j e = absurd (both_ways false refl e)

    sort_there : (t : Tree) (S : meaning.Sort) → HasSort c rs t S → t ≡ Empty → ⊥
    unfolding HasSort
    sort_there Empty S h e = h
    sort_there (Node k a b) S h e = cc

    pub by_and : (l k u w t : Tree) (S : meaning.Sort) → HasSort c rs t S → cited_term v l ≡ u → cited_term v k ≡ w → is_both u w t ≡ true → V t ≡ 1
    unfolding value HasSort
    by_and l k u w Empty S h f j e = absurd (both_ways false refl e)
    by_and l k u w (Node And a b) S h f j e =
        let p = and_parts (same_tree a u) (same_tree b w) e in
        let x : a ≡ cited_term v l = same_tree_exact a u p.0 ∙ sym f in
        let y : b ≡ cited_term v k = same_tree_exact b w p.1 ∙ sym j in
        let va : V a ≡ 1 = ap V x ∙ said_true l (λ z. sort_there a boolean h.1 (x ∙ z)) in
        let vb : V b ≡ 1 = ap V y ∙ said_true k (λ z. sort_there b boolean h.2 (y ∙ z)) in
        ap₂ (λ x y. bit (is_one x && is_one y)) va vb
    by_and l k u w (Node q a b) S h f j e = absurd (both_ways false refl e)

    both_true : (a b : Tree) → V (Node And a b) ≡ 1 → (V a ≡ 1) × (V b ≡ 1)
    unfolding value
    both_true a b e = let p = and_parts (is_one (V a)) (is_one (V b)) (bit_true _ e) in (eqb-true (V a) 1 p.0, eqb-true (V b) 1 p.1)

    pub by_left : (l u t : Tree) → cited_term v l ≡ u → is_left u t ≡ true → V t ≡ 1
    by_left l (Node And a b) t f e = ap V (same_tree_exact t a e) ∙ (both_true a b (said_is l (Node And a b) And a b f refl)).0
    by_left l u t f e = absurd (both_ways false refl e)

    pub by_right : (l u t : Tree) → cited_term v l ≡ u → is_right_side u t ≡ true → V t ≡ 1
    by_right l (Node And a b) t f e = ap V (same_tree_exact t b e) ∙ (both_true a b (said_is l (Node And a b) And a b f refl)).1
    by_right l u t f e = absurd (both_ways false refl e)

    not_both_true : (a b : Tree) → V a ≡ 1 → V (Node Not a b) ≡ 1 → ⊥
    unfolding value
    not_both_true a b e f = both_ways false refl (sym (ap (λ x. not (is_one x)) e) ∙ bit_true (not (is_one (V a))) f)

    pub by_contra : (l k u w t : Tree) → cited_term v l ≡ u → cited_term v k ≡ w → is_refuted u w t ≡ true → V t ≡ 1
    by_contra l k (Node h a b) (Node Not x d) t f j e =
        let p = and_parts (same_tree (Node h a b) x) (same_tree t no) e in
        absurd (not_both_true x d (sym (ap V (same_tree_exact (Node h a b) x p.0)) ∙ said_is l (Node h a b) h a b f refl) (said_is k (Node Not x d) Not x d j refl))
    by_contra l k u w t f j e = absurd (both_ways false refl e)

    no_false : (t : Tree) → t ≡ no → V t ≡ 1 → ⊥
    unfolding value
    no_false t e f = nought_one (V t) (ap V e) f

    pub said_no : (l : Tree) → same_tree (cited_term v l) no ≡ true → ⊥
    said_no l e = let q = same_tree_exact (cited_term v l) no e in no_false (cited_term v l) q (said_is l (cited_term v l) head.No Empty Empty refl q)

    pub by_again : (l t : Tree) → IsTerm t → same_tree t (cited_term v l) ≡ true → V t ≡ 1
    by_again l t k e = let q = same_tree_exact t (cited_term v l) e in ap V q ∙ said_true l (λ z. term_there t k (q ∙ z))

    -- what comes later than the place isn't assigned

    index_value : (q p : ℕ × ℕ) → p.0 ≡ q.0 → found_in at p.0 ≡ Some p.1 → V (index_term q) ≡ p.1
    unfolding value
    index_value q p e f = ap (leaf_value g at n) (sym e) ∙ ap (leaf_value_from g n p.0) f

    next_said : (ls : List Tree) (a b : Tree) → is_next v ls (Node Eq a b) ≡ true → V a ≡ V b
    next_said [] a b e = absurd (both_ways false refl e)
    next_said (l ∷ ls) a b e = equals a b (said_is l (Node Eq a b) Eq a b (same_tree_exact (cited_term v l) (Node Eq a b) e) refl)

    -- terms that are the outermost current indices have their values
    current_values : (qs : List (ℕ × ℕ)) (ix : Indices) → AreIndicesOf g ix qs → AllByRecursion (λ (p : ℕ × ℕ). found_in at p.0 ≡ Some p.1) ix → (ms ls : List Tree) → are_current v qs ms ls ≡ true → (more : List ℕ) × (map V ms ++ more ≡ tuple ix)
    current_values qs ix k f [] ls e = (tuple ix, refl)
    current_values [] ix k f (a ∷ ms) ls e = absurd (both_ways false refl e)
    current_values (q ∷ qs) [] k f (a ∷ ms) ls e = absurd k
    current_values (q ∷ qs) (p ∷ ix) k f (a ∷ ms) ls e = go (same_tree a (index_term q)) refl e (λ js h. current_values qs ix k.2 f.1 ms js h)
      where
        behind : ((js : List Tree) → are_current v qs ms js ≡ true → (more : List ℕ) × (map V ms ++ more ≡ tuple ix)) → (js : List Tree) → are_current v qs ms js ≡ true → V a ≡ p.1 → (more : List ℕ) × (V a ∷ (map V ms ++ more) ≡ p.1 ∷ tuple ix)
        behind rest js h z = let y = rest js h in (y.0, ap₂ ◌∷◌ z y.1)

        go : (b : Bool) → same_tree a (index_term q) ≡ b → cond b (are_current v qs ms ls) (is_next v ls (Node Eq a (index_term q)) && are_current v qs ms (without_next ls)) ≡ true → ((js : List Tree) → are_current v qs ms js ≡ true → (more : List ℕ) × (map V ms ++ more ≡ tuple ix)) → (more : List ℕ) × (V a ∷ (map V ms ++ more) ≡ p.1 ∷ tuple ix)
        go true h z rest = behind rest ls z (ap V (same_tree_exact a (index_term q) h) ∙ index_value q p k.0 f.0)
        go false h z rest =
            let w = and_parts (is_next v ls (Node Eq a (index_term q))) _ z in
            behind rest (without_next ls) w.1 (next_said ls a (index_term q) w.0 ∙ index_value q p k.0 f.0)

    unassigned : (o : Option ℕ) → o ≡ None → is_some o ≡ true → ⊥
    unassigned o e f = both_ways (is_some o) (ap is_some e) f

    late_cell : IsReached s i at m n → (d ls : Tree) → is_assigned g at m n d ≡ true → is_late_cell s v d ls ≡ true → ⊥
    late_cell now Empty ls h e = both_ways false refl (and_parts (is_alone s.pair) _ e).1
    late_cell now (Node (Leaf y) a b) ls h e =
        let p = and_parts (is_late y s.scene.game s.place) _ (and_parts (is_alone s.pair) _ e).1 in
        unassigned (m y []) (now.late y [] (tuple at) p.0 refl) h
    late_cell now (Node (Read y) a b) ls h e =
        let p = and_parts (is_late y s.scene.game s.place) _ (and_parts (is_alone s.pair) _ e).1 in
        let q = current_values s.replications at r.indices now.found (items a) (items ls) p.1 in
        unassigned (m y (values g at n a)) (now.late y (values g at n a) q.0 p.0 (ap (λ us. us ++ q.0) (items_values a) ∙ q.1)) h
    late_cell now (Node k a b) ls h e = both_ways false refl h

    late_line : IsReached s i at m n → (d ls : Tree) → ((d ≡ Empty → ⊥) → IsFine (IsDefined d)) → is_late_cell s v d ls ≡ true → ⊥
    late_line now Empty ls f e = both_ways false refl (and_parts (is_alone s.pair) _ e).1
    late_line now (Node k a b) ls f e = late_cell now (Node k a b) ls (f (λ z. cc)).holds e

    pub by_late : IsReached s i at m n → (l ls : Tree) → is_late_cell s v (cited_cell v l) ls ≡ true → ⊥
    by_late now l ls e = late_line now (cited_cell v l) ls (cell_said l) e

    pub by_given : (a t : Tree) → IsAssumed a → IsTerm t → same_tree t a ≡ true → V t ≡ 1
    by_given a t h k e = let q = same_tree_exact t a e in ap V q ∙ h (λ z. term_there t k (q ∙ z))

    pub by_truth : (t : Tree) → IsTerm t → is_truth t ≡ true → V t ≡ 1
    by_truth t k e = let x = sorted_term t k in truth_holds g c rs at n bits t (sort_of_meaning x.0) x.2 e

    -- what a second copy adds

    pub by_other_fact : (k : ℕ) (t : Tree) (o : Option Pair) → IfBeside g at m n o → is_fact_of o k t ≡ true → V t ≡ 1
    by_other_fact k t None h e = absurd (both_ways false refl e)
    by_other_fact k t (Some o) h e = item_holds (λ f. V f ≡ 1) o.facts k t h.facts (tree_is (from_one o.facts k) t e)

    pub by_same : (k : ℕ) (t : Tree) (o : Option Pair) → IfBeside g at m n o → is_given_of o k t ≡ true → V t ≡ 1
    by_same k t None h e = absurd (both_ways false refl e)
    by_same k t (Some o) h e = item_holds (λ f. V f ≡ 1) o.given k t h.given (tree_is (from_one o.given k) t e)

    by_other_here : (d : Tree) (o : Option Pair) → IfBeside g at m n o → is_cell_of o d ≡ true → is_assigned g at m n d ≡ true
    by_other_here d None h e = absurd (both_ways false refl e)
    by_other_here d (Some o) h e = any_holds (λ x. is_assigned g at m n x ≡ true) d o.cells h.cells e

    item_values : (ts : List Tree) (k : ℕ) → option_map V (from_one ts k) ≡ from_one (map V ts) k
    item_values ts zero = refl
    item_values ts (suc k) = go ts k
      where
        go : (ts : List Tree) (k : ℕ) → option_map V (slice_get ts k) ≡ slice_get (map V ts) k
        go [] k = refl
        go (t ∷ ts) zero = refl
        go (t ∷ ts) (suc k) = go ts k

    equal_items : (a b : Option Tree) (t : Tree) → option_map V a ≡ option_map V b → are_equal_in a b t ≡ true → V t ≡ 1
    equal_items (Some a) (Some b) t e f = let q : V a ≡ V b = cc in ap V (same_tree_exact t (Node Eq a b) f) ∙ equal a b q
    equal_items a b t e f = absurd (both_ways false refl f)

    apart : (l c d : Tree) (k : ℕ) (t : Tree) (o : Pair) → IsMetBeside g at m n o → ((c ≡ Empty → ⊥) → IsFine (IsDefined c)) → ((d ≡ Empty → ⊥) → IsFine (IsDefined d)) → is_distinct_of (Some o) (cited_term v l) c d k t ≡ true → V t ≡ 1
    unfolding value
    apart l (Node (Read x) a b) (Node (Read y) p q) k t o h f j e =
        let c : Tree = Node (Read x) a b in
        let d : Tree = Node (Read y) p q in
        let w = and_parts (x == y && list_any (λ z. z == x) o.distinct) _ e in
        let z = and_parts (x == y) (list_any (λ z. z == x) o.distinct) w.0 in
        let r = and_parts (same_tree (cited_term v l) (Node Eq c d)) _ w.1 in
        let one : x ≡ y = eqb-true x y z.0 in
        let there : is_some (m x (values g at n p)) ≡ true = subst (λ y. is_some (m y (values g at n p)) ≡ true) (sym one) (j (λ z. cc)).holds in
        let line : V c ≡ V d = equals c d (said_is l (Node Eq c d) Eq c d (same_tree_exact (cited_term v l) (Node Eq c d) r.0) refl) in
        let same = h.distinct x (values g at n a) (values g at n p) z.1 (f (λ z. cc)).holds there (line ∙ ap (λ y. or_zero (n y (values g at n p))) (sym one)) in
        equal_items (from_one (items a) k) (from_one (items p) k) t
        (item_values (items a) k ∙ (ap (λ us. from_one us k) (sym (items_values a) ∙ (same ∙ items_values p)) ∙ sym (item_values (items p) k)))
        r.1
    apart l c d k t o h f j e = absurd (both_ways false refl e)

    pub by_distinct : (l c d : Tree) (k : ℕ) (t : Tree) (o : Option Pair) → IfBeside g at m n o → is_distinct_of o (cited_term v l) (cited_cell v c) (cited_cell v d) k t ≡ true → V t ≡ 1
    by_distinct l c d k t None h e = absurd (both_ways false refl e)
    by_distinct l c d k t (Some o) h e = apart l (cited_cell v c) (cited_cell v d) k t o h (cell_said c) (cell_said d) e

    -- cells

    cell_there : (d : Tree) → is_cell_under s.scene s.replications d ≡ true → d ≡ Empty → ⊥
    cell_there d e = no_cell_empty d (and_parts (is_phrase OneCell d) _ e).0

    pub cell_holds : (d reason : Tree) → is_cell_under s.scene s.replications d ≡ true → is_reason_of_cell s v d reason ≡ true → is_assigned g at m n d ≡ true
    cell_holds d Empty k e = absurd (both_ways false refl e)
    cell_holds d (Node head.ByHere a b) k e = any_holds (λ x. is_assigned g at m n x ≡ true) d s.cells r.cells e
    cell_holds d (Node head.ByOf l b) k e = any_holds (λ x. is_assigned g at m n x ≡ true) d (site_cells s (cited_cell v l)) (cited_site l).1 e
    cell_holds d (Node head.ByOtherHere a b) k e = by_other_here d s.pair r.beside e
    cell_holds d (Node head.ByExfalso l b) k e = absurd (said_no l e)
    cell_holds d (Node head.ByAgain l b) k e =
        let q = same_tree_exact d (cited_cell v l) e in
        subst (λ x. is_assigned g at m n x ≡ true) (sym q) (cell_said l (λ z. cell_there d k (q ∙ z))).holds
    cell_holds d (Node h a b) k e = absurd (both_ways false refl e)

    -- equations

    zip_names : (bs ms : Tree) → are_of_types s bs ms ≡ true → names_of (zip (bound_names bs) (values g at n ms)) ≡ bound_names bs
    unfolding values
    zip_names Empty Empty e = refl
    zip_names (Node (Binder x T) a bs) (Node h t ms) e = ap (λ xs. x ∷ xs) (zip_names bs ms (and_parts (is_term_of s (OfType T) t) _ e).1)
    zip_names bs ms e = absurd (both_ways false refl e)

    zip_values : (bs ms : Tree) → are_of_types s bs ms ≡ true → values g at n ms ≡ tuple (zip (bound_names bs) (values g at n ms))
    unfolding values
    zip_values Empty Empty e = refl
    zip_values (Node (Binder x T) a bs) (Node h t ms) e = ap (λ vs. V t ∷ vs) (zip_values bs ms (and_parts (is_term_of s (OfType T) t) _ e).1)
    zip_values bs ms e = absurd (both_ways false refl e)

    pub is_of : (o : Option Sort) (R S : Sort) → o ≡ Some R → is_sort o S ≡ true → R ≡ S
    is_of o R S e f = same_sorts S R (ap not (same_flip R S (subst (λ q. is_sort q S ≡ true) e f)))
      where
        same_flip : (R S : Sort) → same_sort R S ≡ true → same_sort S R ≡ true
        same_flip (OfType T) (OfType U) e = eq-eqb U T (sym (eqb-true T U e))
        same_flip (BelowParameter k) (BelowParameter l) e = eq-eqb l k (sym (eqb-true k l e))
        same_flip (OfType T) (BelowParameter k) e = absurd (both_ways false refl e)
        same_flip (BelowParameter k) (OfType T) e = absurd (both_ways false refl e)

    of_type : (T : ℕ) (t : Tree) → is_term_of s (OfType T) t ≡ true → V t < i.type_size T
    of_type T t e =
        let p = and_parts (is_term_under s.scene s.replications t) _ e in
        let x = sorted_term t p.0 in
        r.types t (meaning.OfType T) (subst (λ S. HasSort c rs t (sort_of_meaning S)) (is_of (sort_of (signature_in s.scene) (above_under s.replications) t) x.0 (OfType T) x.1 p.1) x.2)

    all_fit : (bs ms : Tree) → are_of_types s bs ms ≡ true → fits i.type_size bs (values g at n ms) ≡ true
    unfolding values
    all_fit Empty Empty e = refl
    all_fit (Node (Binder x T) a bs) (Node h t ms) e =
        let p = and_parts (is_term_of s (OfType T) t) _ e in
        and_from (nat_lt (V t) (i.type_size T)) _ (lt-ltb (V t) (i.type_size T) (of_type T t p.0)) (all_fit bs ms p.1)
    all_fit bs ms e = absurd (both_ways false refl e)

    instance_holds : (e : Tree) → IsClosedEquation s.scene.declarations e → EquationHolds g e → (ms : Tree) → are_of_types s (first e) ms ≡ true → V (with_given (bound_names (first e)) ms (second e)) ≡ 1
    instance_holds (Node Forall bs t) closed holds ms e =
        let ix : Indices = zip (bound_names bs) (values g at n ms) in
        let names : names_of ix ≡ bound_names bs = zip_names bs ms e in
        ap (λ xs. V (with_given xs ms t)) (sym names)
        ∙ (put_value g at n nowhere (λ x. (is_name_of (bound_names bs) x ≡ true) ⊎ (is_constant_of s.scene.declarations x ≡ true)) ⊥ ix ms (zip_values bs ms e)
        (λ x l f. leaf x l (λ k. named_found ix x (ap (λ xs. is_name_of xs x) names ∙ k) f)) (λ b x u. absurd b) t closed
        ∙ holds (values g at n ms) (all_fit bs ms e))
      where
        leaf : (x : ℕ) → (is_name_of (bound_names bs) x ≡ true) ⊎ (is_constant_of s.scene.declarations x ≡ true) → (is_name_of (bound_names bs) x ≡ true → ⊥) → leaf_value_from g n x (found_in at x) ≡ leaf_value_from g nowhere x None
        leaf x (inl k) f = absurd (f k)
        leaf x (inr k) f = ap (leaf_value_from g n x) (r.constants x k) ∙ (ap (λ b. cond b (i.table x []) (or_zero (n x []))) k ∙ sym (ap (λ b. cond b (i.table x []) (or_zero (nowhere x []))) k))
    instance_holds Empty closed holds ms e = absurd closed
    instance_holds (Node h bs t) closed holds ms e = absurd closed

    by_instance : (k : ℕ) (ms t : Tree) (o : Option Tree) → from_one (equations_in s.scene.declarations) k ≡ o → is_instance s o ms t ≡ true → V t ≡ 1
    by_instance k ms t None f e = absurd (both_ways false refl e)
    by_instance k ms t (Some u) f e =
        let p = and_parts (are_of_types s (first u) ms) _ e in
        let x = item_holds (λ e. IsClosedEquation s.scene.declarations e × EquationHolds g e) (equations_in s.scene.declarations) k u (equations_hold g s.scene.declarations s.scene.declarations closed model.each) f in
        ap V (same_tree_exact t (with_given (bound_names (first u)) ms (second u)) p.1) ∙ instance_holds u x.0 x.1 ms p.0

    pub by_equation : (k : ℕ) (ms t : Tree) → is_instance s (from_one (equations_in s.scene.declarations) k) ms t ≡ true → V t ≡ 1
    by_equation k ms t e = by_instance k ms t (from_one (equations_in s.scene.declarations) k) refl e
