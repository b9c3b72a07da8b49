-- A game that typing accepts is typed as the laws of meaning take it.
use Rattle.std.proofs.Common.{◌≡◌, ℕ, ◌==◌, Bool, true, false, cond, List, [], ◌∷◌, ◌++◌, refl, ap, sym, subst, ◌∙◌, eqb-true, Option, Some, None}
use Rattle.std.specs.Prelude.{option_map}
use Rattle.std.proofs.lemmas.Bool.{both_ways, and_from, and_parts, or_parts}
use Rattle.std.specs.List.{AllByRecursion}
use Rattle.cv_syntax_trees.specs.declared.head.Head.TheVariants.{And, Apply, Binder, Branch, Cons, Eq, Event, Find, If, In, Leaf, Let, New, No, Not, Or, Out, Par, Read, Repl, Stop, Yes, Yield}
use Rattle.cv_syntax_trees.specs.Declarations.{Declaration}
use Rattle.cv_syntax_trees.specs.Tree.{Tree, Empty, Node, first, second, first_place, second_place}
use Rattle.cv_syntax.specs.faults.Walk.{IsObeyed}
use Rattle.cv_meaning.specs.Interpretation.{is_constant_of}
use Rattle.cv_meaning_laws.specs.adequacy.Typed as meaning
use Rattle.cv_meaning_laws.specs.adequacy.Typed.{AreBranches, AreVariables, HasSort, HaveSomeSorts, HasTypedRestrictions, IsVariable, Scope, parameter_in, IsTyped as MeansTyped}
use Rattle.cv_scope_rules.specs.Sites.{channel_here, sites_from, sites_here, variable_sites}
use Rattle.cv_scope_rules.specs.Phrases.{Phrase, Arm, Binders, Body, Branches as BranchesPhrase, Cells, Else, Guarded as GuardedPhrase, Guards, Indices, Inputs, Message as MessagePhrase, Nil, OneCell, Pattern, Term, Terms, Then, binds_none, is_phrase}
use Rattle.cv_scope_rules.specs.declared.typing.form.Form.TheVariants.{InProcess}
use Rattle.cv_scope_rules.specs.declared.typing.precedence.Precedence.TheVariants.{First}
use Rattle.cv_syntax_trees.specs.declared.sites.sort.Sort.{Sort}
use Rattle.cv_syntax_trees.specs.declared.sites.sort.Sort.TheVariants.{BelowParameter, OfType}
use Rattle.cv_scope_rules.specs.typing.Signature.{Above, OfGame, Signature, boolean, variable_sort}
use Rattle.cv_syntax_trees.specs.sites.Sites.{Variable, first_of, first_site, sites_of}
use Rattle.cv_scope_rules.specs.typing.Typing.{IsTyped, binders_differ}
use Rattle.cv_syntax_trees.specs.sites.Sorts.{differs_from}
use Rattle.cv_scope_rules.specs.typing.Wants.{AllMessages, Branches, EachTerm, Guarded, Message, Of, Run, Sent, Tested, Want, above_second, bound, wants}
use Rattle.cv_typing_runs.specs.Games.{HasArguments, context_of, has_site, sort_of_meaning, variable_of_meaning}
use Rattle.cv_typing_runs.proofs.Known.{AreKnown}
use Rattle.cv_typing_runs.proofs.SameSites.{Agrees, Stands, input_binders}
use Rattle.cv_typing_runs.proofs.Terms.{Matches, asked_sort, faultless, message_sort, nil_empty, same_sorts, some_have, sorted}
use Rattle.cv_syntax_trees.proofs.lists.Each.{AllByRecursion_left, AllByRecursion_right}

-- indices in scope

parameter_last : (rs : Scope) (i n x : ℕ) → parameter_in (rs ++ (i, n) ∷ []) x ≡ first_of (parameter_in rs x) (cond (i == x) (Some n) None)
parameter_last [] i n x = refl
parameter_last (r ∷ rs) i n x = go (r.0 == x) (parameter_last rs i n x)
  where
    go : (b : Bool) → parameter_in (rs ++ (i, n) ∷ []) x ≡ first_of (parameter_in rs x) (cond (i == x) (Some n) None) → cond b (Some r.1) (parameter_in (rs ++ (i, n) ∷ []) x) ≡ first_of (cond b (Some r.1) (parameter_in rs x)) (cond (i == x) (Some n) None)
    go true e = refl
    go false e = e

below_more : (above : Above) (rs : Scope) (i n : ℕ) → ((x : ℕ) → above x ≡ option_map BelowParameter (parameter_in rs x)) → (x : ℕ) → bound First above i (BelowParameter n) x ≡ option_map BelowParameter (parameter_in (rs ++ (i, n) ∷ []) x)
below_more above rs i n m x = cases (i == x) refl ∙ ap (option_map BelowParameter) (sym (parameter_last rs i n x))
  where
    new : (o : Option ℕ) → first_of (option_map BelowParameter o) (Some (BelowParameter n)) ≡ option_map BelowParameter (first_of o (Some n))
    new (Some k) = refl
    new None = refl

    old : (o : Option ℕ) → option_map BelowParameter o ≡ option_map BelowParameter (first_of o None)
    old (Some k) = refl
    old None = refl

    cases : (b : Bool) → (i == x) ≡ b → cond b (first_of (above i) (Some (BelowParameter n))) (above x) ≡ option_map BelowParameter (first_of (parameter_in rs x) (cond b (Some n) None))
    cases true e = ap (λ o. first_of o (Some (BelowParameter n))) (ap above (eqb-true i x e) ∙ m x) ∙ new (parameter_in rs x)
    cases false e = m x ∙ old (parameter_in rs x)

-- terms have no processes in them

abbrev of_terms : Bool → Phrase
of_terms true = Term
of_terms false = Terms

terms_typed : (c : meaning.Context) (rs : Scope) (k : Bool) (t : Tree) → is_phrase (of_terms k) t ≡ true → MeansTyped c rs t
unfolding is_phrase MeansTyped
terms_typed c rs false Empty p = tt
terms_typed c rs false (Node Cons a b) p = let q = and_parts (is_phrase Term a) (is_phrase Terms b) p in (terms_typed c rs true a q.0, terms_typed c rs false b q.1)
terms_typed c rs false (Node h a b) p = absurd (both_ways false refl p)
terms_typed c rs true Empty p = tt
terms_typed c rs true (Node (Leaf x) a b) p = tt
terms_typed c rs true (Node (Read x) a b) p = tt
terms_typed c rs true (Node (Apply f) a b) p = tt
terms_typed c rs true (Node Eq a b) p = tt
terms_typed c rs true (Node And a b) p = tt
terms_typed c rs true (Node Or a b) p = tt
terms_typed c rs true (Node Not a b) p = tt
terms_typed c rs true (Node Yes a b) p = tt
terms_typed c rs true (Node No a b) p = tt
terms_typed c rs true (Node h a b) p = absurd (both_ways false refl p)

-- cells are terms
cells_terms : (t : Tree) → is_phrase Cells t ≡ true → is_phrase Terms t ≡ true
unfolding is_phrase
cells_terms Empty p = refl
cells_terms (Node Cons a b) p = let q = and_parts (is_phrase OneCell a) (is_phrase Cells b) p in and_from (is_phrase Term a) (is_phrase Terms b) (one a q.0) (cells_terms b q.1)
  where
    one : (a : Tree) → is_phrase OneCell a ≡ true → is_phrase Term a ≡ true
    one Empty e = absurd (both_ways false refl e)
    one (Node (Leaf x) a b) e = e
    one (Node (Read x) a b) e = e
    one (Node h a b) e = absurd (both_ways false refl e)
cells_terms (Node h a b) p = absurd (both_ways false refl p)

-- what is asked of a phrase of a game
abbrev asked : Phrase → Want
asked BranchesPhrase = Branches InProcess
asked Arm = Branches InProcess
asked Guards = Guarded InProcess
asked GuardedPhrase = Tested InProcess
asked σ = Run InProcess

module _ (ds : List Declaration) (game : Tree) where
  abbrev e : Signature
  e = record { declarations = ds; arrays = OfGame (sites_of game) }

  abbrev c : meaning.Context
  c = context_of ds game

  abbrev F : ℕ → Option Variable
  F x = first_site x [] game

  -- definitions

  variable_sorted : (x : ℕ) (S : Sort) (v : Variable) → F x ≡ Some v → differs_from (variable_sort e.arrays x) S ≡ false → S ≡ v.sort
  variable_sorted x S v i d = same_sorts v.sort S (sym (ap (λ (o : Option Variable). differs_from (option_map (λ (v : Variable). v.sort) o) S) i) ∙ d)

  is_variable : (rs : Scope) (x : ℕ) (S : Sort) → Stands F x rs → differs_from (variable_sort e.arrays x) S ≡ false → IsVariable c rs x (sort_of_meaning S)
  is_variable rs x S s d =
      let same = variable_sorted x S s.0 s.1 d in
      ap (option_map variable_of_meaning) s.1 ∙ λ i. let V : meaning.Variable = record { indices = s.2 i; sort = sort_of_meaning (sym same i) } in Some V

  are_variables : (rs : Scope) (p : ℕ) (sort : ℕ → Sort) (t : Tree) → is_phrase Binders t ≡ true → AllByRecursion (Agrees F) (variable_sites rs p t) → binders_differ e.arrays sort t ≡ false → AreVariables c rs (λ T. sort_of_meaning (sort T)) t
  unfolding is_phrase binders_differ
  are_variables rs p sort Empty q A d = tt
  are_variables rs p sort (Node (Binder y T) a b) q A d =
      let o = or_parts (differs_from (variable_sort e.arrays y) (sort T)) (binders_differ e.arrays sort b) d in
      (is_variable rs y (sort T) (A.0 y refl) o.0, are_variables rs p sort b (and_parts (is_phrase Nil a) (is_phrase Binders b) q).1 A.1 o.1)
  are_variables rs p sort (Node h a b) q A d = absurd (both_ways false refl q)

  -- each restriction is of the type of its variable
  pub restrictions_typed : (above : Above) (w : Want) (t : Tree) → IsTyped e above w t → HasTypedRestrictions c t
  unfolding IsObeyed HasTypedRestrictions
  restrictions_typed above w Empty h = tt
  restrictions_typed above w (Node (New x T) a b) h =
      let g = faultless e above w (New x T) a h.0 in
      (λ V i. sorts V (F x) refl i g.site, restrictions_typed above (wants e above w (New x T) a).0 a h.1, restrictions_typed (above_second w (New x T) a above) (wants e above w (New x T) a).1 b h.2)
    where
      sorts : (V : meaning.Variable) (o : Option Variable) → F x ≡ o → option_map variable_of_meaning (F x) ≡ Some V → differs_from (variable_sort e.arrays x) (OfType T) ≡ false → V.sort ≡ meaning.OfType T
      sorts V None i j d = let z : None ≡ Some V = ap (option_map variable_of_meaning) (sym i) ∙ j in absurd (cc)
      sorts V (Some v) i j d =
          let same = variable_sorted x (OfType T) v i d in
          let z : Some (variable_of_meaning v) ≡ Some V = ap (option_map variable_of_meaning) (sym i) ∙ j in
          let y : variable_of_meaning v ≡ V = cc in
          ap (λ (U : meaning.Variable). U.sort) (sym y) ∙ ap sort_of_meaning (sym same)
  restrictions_typed above w (Node k a b) h = (restrictions_typed above (wants e above w k a).0 a h.1, restrictions_typed (above_second w k a above) (wants e above w k a).1 b h.2)

  module _ (given : HasArguments ds) (constants : binds_none (is_constant_of ds) game ≡ true) where
    -- what a phrase of a game is, as meaning takes it
    abbrev Means : Phrase → Scope → Tree → Type 0
    Means BranchesPhrase rs t = AreBranches t × MeansTyped c rs t
    Means Arm rs t = (AreBranches (Node Cons t Empty)) × MeansTyped c rs t
    Means Guards rs t = HaveSomeSorts c rs (first t) × HasSort c rs (first (second t)) meaning.boolean × MeansTyped c rs t
    Means GuardedPhrase rs t = HasSort c rs (first t) meaning.boolean × MeansTyped c rs t
    Means Inputs rs t = MeansTyped c rs t
    Means Body rs t = MeansTyped c rs t
    Means Then rs t = MeansTyped c rs t
    Means Else rs t = MeansTyped c rs t
    Means σ rs t = Unit {0}

    of_message : (above : Above) (rs : Scope) → Matches ds game given constants above rs → (T : ℕ) (t : Tree) → is_phrase Term t ≡ true → IsTyped e above (Message T) t → AreKnown ds (has_site game) rs t → HasSort c rs t (meaning.OfType T)
    of_message above rs m T t p h k =
        let s = sorted ds game given constants above rs m true (Message T) t p h k in
        let q = asked_sort e above (Message T) t s.0 h s.1 in
        subst (λ R. HasSort c rs t (sort_of_meaning R)) (message_sort T s.0 q.0 q.1) s.2

    of_boolean : (above : Above) (rs : Scope) → Matches ds game given constants above rs → (t : Tree) → is_phrase Term t ≡ true → IsTyped e above (Of boolean) t → AreKnown ds (has_site game) rs t → HasSort c rs t meaning.boolean
    of_boolean above rs m t p h k =
        let s = sorted ds game given constants above rs m true (Of boolean) t p h k in
        let q = asked_sort e above (Of boolean) t s.0 h s.1 in
        subst (λ R. HasSort c rs t (sort_of_meaning R)) (same_sorts boolean s.0 q.0) s.2

    of_list : (above : Above) (rs : Scope) → Matches ds game given constants above rs → (w : Want) (t : Tree) → is_phrase Terms t ≡ true → IsTyped e above w t → AreKnown ds (has_site game) rs t → HaveSomeSorts c rs t
    of_list above rs m w t p h k = some_have ds game given constants above rs t (sorted ds game given constants above rs m false w t p h k)

    -- the terms of an output
    of_output : (above : Above) (rs : Scope) → Matches ds game given constants above rs → (t : Tree) → is_phrase MessagePhrase t ≡ true → IsTyped e above Sent t → AreKnown ds (has_site game) rs t → HaveSomeSorts c rs (second t)
    unfolding is_phrase IsObeyed AreKnown
    of_output above rs m Empty p h k = absurd (both_ways false refl p)
    of_output above rs m (Node Cons i ts) p h k = of_list above rs m AllMessages ts (and_parts _ (is_phrase Terms ts) p).1 h.2 k.2
    of_output above rs m (Node g i ts) p h k = absurd (both_ways false refl p)

    means : (σ : Phrase) (above : Above) (rs : Scope) (p : ℕ) (t : Tree) → Matches ds game given constants above rs → is_phrase σ t ≡ true → IsTyped e above (asked σ) t → AreKnown ds (has_site game) rs t → AllByRecursion (Agrees F) (sites_from rs p t) → Means σ rs t
    unfolding is_phrase IsObeyed AreKnown MeansTyped sites_from
    means Inputs above rs p (Node Stop a b) m q h k A = tt
    means Inputs above rs p (Node Par a b) m q h k A =
        let r = and_parts (is_phrase Inputs a) (is_phrase Inputs b) q in
        (means Inputs above rs (first_place p Par) a m r.0 h.1 k.1 (AllByRecursion_left (Agrees F) (sites_from rs (first_place p Par) a) _ A), means Inputs above rs (second_place p Par a) b m r.1 h.2 k.2 (AllByRecursion_right (Agrees F) (sites_from rs (first_place p Par) a) _ A))
    means Inputs above rs p (Node (Repl i n) a b) m q h k A =
        let r = and_parts (is_phrase Nil a) (is_phrase Inputs b) q in
        means Inputs (bound First above i (BelowParameter n)) (rs ++ (i, n) ∷ []) (second_place p (Repl i n) a) b (below_more above rs i n m) r.1 h.2 k.2 (AllByRecursion_right (Agrees F) (sites_from rs (first_place p (Repl i n)) a) _ A)
    means Inputs above rs p (Node (In x) a b) m q h k A =
        let r = and_parts (is_phrase Pattern a) (is_phrase Body b) q in
        let g = faultless e above (Run InProcess) (In x) a h.0 in (
          are_variables rs p OfType (second a) (input_binders Inputs x a b q) (AllByRecursion_left (Agrees F) (variable_sites rs p (second a)) (channel_here rs p (In x) a) (AllByRecursion_left (Agrees F) (sites_here rs p (In x) a) _ A)) g.site,
          means Body above rs (second_place p (In x) a) b m r.1 h.2 k.2 (AllByRecursion_right (Agrees F) (sites_from rs (first_place p (In x)) a) _ (AllByRecursion_right (Agrees F) (sites_here rs p (In x) a) _ A)),
        )
    means Body above rs p (Node Yield a b) m q h k A = tt
    means Body above rs p (Node (Out x) a b) m q h k A =
        let r = and_parts (is_phrase MessagePhrase a) (is_phrase Inputs b) q in
        (of_output above rs m a r.0 h.1 k.1, means Inputs above rs (second_place p (Out x) a) b m r.1 h.2 k.2 (AllByRecursion_right (Agrees F) (sites_from rs (first_place p (Out x)) a) _ A))
    means Body above rs p (Node (New x T) a b) m q h k A =
        let r = and_parts (is_phrase Nil a) (is_phrase Body b) q in
        let g = faultless e above (Run InProcess) (New x T) a h.0 in
        (is_variable rs x (OfType T) (A.0 x refl) g.site, means Body above rs (second_place p (New x T) a) b m r.1 h.2 k.2 (AllByRecursion_right (Agrees F) (sites_from rs (first_place p (New x T)) a) _ A.1))
    means Body above rs p (Node (Let x T) a b) m q h k A =
        let r = and_parts (is_phrase Term a) (is_phrase Body b) q in
        let g = faultless e above (Run InProcess) (Let x T) a h.0 in
        (is_variable rs x (OfType T) (A.0 x refl) g.site, of_message above rs m T a r.0 h.1 k.1, means Body above rs (second_place p (Let x T) a) b m r.1 h.2 k.2 (AllByRecursion_right (Agrees F) (sites_from rs (first_place p (Let x T)) a) _ A.1))
    means Body above rs p (Node (Event v) a b) m q h k A =
        let r = and_parts (is_phrase Terms a) (is_phrase Body b) q in
        (of_list above rs m _ a r.0 h.1 k.1, means Body above rs (second_place p (Event v) a) b m r.1 h.2 k.2 (AllByRecursion_right (Agrees F) (sites_from rs (first_place p (Event v)) a) _ A))
    means Body above rs p (Node If a b) m q h k A =
        let r = and_parts (is_phrase Term a) (is_phrase Then b) q in
        (of_boolean above rs m a r.0 h.1 k.1, means Then above rs (second_place p If a) b m r.1 h.2 k.2 (AllByRecursion_right (Agrees F) (sites_from rs (first_place p If) a) _ A))
    means Body above rs p (Node (Find l) a b) m q h k A =
        let r = and_parts (is_phrase BranchesPhrase a) (is_phrase Body b) q in
        let f = means BranchesPhrase above rs (first_place p (Find l)) a m r.0 h.1 k.1 (AllByRecursion_left (Agrees F) (sites_from rs (first_place p (Find l)) a) _ A.1) in
        (f.0, f.1, means Body above rs (second_place p (Find l) a) b m r.1 h.2 k.2 (AllByRecursion_right (Agrees F) (sites_from rs (first_place p (Find l)) a) _ A.1))
    means Then above rs p (Node Cons a b) m q h k A =
        let r = and_parts (is_phrase Body a) (is_phrase Else b) q in
        (means Body above rs (first_place p Cons) a m r.0 h.1 k.1 (AllByRecursion_left (Agrees F) (sites_from rs (first_place p Cons) a) _ A), means Else above rs (second_place p Cons a) b m r.1 h.2 k.2 (AllByRecursion_right (Agrees F) (sites_from rs (first_place p Cons) a) _ A))
    means Else above rs p (Node Cons a b) m q h k A =
        let r = and_parts (is_phrase Body a) (is_phrase Nil b) q in
        (means Body above rs (first_place p Cons) a m r.0 h.1 k.1 (AllByRecursion_left (Agrees F) (sites_from rs (first_place p Cons) a) _ A), subst (MeansTyped c rs) (sym (nil_empty b r.1)) tt)
    means BranchesPhrase above rs p Empty m q h k A = (tt, tt)
    means BranchesPhrase above rs p (Node Cons a b) m q h k A =
        let r = and_parts (is_phrase Arm a) (is_phrase BranchesPhrase b) q in
        let f = means Arm above rs (first_place p Cons) a m r.0 h.1 k.1 (AllByRecursion_left (Agrees F) (sites_from rs (first_place p Cons) a) _ A) in
        let g = means BranchesPhrase above rs (second_place p Cons a) b m r.1 h.2 k.2 (AllByRecursion_right (Agrees F) (sites_from rs (first_place p Cons) a) _ A) in
        (front a b f.0 g.0, (f.1, g.1))
      where
        front : (a b : Tree) → AreBranches (Node Cons a Empty) → AreBranches b → AreBranches (Node Cons a b)
        front (Node Branch x y) b f g = g
        front Empty b f g = absurd f
        front (Node h x y) b f g = absurd f
    means Arm above rs p (Node Branch a b) m q h k A =
        let r = and_parts (is_phrase Binders a) (is_phrase Guards b) q in
        let g = faultless e above (Branches InProcess) Branch a h.0 in
        let f = means Guards above rs (second_place p Branch a) b m r.1 h.2 k.2 (AllByRecursion_right (Agrees F) (sites_from rs (first_place p Branch) a) _ (AllByRecursion_right (Agrees F) (sites_here rs p Branch a) _ A)) in
        (tt, (are_variables rs p BelowParameter a r.0 (AllByRecursion_left (Agrees F) (variable_sites rs p a) [] (AllByRecursion_left (Agrees F) (sites_here rs p Branch a) _ A)) g.site, f.0, f.1, f.2))
    means Guards above rs p (Node Cons a b) m q h k A =
        let r = and_parts (is_phrase Cells a) (is_phrase GuardedPhrase b) q in
        let f = means GuardedPhrase above rs (second_place p Cons a) b m r.1 h.2 k.2 (AllByRecursion_right (Agrees F) (sites_from rs (first_place p Cons) a) _ A) in
        (of_list above rs m EachTerm a (cells_terms a r.0) h.1 k.1, f.0, (terms_typed c rs false a (cells_terms a r.0), f.1))
    means GuardedPhrase above rs p (Node Cons a b) m q h k A =
        let r = and_parts (is_phrase Term a) (is_phrase Body b) q in
        let f = means Body above rs (second_place p Cons a) b m r.1 h.2 k.2 (AllByRecursion_right (Agrees F) (sites_from rs (first_place p Cons) a) _ A) in
        (of_boolean above rs m a r.0 h.1 k.1, (terms_typed c rs true a r.0, f))
    means Nil above rs p t m q h k A = tt
    means Pattern above rs p t m q h k A = tt
    means MessagePhrase above rs p t m q h k A = tt
    means Indices above rs p t m q h k A = tt
    means Binders above rs p t m q h k A = tt
    means Cells above rs p t m q h k A = tt
    means OneCell above rs p t m q h k A = tt
    means Terms above rs p t m q h k A = tt
    means Term above rs p t m q h k A = tt
    means σ above rs p t m q h k A = absurd (both_ways false refl q)

    -- the game
    pub game_means : IsTyped e (λ x. None) (Run InProcess) game → is_phrase Inputs game ≡ true → AreKnown ds (has_site game) [] game → AllByRecursion (Agrees F) (sites_from [] 0 game) → MeansTyped c [] game
    game_means h q k A = means Inputs (λ x. None) [] 0 game (λ x. refl) q h k A
