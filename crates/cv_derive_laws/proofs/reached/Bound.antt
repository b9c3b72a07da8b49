-- The store with the values of a candidate has values of types.
use Rattle.std.proofs.Common.{◌≡◌, ℕ, ◌+◌, ◌-◌, ◌<◌, Bool, true, false, cond, ◌&&◌, ◌==◌, nat_lt, ltb-true, List, [], ◌∷◌, inr, Option, Some, None, refl, sym, ap, subst, ◌∙◌, eqb-true}
use Rattle.std.specs.Prelude.{option_map}
use Rattle.std.proofs.lemmas.Bool.{and_parts, or_parts}
use Rattle.std.specs.List.{AllByRecursion}
use Rattle.cv_syntax_trees.specs.declared.head.Head.{Head}
use Rattle.cv_syntax_trees.specs.declared.head.Head.TheVariants.{Binder, Branch, Cons, Find}
use Rattle.cv_syntax_trees.specs.Declarations.{Declaration}
use Rattle.cv_syntax_trees.specs.Head.{weight}
use Rattle.cv_syntax_trees.specs.Tree.{Tree, Empty, Node, size, subtree, first_place, second_place}
use Rattle.cv_syntax.specs.faults.Walk.{IsObeyed}
use Rattle.cv_meaning.specs.Tapes.{same_tuple}
use Rattle.cv_meaning.specs.Interpretation.{Interpretation, setting_of}
use Rattle.cv_meaning.specs.Binders.{bound_to, fits}
use Rattle.cv_meaning.specs.Memory.{Indices, Store, put, tuple}
use Rattle.cv_meaning_laws.specs.adequacy.Typed as meaning
use Rattle.cv_meaning_laws.specs.adequacy.Typed.{AreBelowParameters, IsTypedStore, IsVariable}
use Rattle.cv_syntax_trees.specs.declared.sites.sort.Sort.TheVariants.{BelowParameter}
use Rattle.cv_syntax_trees.specs.sites.Sites.{Variable, first_of, first_site, sites_of}
use Rattle.cv_scope_rules.specs.declared.position.Position.{Position}
use Rattle.cv_scope_rules.specs.declared.position.Position.TheVariants as position
use Rattle.cv_scope_rules.specs.Context.{Context, first_position, nothing_known, replications_below, second_position}
use Rattle.cv_scope_rules.specs.Scope.{names_of}
use Rattle.cv_scope_rules.specs.Sites.{sites_from, sites_here, variable_sites}
use Rattle.cv_scope_rules.specs.Standing.{at_root}
use Rattle.cv_scope_rules.specs.Phrases.{Inputs, IsWellFormed}
use Rattle.cv_scope_runs.specs.Promises.{AreIndicesOf}
use Rattle.cv_meaning_laws.proofs.Counts.{same_tuple_exact}
use Rattle.cv_path.specs.declared.place.Lies.{Lies}
use Rattle.cv_path.specs.declared.place.Lies.TheVariants.{Here, Within, Behind}
use Rattle.cv_path.specs.Places.{LiesAt}
use Rattle.cv_path.proofs.Bounds.{lies_somewhere}
use Rattle.cv_path.proofs.Going.{choice_here, choice_within, choice_behind, less_within, less_behind, subtree_here, subtree_within, subtree_behind}
use Rattle.cv_scope_rules.specs.Above.{first_standing, second_standing, standing_at, stands_at}
use Rattle.cv_scope_rules.specs.declared.typing.form.Form.TheVariants.{InProcess}
use Rattle.cv_scope_rules.specs.typing.Parts.{IsTypedGame}
use Rattle.cv_scope_rules.specs.typing.Signature.{Above, OfGame, Signature, variable_sort}
use Rattle.cv_scope_rules.specs.typing.Typing.{IsTyped, binders_differ}
use Rattle.cv_syntax_trees.specs.sites.Sorts.{differs_from}
use Rattle.cv_scope_rules.specs.typing.Wants.{Run, Want, above_second, wants}
use Rattle.cv_typing_runs.specs.Games.{context_of, sort_of_meaning, variable_of_meaning}
use Rattle.cv_typing_runs.proofs.SameSites.{Agrees, sites_agree}
use Rattle.cv_typing_runs.proofs.Terms.{faultless, same_sorts}
use Rattle.cv_typing_runs.proofs.Games.{first_nothing}
use Rattle.cv_syntax_trees.proofs.lists.Each.{AllByRecursion_left, AllByRecursion_right}
use Rattle.cv_derive_facts.proofs.Standings.{first_replications, second_replications}

module _ (ds : List Declaration) (game : Tree) where
  abbrev e : Signature
  e = record { declarations = ds; arrays = OfGame (sites_of game) }

  abbrev c : meaning.Context
  c = context_of ds game

  abbrev F : ℕ → Option Variable
  F x = first_site x [] game

  -- typed somewhere, and with the sites of its variables below these replications
  pub record IsGood (rs : List (ℕ × ℕ)) (t : Tree) : Type 0 where
    above : Above
    want : Want
    typed : IsTyped e above want t
    place : ℕ
    agree : AllByRecursion (Agrees F) (sites_from rs place t)

  good_first : (rs : List (ℕ × ℕ)) (h : Head) (a b : Tree) → IsGood rs (Node h a b) → IsGood rs a
  unfolding IsObeyed sites_from
  good_first rs h a b k = record {
    above = k.above;
    want = (wants e k.above k.want h a).0;
    typed = k.typed.1;
    place = first_place k.place h;
    agree = AllByRecursion_left (Agrees F) (sites_from rs (first_place k.place h) a) _ (AllByRecursion_right (Agrees F) (sites_here rs k.place h a) _ k.agree);
  }

  good_second : (rs : List (ℕ × ℕ)) (h : Head) (a b : Tree) → IsGood rs (Node h a b) → IsGood (replications_below h rs) b
  unfolding IsObeyed sites_from
  good_second rs h a b k = record {
    above = above_second k.want h a k.above;
    want = (wants e k.above k.want h a).1;
    typed = k.typed.2;
    place = second_place k.place h a;
    agree = AllByRecursion_right (Agrees F) (sites_from rs (first_place k.place h) a) _ (AllByRecursion_right (Agrees F) (sites_here rs k.place h a) _ k.agree);
  }

  some_same : {A : Type 0} (a b : A) → ◌≡◌ {A = Option A} (Some a) (Some b) → a ≡ b
  some_same a b e = cc

  no_some : {A : Type 0} (a : A) → ◌≡◌ {A = Option A} None (Some a) → ⊥
  no_some a e = cc

  good_there : (t : Tree) (w : Position) (Γ : Context) (q : ℕ) (b : Tree) (Δ : Context) → IsGood Γ.replications t → subtree t q ≡ Some b → standing_at w Γ t q ≡ Some Δ → IsGood Δ.replications b
  unfolding subtree standing_at
  good_there Empty w Γ q b Δ k i j = absurd (no_some b i)
  good_there (Node h a d) w Γ q b Δ k i j =
      go (lies_somewhere h a q)
      (λ r x y. good_there a (first_position w h) (first_standing w h Γ) r b Δ (subst (λ rs. IsGood rs a) (sym (first_replications w h Γ)) (good_first Γ.replications h a d k)) x y)
      (λ r x y. good_there d (second_position w h) (second_standing w h a Γ) r b Δ (subst (λ rs. IsGood rs d) (sym (second_replications w h a Γ)) (good_second Γ.replications h a d k)) x y)
    where
      go : (l : Lies) × LiesAt h a q l → ((r : ℕ) → subtree a r ≡ Some b → standing_at (first_position w h) (first_standing w h Γ) a r ≡ Some Δ → IsGood Δ.replications b)
          → ((r : ℕ) → subtree d r ≡ Some b → standing_at (second_position w h) (second_standing w h a Γ) d r ≡ Some Δ → IsGood Δ.replications b) → IsGood Δ.replications b
      go (Here, l) f g =
          let x = some_same (Node h a d) b (sym (subtree_here (Node h a d) h a d q 0 refl l) ∙ i) in
          let y = some_same Γ Δ (sym (choice_here h a q (Some Γ) (standing_at (first_position w h) (first_standing w h Γ) a (q - weight h)) (standing_at (second_position w h) (second_standing w h a Γ) d (q - (weight h + size a))) l) ∙ j) in
          subst (λ (z : Context × Tree). IsGood z.0.replications z.1) (λ m. (y m, x m)) k
      go (Within r, l) f g =
          f r (sym (subtree_within (Node h a d) h a d q r refl l) ∙ i)
          (sym (choice_within h a q (Some Γ) (standing_at (first_position w h) (first_standing w h Γ) a (q - weight h)) (standing_at (second_position w h) (second_standing w h a Γ) d (q - (weight h + size a))) r l
          ∙ ap (standing_at (first_position w h) (first_standing w h Γ) a) (less_within h a q r l)) ∙ j)
      go (Behind r, l) f g =
          g r (sym (subtree_behind (Node h a d) h a d q r refl l) ∙ i)
          (sym (choice_behind h a q (Some Γ) (standing_at (first_position w h) (first_standing w h Γ) a (q - weight h)) (standing_at (second_position w h) (second_standing w h a Γ) d (q - (weight h + size a))) r l
          ∙ ap (standing_at (second_position w h) (second_standing w h a Γ) d) (less_behind h a q r l)) ∙ j)

  pub good_game : IsWellFormed ds game → IsTypedGame ds game → IsGood [] game
  good_game w t = record {
    above = λ x. None;
    want = Run InProcess;
    typed = t;
    place = 0;
    agree = sites_agree F (names_of ds game) Inputs at_root [] game refl w.phrase w.scoped tt (λ x. inr (None, first_nothing (F x)));
  }

  -- the index variables of a branch

  abbrev AreBound : List (ℕ × ℕ) → Tree → Type 0
  AreBound rs (Node (Binder x n) a b) = IsVariable c rs x (meaning.BelowParameter n) × AreBound rs b
  AreBound rs t = Unit {0}

  are_bound : (rs : List (ℕ × ℕ)) (p : ℕ) (us : Tree) → AllByRecursion (Agrees F) (variable_sites rs p us) → binders_differ e.arrays BelowParameter us ≡ false → AreBound rs us
  unfolding binders_differ
  are_bound rs p Empty a d = tt
  are_bound rs p (Node (Binder x n) b more) a d =
      let o = or_parts (differs_from (variable_sort e.arrays x) (BelowParameter n)) _ d in
      let s = a.0 x refl in
      let same = same_sorts s.0.sort (BelowParameter n) (sym (ap (λ (q : Option Variable). differs_from (option_map (λ (v : Variable). v.sort) q) (BelowParameter n)) s.1) ∙ o.0) in
      (ap (option_map variable_of_meaning) s.1 ∙ (λ i. let V : meaning.Variable = record { indices = s.2 i; sort = sort_of_meaning (sym same i) } in Some V), are_bound rs p more a.1 o.1)
  are_bound rs p (Node h b more) a d = tt

  branch_bound : (rs : List (ℕ × ℕ)) (us rest : Tree) → IsGood rs (Node Branch us rest) → AreBound rs us
  unfolding IsObeyed sites_from
  branch_bound rs us rest k =
      are_bound rs k.place us (AllByRecursion_left (Agrees F) (variable_sites rs k.place us) [] (AllByRecursion_left (Agrees F) (sites_here rs k.place Branch us) _ k.agree)) (faultless e k.above k.want Branch us k.typed.0).site

  -- stores

  module _ (i : Interpretation) where
    put_typed : (m : Store) → IsTypedStore c i m → (x : ℕ) (rs : List (ℕ × ℕ)) (u : List ℕ) (v n : ℕ) → IsVariable c rs x (meaning.BelowParameter n) → AreBelowParameters i (meaning.parameters rs) u → v < i.parameter_value n → IsTypedStore c i (put m x u v)
    unfolding put
    put_typed m h x rs u v n k a l y W w r d f = go (y == x) (same_tuple w u) refl refl f
      where
        here : y ≡ x → w ≡ u → v ≡ r → AreBelowParameters i W.indices w × (r < meaning.size_of i W.sort)
        here j q z =
            let same : (let V : meaning.Variable = record { indices = meaning.parameters rs; sort = meaning.BelowParameter n } in V) ≡ W = some_same _ W (sym k ∙ (ap c.variables (sym j) ∙ d)) in
            (subst (λ (o : meaning.Variable × List ℕ). AreBelowParameters i o.0.indices o.1) (λ t. (same t, sym q t)) a, subst (λ (o : meaning.Variable × ℕ). o.1 < meaning.size_of i o.0.sort) (λ t. (same t, z t)) l)

        go : (b t : Bool) → (y == x) ≡ b → same_tuple w u ≡ t → cond (b && t) (Some v) (m y w) ≡ Some r → AreBelowParameters i W.indices w × (r < meaning.size_of i W.sort)
        go true true p q f = here (eqb-true y x p) (same_tuple_exact w u q) (some_same v r f)
        go true false p q f = h y W w r d f
        go false t p q f = h y W w r d f

    bound_typed : (rs : List (ℕ × ℕ)) (u : List ℕ) → AreBelowParameters i (meaning.parameters rs) u → (us : Tree) (vs : List ℕ) → AreBound rs us → fits i.parameter_value us vs ≡ true → (m : Store) → IsTypedStore c i m → IsTypedStore c i (bound_to m u us vs)
    unfolding bound_to
    bound_typed rs u a (Node (Binder x n) b more) (v ∷ vs) k f m h =
        let p = and_parts (nat_lt v (i.parameter_value n)) _ f in
        bound_typed rs u a more vs k.1 p.1 (put m x u v) (put_typed m h x rs u v n k.0 a (ltb-true v (i.parameter_value n) p.0))
    bound_typed rs u a _ _ k f m h = h

  indices_below : (i : Interpretation) (at : Indices) (rs : List (ℕ × ℕ)) → AreIndicesOf (setting_of ds i) at rs → AreBelowParameters i (meaning.parameters rs) (tuple at)
  indices_below i [] [] n = tt
  indices_below i [] (r ∷ rs) n = absurd n
  indices_below i (p ∷ at) [] n = absurd n
  indices_below i (p ∷ at) (r ∷ rs) n = (n.1, indices_below i at rs n.2)

  -- the store of a branch's candidate, in a list of branches that stand below these replications
  pub candidate_typed : (i : Interpretation) (rs : List (ℕ × ℕ)) (at : Indices) (us rest : Tree) (u : List ℕ) (m : Store) → IsGood rs (Node Branch us rest) → AreIndicesOf (setting_of ds i) at rs → fits i.parameter_value us u ≡ true → IsTypedStore c i m → IsTypedStore c i (bound_to m (tuple at) us u)
  candidate_typed i rs at us rest u m k n f h = bound_typed i rs (tuple at) (indices_below i at rs n) us u (branch_bound rs us rest k) f m h

  pub find_good : (q l : ℕ) (a b : Tree) (Δ : Context) → IsWellFormed ds game → IsTypedGame ds game → subtree game q ≡ Some (Node (Find l) a b) → stands_at game q ≡ Some Δ → IsGood Δ.replications a
  find_good q l a b Δ w t i j = good_first Δ.replications (Find l) a b (good_there game position.Anywhere nothing_known q (Node (Find l) a b) Δ (good_game w t) i j)

  pub first_good : (rs : List (ℕ × ℕ)) (a b : Tree) → IsGood rs (Node Cons a b) → IsGood rs a
  first_good rs a b k = good_first rs Cons a b k

  pub rest_good : (rs : List (ℕ × ℕ)) (a b : Tree) → IsGood rs (Node Cons a b) → IsGood rs b
  rest_good rs a b k = good_second rs Cons a b k
