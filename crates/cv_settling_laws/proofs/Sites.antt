-- What stands behind the definitions of a variable is typed there; and with a cell's index terms for the indices it is typed where the
-- cell is.
use Rattle.std.proofs.Common.{◌≡◌, ℕ, suc, ◌+◌, ◌==◌, Bool, true, false, cond, ◌||◌, List, [], ◌∷◌, length, map, Option, Some, None, refl, sym, ap, subst, ◌∙◌, arith, eqb-true, inl, inr}
use Rattle.std.specs.Prelude.{◌⊎◌, option_and_then, option_map}
use Rattle.std.specs.List.{AllByRecursion}
use Rattle.std.proofs.lemmas.Bool.{and_from, and_parts, both_ways, or_cases, or_parts, or_right}
use Rattle.cv_syntax_trees.specs.declared.head.Head.{Head}
use Rattle.cv_syntax_trees.specs.declared.head.Head.TheVariants.{Stop, Yield, Par, Repl, In, Out, Event, New, Let, If, Find, Branch, Leaf, Read, Apply, Eq, And, Or, Not, Yes, No, Cons, Binder, Name}
use Rattle.cv_syntax_trees.specs.Tree.{Tree, Empty, Node, first, first_place, lone, second, second_place}
use Rattle.cv_syntax_trees.specs.declared.sites.sort.Sort.{Sort}
use Rattle.cv_syntax_trees.specs.declared.sites.sort.Sort.TheVariants.{BelowParameter, OfType}
use Rattle.cv_syntax_trees.specs.sites.Counting.{count}
use Rattle.cv_syntax_trees.specs.sites.Sites.{Variable, first_of, first_site}
use Rattle.cv_syntax_trees.proofs.lists.Each.{AllByRecursion_append}
use Rattle.cv_syntax_trees.proofs.lists.Options.{none_some, some_from_is_some, some_injective}
use Rattle.cv_syntax_trees.proofs.lists.Places.{length_map}
use Rattle.cv_syntax.specs.faults.Walk.{IsObeyed}
use Rattle.cv_meaning.specs.Interpretation.{is_constant_of}
use Rattle.cv_scope_rules.specs.Above.{first_standing, second_standing}
use Rattle.cv_scope_rules.specs.Behind.{behind_site, sites_in, sites_of}
use Rattle.cv_scope_rules.specs.Context.{Context, first_position, nothing_known}
use Rattle.cv_scope_rules.specs.Made.{is_bound, made_by}
use Rattle.cv_scope_rules.specs.Phrases.{Phrase, Nil, Inputs, Body, Then, Else, Branches, Arm, Guards, Guarded, Pattern, Message, Indices, Binders, Cells, OneCell, Terms, Term, is_phrase, parts}
use Rattle.cv_scope_rules.specs.Rules.{is_index}
use Rattle.cv_scope_rules.specs.Sites.{Variable as Named, variable_sites}
use Rattle.cv_scope_rules.specs.declared.typing.precedence.Precedence.TheVariants.{First}
use Rattle.cv_scope_rules.specs.typing.Parts.{nothing_above}
use Rattle.cv_scope_rules.specs.typing.Signature.{Above, Function, boolean, defined_sort, function_in, index_in, is_arity, leaf_sort, sort_of}
use Rattle.cv_scope_rules.specs.typing.Typing.{IsTyped}
use Rattle.cv_scope_rules.specs.typing.Wants.{AnyTerm, Indices as EachIndexOf, Of, asks_indices, bound}
use Rattle.cv_scope_runs.proofs.Rows.{position_of}
use Rattle.cv_typing_runs.specs.Games.{HasArguments, has_site, parameters_of}
use Rattle.cv_typing_runs.proofs.SameSites.{Agrees, Stands, phrase_open}
use Rattle.cv_typing_runs.proofs.Terms.{asked_sort, faultless, nil_empty, same_sorts}
use Rattle.cv_derive_facts.proofs.Standings.{second_replications}
use Rattle.cv_scene.specs.Scenes.{Scene}
use Rattle.cv_scene.specs.Sights.{at_site, only_site, variable_of}
use Rattle.cv_scene.specs.Terms.{above_under, head_is_there, indices_above, is_function, is_there, names_under, signature_in}
use Rattle.cv_scene.specs.lines.Given.{or_node, term_for, with_given}
use Rattle.cv_settling_laws.specs.Games.{IsTypedScene}
use Rattle.cv_settling_laws.proofs.Cells.{IsCell, IsClear, arity_from, bare_kind}
use Rattle.cv_settling_laws.proofs.Indices.{above_kept, bound_new, bound_other, index_none}
use Rattle.cv_settling_laws.proofs.Parts.{IsPart, game_part, positions}
use Rattle.cv_settling_laws.proofs.Standings.{IsSound, IsTested, children, nothing_sound, sites_there}
use Rattle.cv_settling_laws.proofs.Terms.{AreTerms, IsBare, IsPut, any_right, any_sent, are_put, as_any, no_fault, sorted}

-- what stands behind a definition, which is below the replications of the variable's first one
pub record IsSite (s : Scene) (x : ℕ) (d : ℕ × Context) : Type 0 where
  pub sound : IsSound s d.1
  pub agrees : Stands (λ x. first_site x [] s.game) x d.1.replications

bound_agrees : (s : Scene) (x : ℕ) (rs : List (ℕ × ℕ)) (p : ℕ) (bs : Tree) → AllByRecursion (Agrees (λ x. first_site x [] s.game)) (variable_sites rs p bs) → is_bound bs x ≡ true → Stands (λ x. first_site x [] s.game) x rs
unfolding is_bound
bound_agrees s x rs p (Node (Binder y T) a b) A e = go (x == y) refl (bound_agrees s x rs p b A.1) e
  where
    go : (c : Bool) → (x == y) ≡ c → (is_bound b x ≡ true → Stands (λ x. first_site x [] s.game) x rs) → (c || is_bound b x) ≡ true → Stands (λ x. first_site x [] s.game) x rs
    go true i later f = subst (λ z. Stands (λ x. first_site x [] s.game) z rs) (sym (eqb-true x y i)) (A.0 y refl)
    go false i later f = later f
bound_agrees s x rs p t A e = absurd (both_ways false refl e)

abbrev BehindRow : Scene → ℕ → ℕ → Phrase → Context → Head → (a b : Tree) → Option (Phrase × Phrase) → Type 0
BehindRow s x p σ Γ h a b None = Unit {0}
BehindRow s x p σ Γ h a b (Some q) = made_by h a (Named x) ≡ true → IsPart s σ Γ.replications (Node h a b) → IsSound s Γ → IsTested s σ Γ → IsSite s x (p, behind_site h a b Γ)

nothing_made : (s : Scene) (x p : ℕ) (σ : Phrase) (Γ : Context) (h : Head) (a b : Tree) → made_by h a (Named x) ≡ false → made_by h a (Named x) ≡ true → IsPart s σ Γ.replications (Node h a b) → IsSound s Γ → IsTested s σ Γ → IsSite s x (p, behind_site h a b Γ)
nothing_made s x p σ Γ h a b e f k i t = absurd (both_ways _ e f)

module _ (s : Scene) (g : IsTypedScene s) (x : ℕ) where
  one_made : (rs : List (ℕ × ℕ)) (y : ℕ) → Stands (λ x. first_site x [] s.game) y rs → (x == y) ≡ true → Stands (λ x. first_site x [] s.game) x rs
  one_made rs y v e = subst (λ z. Stands (λ x. first_site x [] s.game) z rs) (sym (eqb-true x y e)) v

  branch_made : (p : ℕ) (Γ : Context) (us b : Tree) → is_bound us x ≡ true → IsPart s Arm Γ.replications (Node Branch us b) → IsSound s Γ → IsSite s x (p, behind_site Branch us b Γ)
  unfolding is_phrase
  branch_made p Γ us (Node Cons cells (Node Cons c body)) e k f =
      let one = children s g Arm Γ Branch us (Node Cons cells (Node Cons c body)) (Binders, Guards) refl k f tt in
      let two = children s g Guards (second_standing (position_of Arm) Branch us Γ) Cons cells (Node Cons c body) (Cells, Guarded) refl one.second one.second_sound tt in
      let three = children s g Guarded (second_standing (position_of Guards) Cons cells (second_standing (position_of Arm) Branch us Γ)) Cons c body (Term, Body) refl two.second two.second_sound tt in
      record {
        sound = three.second_sound;
        agrees = subst (Stands (λ x. first_site x [] s.game) x) (sym (second_replications (position_of Guarded) Cons c (second_standing (position_of Guards) Cons cells (second_standing (position_of Arm) Branch us Γ))))
            (bound_agrees s x Γ.replications k.standing.place us (sites_there s Arm Γ.replications Branch us (Node Cons cells (Node Cons c body)) k) e);
      }
  branch_made p Γ us (Node Cons cells Empty) e k f = absurd (both_ways false refl (and_parts (is_phrase Cells cells) false (and_parts (is_phrase Binders us) _ k.phrase).1).1)
  branch_made p Γ us (Node Cons cells (Node h c body)) e k f = absurd (both_ways false refl (and_parts (is_phrase Cells cells) false (and_parts (is_phrase Binders us) _ k.phrase).1).1)
  branch_made p Γ us Empty e k f = absurd (both_ways false refl (and_parts (is_phrase Binders us) false k.phrase).1)
  branch_made p Γ us (Node h cells rest) e k f = absurd (both_ways false refl (and_parts (is_phrase Binders us) false k.phrase).1)

  behind : (p : ℕ) (σ : Phrase) (Γ : Context) (h : Head) (a b : Tree) → BehindRow s x p σ Γ h a b (parts σ h)
  behind p Inputs Γ (In c) a b = λ e k f t. record {
    sound = (children s g Inputs Γ (In c) a b (Pattern, Body) refl k f tt).second_sound;
    agrees = bound_agrees s x Γ.replications k.standing.place (second a) (sites_there s Inputs Γ.replications (In c) a b k) e;
  }
  behind p Body Γ (New y T) a b = λ e k f t. record { sound = (children s g Body Γ (New y T) a b (Nil, Body) refl k f tt).second_sound; agrees = one_made Γ.replications y ((sites_there s Body Γ.replications (New y T) a b k).0 y refl) e }
  behind p Body Γ (Let y T) a b = λ e k f t. record { sound = (children s g Body Γ (Let y T) a b (Term, Body) refl k f tt).second_sound; agrees = one_made Γ.replications y ((sites_there s Body Γ.replications (Let y T) a b k).0 y refl) e }
  behind p Arm Γ Branch a b = λ e k f t. branch_made p Γ a b e k f
  behind p Inputs Γ Stop a b = nothing_made s x p Inputs Γ Stop a b refl
  behind p Inputs Γ Par a b = nothing_made s x p Inputs Γ Par a b refl
  behind p Inputs Γ (Repl i n) a b = nothing_made s x p Inputs Γ (Repl i n) a b refl
  behind p Body Γ Yield a b = nothing_made s x p Body Γ Yield a b refl
  behind p Body Γ (Out c) a b = nothing_made s x p Body Γ (Out c) a b refl
  behind p Body Γ (Event v) a b = nothing_made s x p Body Γ (Event v) a b refl
  behind p Body Γ If a b = nothing_made s x p Body Γ If a b refl
  behind p Body Γ (Find l) a b = nothing_made s x p Body Γ (Find l) a b refl
  behind p Then Γ Cons a b = nothing_made s x p Then Γ Cons a b refl
  behind p Else Γ Cons a b = nothing_made s x p Else Γ Cons a b refl
  behind p Branches Γ Cons a b = nothing_made s x p Branches Γ Cons a b refl
  behind p Guards Γ Cons a b = nothing_made s x p Guards Γ Cons a b refl
  behind p Guarded Γ Cons a b = nothing_made s x p Guarded Γ Cons a b refl
  behind p Pattern Γ Cons a b = nothing_made s x p Pattern Γ Cons a b refl
  behind p Message Γ Cons a b = nothing_made s x p Message Γ Cons a b refl
  behind p Indices Γ (Name i) a b = nothing_made s x p Indices Γ (Name i) a b refl
  behind p Binders Γ (Binder y T) a b = nothing_made s x p Binders Γ (Binder y T) a b refl
  behind p Cells Γ Cons a b = nothing_made s x p Cells Γ Cons a b refl
  behind p OneCell Γ (Leaf y) a b = nothing_made s x p OneCell Γ (Leaf y) a b refl
  behind p OneCell Γ (Read y) a b = nothing_made s x p OneCell Γ (Read y) a b refl
  behind p Terms Γ Cons a b = nothing_made s x p Terms Γ Cons a b refl
  behind p Term Γ (Leaf y) a b = nothing_made s x p Term Γ (Leaf y) a b refl
  behind p Term Γ (Read y) a b = nothing_made s x p Term Γ (Read y) a b refl
  behind p Term Γ (Apply f) a b = nothing_made s x p Term Γ (Apply f) a b refl
  behind p Term Γ Eq a b = nothing_made s x p Term Γ Eq a b refl
  behind p Term Γ And a b = nothing_made s x p Term Γ And a b refl
  behind p Term Γ Or a b = nothing_made s x p Term Γ Or a b refl
  behind p Term Γ Not a b = nothing_made s x p Term Γ Not a b refl
  behind p Term Γ Yes a b = nothing_made s x p Term Γ Yes a b refl
  behind p Term Γ No a b = nothing_made s x p Term Γ No a b refl
  behind p σ Γ h a b = tt

  sites_sound : (σ : Phrase) (Γ : Context) (p : ℕ) (t : Tree) → IsPart s σ Γ.replications t → IsSound s Γ → IsTested s σ Γ → AllByRecursion (IsSite s x) (sites_in x (position_of σ) Γ p t)
  unfolding sites_in
  sites_sound σ Γ p Empty k f t = tt
  sites_sound σ Γ p (Node h a b) k f t =
      let o = phrase_open σ h a b k.phrase in
      let z = positions σ h o.0 o.1 in
      let r = children s g σ Γ h a b o.0 o.1 k f t in
      AllByRecursion_append (IsSite s x) (cond (made_by h a (Named x)) ((p, behind_site h a b Γ) ∷ []) []) _
      (here (made_by h a (Named x)) refl (subst (BehindRow s x p σ Γ h a b) o.1 (behind p σ Γ h a b)))
      (AllByRecursion_append (IsSite s x) (sites_in x (first_position (position_of σ) h) (first_standing (position_of σ) h Γ) (first_place p h) a) _
      (subst (λ w. AllByRecursion (IsSite s x) (sites_in x w (first_standing (position_of σ) h Γ) (first_place p h) a)) (sym z.0) (sites_sound o.0.0 (first_standing (position_of σ) h Γ) (first_place p h) a r.first r.first_sound r.first_tested))
      (subst (λ w. AllByRecursion (IsSite s x) (sites_in x w (second_standing (position_of σ) h a Γ) (second_place p h a) b)) (sym z.1) (sites_sound o.0.1 (second_standing (position_of σ) h a Γ) (second_place p h a) b r.second r.second_sound r.second_tested)))
    where
      here : (c : Bool) → made_by h a (Named x) ≡ c → (made_by h a (Named x) ≡ true → IsPart s σ Γ.replications (Node h a b) → IsSound s Γ → IsTested s σ Γ → IsSite s x (p, behind_site h a b Γ)) → AllByRecursion (IsSite s x) (cond c ((p, behind_site h a b Γ) ∷ []) [])
      here true e i = (i e k f t, tt)
      here false e i = tt

  pub only_sound : (Δ : Context) → only_site (sites_of s.game x) ≡ Some Δ → IsSound s Δ × Stands (λ x. first_site x [] s.game) x Δ.replications
  only_sound Δ e = go (sites_of s.game x) (sites_sound Inputs nothing_known 0 s.game (game_part s g) (nothing_sound s g) tt) e
    where
      go : (ds : List (ℕ × Context)) → AllByRecursion (IsSite s x) ds → only_site ds ≡ Some Δ → IsSound s Δ × Stands (λ x. first_site x [] s.game) x Δ.replications
      go [] A f = absurd (none_some Δ f)
      go (d ∷ []) A f = let same : d.1 ≡ Δ = some_injective f in subst (λ (Θ : Context). IsSound s Θ × Stands (λ x. first_site x [] s.game) x Θ.replications) same (A.0.sound, A.0.agrees)
      go (d ∷ (b ∷ ds)) A f = absurd (none_some Δ f)

-- index terms for indices

-- the term for an index, of its sort
record IsFor (s : Scene) (rs : List (ℕ × ℕ)) (names : List ℕ) (terms : Tree) (above : Above) (x : ℕ) : Type 0 where
  term : Tree
  given : term_for names terms x ≡ Some term
  typed : AreTerms s rs true AnyTerm term
  sort : Sort
  sorted : sort_of (signature_in s) (above_under rs) term ≡ Some sort
  bound : above x ≡ Some sort

abbrev names_of : List (ℕ × ℕ) → List ℕ
names_of qs = map (λ (r : ℕ × ℕ). r.0) qs

index_term : (s : Scene) (rs : List (ℕ × ℕ)) (above : Above) (qs : List (ℕ × ℕ)) (ms : Tree) → AreTerms s rs false (EachIndexOf (parameters_of qs)) ms → count ms ≡ length qs → (x : ℕ) → above x ≡ None → is_index qs x ≡ true → IsFor s rs (names_of qs) ms (indices_above above qs) x
unfolding is_phrase is_there IsObeyed count
index_term s rs above [] ms k c x n e = absurd (both_ways false refl e)
index_term s rs above (r ∷ qs) Empty k c x n e = absurd (omega arith)
index_term s rs above (r ∷ qs) (Node Cons m more) k c x n e =
    let p = and_parts (is_phrase Term m) (is_phrase Terms more) k.phrase in
    let q = and_parts (is_there (names_under s rs) Term m) (is_there (names_under s rs) Terms more) k.there in
    go (r.0 == x) refl p q
    (λ f i. index_term s rs (bound First above r.0 (BelowParameter r.1)) qs more (record { phrase = p.1; there = q.1; typed = k.typed.2 }) (let z : count more + 1 ≡ suc (length qs) = c in omega arith) x (bound_other above r.0 (BelowParameter r.1) x f ∙ n) i) e
  where
    R : Sort
    R = BelowParameter r.1

    go : (b : Bool) → (r.0 == x) ≡ b → (is_phrase Term m ≡ true) × (is_phrase Terms more ≡ true) → (is_there (names_under s rs) Term m ≡ true) × (is_there (names_under s rs) Terms more ≡ true)
        → ((r.0 == x) ≡ false → is_index qs x ≡ true → IsFor s rs (names_of qs) more (indices_above (bound First above r.0 R) qs) x) → (b || is_index qs x) ≡ true → IsFor s rs (names_of (r ∷ qs)) (Node Cons m more) (indices_above above (r ∷ qs)) x
    go true f p q later i =
        let one : AreTerms s rs true (Of R) m = record { phrase = p.0; there = q.0; typed = k.typed.1 } in
        let S = some_from_is_some (sort_of (signature_in s) (above_under rs) m) (sorted s rs m p.0 q.0) in
        let same = same_sorts R S.0 (asked_sort (signature_in s) (above_under rs) (Of R) m S.0 one.typed S.1).0 in
        record {
          term = m;
          given = ap (λ b. cond b (Some m) (term_for (names_of qs) more x)) f;
          typed = as_any s rs (Of R) m one;
          sort = R;
          sorted = S.1 ∙ ap Some same;
          bound = above_kept qs (bound First above r.0 R) x R (bound_new above r.0 R x f n);
        }
    go false f p q later i =
        let z = later f i in
        record { term = z.term; given = ap (λ b. cond b (Some m) (term_for (names_of qs) more x)) f ∙ z.given; typed = z.typed; sort = z.sort; sorted = z.sorted; bound = z.bound }
index_term s rs above (r ∷ qs) (Node h m more) k c x n e = absurd (both_ways false refl k.phrase)

no_term : (qs : List (ℕ × ℕ)) (ms : Tree) (x : ℕ) → is_index qs x ≡ false → term_for (names_of qs) ms x ≡ None
no_term [] ms x e = refl
no_term (r ∷ qs) Empty x e = refl
no_term (r ∷ qs) (Node h m more) x e = let p = or_parts (r.0 == x) (is_index qs x) e in ap (λ b. cond b (Some m) (term_for (names_of qs) more x)) p.0 ∙ no_term qs more x p.1

module _ (s : Scene) (given : HasArguments s.declarations) (qs rs : List (ℕ × ℕ)) (ms : Tree) (clear : IsClear s rs) (k : AreTerms s rs false (EachIndexOf (parameters_of qs)) ms) (many : count ms ≡ length qs) where
  abbrev rest : ℕ → Option Sort
  rest x = first_of (defined_sort (signature_in s).arrays x) (first_of (option_map (λ (f : Function). OfType f.result) (function_in s.declarations x)) (option_map BelowParameter (index_in (signature_in s).arrays x)))

  put_index : (x : ℕ) → is_index qs x ≡ true → IsPut s qs rs (names_of qs) ms x
  unfolding with_given
  put_index x e =
      let z = index_term s rs nothing_above qs ms k many x refl e in
      let same : z.term ≡ with_given (names_of qs) ms (lone (Leaf x)) = ap (λ o. or_node o (Leaf x) Empty Empty) (sym z.given) in
      record {
        term = subst (AreTerms s rs true AnyTerm) same z.typed;
        sort = ap (sort_of (signature_in s) (above_under rs)) (sym same) ∙ (z.sorted ∙ sym (ap (λ o. first_of o (rest x)) z.bound));
      }

  put_name : (x : ℕ) → IsBare s qs x → is_index qs x ≡ false → IsPut s qs rs (names_of qs) ms x
  unfolding with_given is_phrase is_there IsObeyed count
  put_name x b e =
      let none : above_under qs x ≡ None = index_none qs nothing_above x e in
      let clear_here : above_under rs x ≡ None = free (bare_kind s qs x given b none) in
      let same : lone (Leaf x) ≡ with_given (names_of qs) ms (lone (Leaf x)) = ap (λ o. or_node o (Leaf x) Empty Empty) (sym (no_term qs ms x e)) in
      let one : AreTerms s rs true AnyTerm (lone (Leaf x)) =
      record {
        phrase = refl;
        there = and_from (head_is_there (names_under s rs) Term (Leaf x)) _ (named (or_cases (is_index qs x) _ b.there)) refl;
        typed = (
          no_fault (signature_in s) (above_under rs) AnyTerm (Leaf x) Empty (any_right (leaf_sort (signature_in s) (above_under rs) x)) refl
              (ap (λ o. is_arity (arity_from o (first_site x [] s.game) (function_in s.declarations x)) 0) (clear_here ∙ sym none) ∙ b.arity) (any_sent (leaf_sort (signature_in s) (above_under rs) x)) refl,
          tt,
          tt,
        );
      } in
      record {
        term = subst (AreTerms s rs true AnyTerm) same one;
        sort = ap (sort_of (signature_in s) (above_under rs)) (sym same) ∙ (ap (λ o. first_of o (rest x)) clear_here ∙ sym (ap (λ o. first_of o (rest x)) none));
      }
    where
      free : (has_site s.game x ≡ true) ⊎ (is_constant_of s.declarations x ≡ true) → above_under rs x ≡ None
      free (inl v) = clear.variables x v
      free (inr v) = clear.constants x v

      named : (is_index qs x ≡ true) ⊎ ((is_function s.declarations x || has_site s.game x) ≡ true) → head_is_there (names_under s rs) Term (Leaf x) ≡ true
      named (inl i) = absurd (both_ways (is_index qs x) e i)
      named (inr n) = or_right (is_index rs x) _ n

  put_each : (x : ℕ) → IsBare s qs x → IsPut s qs rs (names_of qs) ms x
  put_each x b = go (is_index qs x) refl
    where
      go : (c : Bool) → is_index qs x ≡ c → IsPut s qs rs (names_of qs) ms x
      go true e = put_index x e
      go false e = put_name x b e

  put_term : (t : Tree) → AreTerms s qs true (Of boolean) t → AreTerms s rs true (Of boolean) (with_given (names_of qs) ms t)
  put_term t z = (are_put s qs rs (names_of qs) ms put_each true (Of boolean) t z).0

-- a cell has as many index terms as its variable has indices, of their parameters
record HasIndices (s : Scene) (rs qs : List (ℕ × ℕ)) (c : Tree) : Type 0 where
  terms : AreTerms s rs false (EachIndexOf (parameters_of qs)) (first c)
  many : count (first c) ≡ length qs

has_indices : (s : Scene) (rs qs : List (ℕ × ℕ)) (c : Tree) (x : ℕ) → IsClear s rs → IsCell s rs c → variable_of c ≡ Some x → Stands (λ x. first_site x [] s.game) x qs → HasIndices s rs qs c
unfolding is_phrase is_there IsObeyed count
has_indices s rs qs Empty x clear k e v = absurd (none_some x e)
has_indices s rs qs (Node (Leaf y) a b) x clear k e (v, f, p) =
    let nil = nil_empty a (and_parts (is_phrase Nil a) (is_phrase Nil b) k.phrase).0 in
    let same : y ≡ x = some_injective e in
    let g = faultless (signature_in s) (above_under rs) AnyTerm (Leaf y) a k.term.typed.0 in
    let none : above_under rs y ≡ None = clear.variables y k.variable in
    let site : first_site y [] s.game ≡ Some v = ap (λ z. first_site z [] s.game) same ∙ f in
    let long : (length v.parameters == count a) ≡ true = sym (λ i. is_arity (arity_from (none i) (site i) (function_in s.declarations y)) (count a)) ∙ g.arity in
    record {
      terms = subst (AreTerms s rs false (EachIndexOf (parameters_of qs))) (sym nil) (record { phrase = refl; there = refl; typed = tt });
      many = sym (eqb-true (length v.parameters) (count a) long) ∙ (ap length p ∙ length_map (λ (r : ℕ × ℕ). r.1) qs);
    }
has_indices s rs qs (Node (Read y) a b) x clear k e (v, f, p) =
    let same : y ≡ x = some_injective e in
    let g = faultless (signature_in s) (above_under rs) AnyTerm (Read y) a k.term.typed.0 in
    let site : first_site y [] s.game ≡ Some v = ap (λ z. first_site z [] s.game) same ∙ f in
    let long : (length v.parameters == count a) ≡ true = sym (λ i. is_arity (option_map (λ (v : Variable). length v.parameters) (site i)) (count a)) ∙ g.arity in
    record {
      terms = record {
        phrase = (and_parts (is_phrase Terms a) (is_phrase Nil b) k.phrase).0;
        there = (and_parts (is_there (names_under s rs) Terms a) _ (and_parts (head_is_there (names_under s rs) Term (Read y)) _ k.term.there).1).0;
        typed = subst (λ ps. IsTyped (signature_in s) (above_under rs) (EachIndexOf ps) a) p (subst (λ u. IsTyped (signature_in s) (above_under rs) (asks_indices u) a) site k.term.typed.1);
      };
      many = sym (eqb-true (length v.parameters) (count a) long) ∙ (ap length p ∙ length_map (λ (r : ℕ × ℕ). r.1) qs);
    }
has_indices s rs qs (Node h a b) x clear k e v = absurd (both_ways false refl k.phrase)

-- facts at the only site of a cell, at its index terms
pub site_typed : (s : Scene) (g : IsTypedScene s) (rs : List (ℕ × ℕ)) (c : Tree) → IsClear s rs → IsCell s rs c → AllByRecursion (AreTerms s rs true (Of boolean)) (at_site (λ (Γ : Context). Γ.facts) c (option_and_then (λ x. only_site (sites_of s.game x)) (variable_of c)))
site_typed s g rs c clear k = variable (variable_of c) refl
  where
    facts : Option Context → List Tree
    facts o = at_site (λ (Γ : Context). Γ.facts) c o

    all : (qs : List (ℕ × ℕ)) (ts : List Tree) → ((t : Tree) → AreTerms s qs true (Of boolean) t → AreTerms s rs true (Of boolean) (with_given (names_of qs) (first c) t)) → AllByRecursion (AreTerms s qs true (Of boolean)) ts → AllByRecursion (AreTerms s rs true (Of boolean)) (map (with_given (names_of qs) (first c)) ts)
    all qs [] f h = tt
    all qs (t ∷ ts) f h = (f t h.0, all qs ts f h.1)

    site : (x : ℕ) → variable_of c ≡ Some x → (o : Option Context) → only_site (sites_of s.game x) ≡ o → AllByRecursion (AreTerms s rs true (Of boolean)) (facts o)
    site x e None f = tt
    site x e (Some Δ) f =
        let d = only_sound s g x Δ f in
        let z = has_indices s rs Δ.replications c x clear k e d.1 in
        all Δ.replications Δ.facts (put_term s g.arguments Δ.replications rs (first c) clear z.terms z.many) d.0.facts

    variable : (o : Option ℕ) → variable_of c ≡ o → AllByRecursion (AreTerms s rs true (Of boolean)) (facts (option_and_then (λ x. only_site (sites_of s.game x)) o))
    variable None e = tt
    variable (Some x) e = site x e (only_site (sites_of s.game x)) refl
