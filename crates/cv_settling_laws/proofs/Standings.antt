-- What stands above a place of a typed game is typed there.
use Rattle.std.proofs.Common.{◌≡◌, ℕ, ◌+◌, ◌-◌, Bool, true, false, cond, not, nat_lt, List, [], ◌∷◌, ◌++◌, map, Option, Some, None, refl, sym, ap, subst, ◌∙◌, eq-eqb, option_map}
use Rattle.std.specs.List.{AllByRecursion}
use Rattle.std.proofs.lemmas.Bool.{and_from, and_parts, both_ways, not-true, or_parts}
use Rattle.cv_syntax_trees.specs.declared.head.Head.{Head}
use Rattle.cv_syntax_trees.specs.declared.head.Head.TheVariants.{Stop, Yield, Par, Repl, In, Out, Event, New, Let, If, Find, Branch, Leaf, Read, Apply, Eq, And, Or, Not, Yes, No, Cons, Binder, Name}
use Rattle.cv_syntax_trees.specs.Head.{weight}
use Rattle.cv_syntax_trees.specs.Tree.{Tree, Empty, Node, second, size}
use Rattle.cv_syntax_trees.specs.declared.sites.sort.Sort.{Sort}
use Rattle.cv_syntax_trees.specs.declared.sites.sort.Sort.TheVariants.{OfType}
use Rattle.cv_syntax_trees.specs.sites.Sites.{Variable, first_site}
use Rattle.cv_syntax_trees.specs.sites.Sorts.{differs_from, same_sort}
use Rattle.cv_syntax_trees.proofs.lists.Each.{AllByRecursion_append, AllByRecursion_left, AllByRecursion_weaker}
use Rattle.cv_syntax_trees.proofs.lists.Options.{none_some, some_injective}
use Rattle.cv_syntax.specs.faults.Walk.{IsObeyed}
use Rattle.cv_meaning.specs.Interpretation.{is_constant_of}
use Rattle.cv_scope_rules.specs.Above.{first_standing, second_standing, standing_at, stands_at, with_failed, with_held}
use Rattle.cv_scope_rules.specs.Context.{Context, cell_of, cells_of, first_position, items, nothing_known, second_position, with_cells, with_fact}
use Rattle.cv_scope_rules.specs.Phrases.{Phrase, Nil, Inputs, Body, Then, Else, Branches, Arm, Guards, Guarded, Pattern, Message, Indices, Binders, Cells, OneCell, Terms, Term, binds_none, head_binds_none, is_phrase, parts}
use Rattle.cv_scope_rules.specs.Rules.{is_index}
use Rattle.cv_scope_rules.specs.Sites.{Variable as Named, channel_here, named_here, site_of, sites_from, sites_here}
use Rattle.cv_scope_rules.specs.declared.fault.Fault.TheVariants.{Replications}
use Rattle.cv_scope_rules.specs.declared.typing.form.Form.TheVariants.{InProcess}
use Rattle.cv_scope_rules.specs.typing.Signature.{boolean, sort_of}
use Rattle.cv_scope_rules.specs.typing.Typing.{IsTyped}
use Rattle.cv_scope_rules.specs.typing.Wants.{Message as Sending, Of, Run, Want, is_index_sent, is_wrong, like, wants}
use Rattle.cv_scope_runs.proofs.Rows.{position_of}
use Rattle.cv_typing_runs.specs.Games.{are_known, are_named, are_variable_cells, has_site, is_known, is_variable_cell}
use Rattle.cv_typing_runs.proofs.SameSites.{Agrees, phrase_open}
use Rattle.cv_typing_runs.proofs.Terms.{asked_sort, faultless, message_sort, same_sorts}
use Rattle.cv_derive_facts.proofs.Standings.{first_replications, second_replications}
use Rattle.cv_scene.specs.Scenes.{Scene}
use Rattle.cv_scene.specs.Terms.{above_under, head_is_there, is_there, names_under, signature_in}
use Rattle.cv_settling_laws.specs.Games.{IsTypedScene}
use Rattle.cv_settling_laws.proofs.Cells.{IsCell, IsClear, clear_more, clear_nothing, own_cell, weaker, weaker_cell}
use Rattle.cv_settling_laws.proofs.Parts.{IsPart, first_part, game_part, positions, second_part}
use Rattle.cv_settling_laws.proofs.Terms.{AreTerms, as_any, gives_by_sort, of_terms}

-- terms of games

nil_there : (s : Scene) (rs : List (ℕ × ℕ)) (t : Tree) → is_phrase Nil t ≡ true → is_there (names_under s rs) Nil t ≡ true
unfolding is_phrase is_there
nil_there s rs Empty p = refl
nil_there s rs (Node h a b) p = absurd (both_ways false refl p)

-- names that are known are there
terms_there : (s : Scene) (rs : List (ℕ × ℕ)) (is_one : Bool) (t : Tree) → is_phrase (of_terms is_one) t ≡ true → are_known s.declarations (has_site s.game) rs t ≡ true → is_there (names_under s rs) (of_terms is_one) t ≡ true
unfolding is_phrase are_known is_there
terms_there s rs false Empty p e = refl
terms_there s rs false (Node Cons a b) p e =
    let z = and_parts (is_phrase Term a) (is_phrase Terms b) p in
    let u = and_parts (are_known s.declarations (has_site s.game) rs a) _ e in
    and_from _ _ (terms_there s rs true a z.0 u.0) (terms_there s rs false b z.1 u.1)
terms_there s rs false (Node h a b) p e = absurd (both_ways false refl p)
terms_there s rs true Empty p e = refl
terms_there s rs true (Node (Leaf x) a b) p e =
    let z = and_parts (is_phrase Nil a) (is_phrase Nil b) p in
    and_from (head_is_there (names_under s rs) Term (Leaf x)) _ (and_parts (is_known s.declarations (has_site s.game) rs (Leaf x)) _ e).0 (and_from _ _ (nil_there s rs a z.0) (nil_there s rs b z.1))
terms_there s rs true (Node (Read x) a b) p e =
    let z = and_parts (is_phrase Terms a) (is_phrase Nil b) p in
    let u = and_parts (is_known s.declarations (has_site s.game) rs (Read x)) _ e in
    and_from (head_is_there (names_under s rs) Term (Read x)) _ u.0 (and_from _ _ (terms_there s rs false a z.0 (and_parts (are_known s.declarations (has_site s.game) rs a) _ u.1).0) (nil_there s rs b z.1))
terms_there s rs true (Node (Apply f) a b) p e =
    let z = and_parts (is_phrase Terms a) (is_phrase Nil b) p in
    let u = and_parts (is_known s.declarations (has_site s.game) rs (Apply f)) _ e in
    and_from (head_is_there (names_under s rs) Term (Apply f)) _ u.0 (and_from _ _ (terms_there s rs false a z.0 (and_parts (are_known s.declarations (has_site s.game) rs a) _ u.1).0) (nil_there s rs b z.1))
terms_there s rs true (Node Eq a b) p e =
    let z = and_parts (is_phrase Term a) (is_phrase Term b) p in
    let u = and_parts (are_known s.declarations (has_site s.game) rs a) _ e in
    and_from _ _ (terms_there s rs true a z.0 u.0) (terms_there s rs true b z.1 u.1)
terms_there s rs true (Node And a b) p e =
    let z = and_parts (is_phrase Term a) (is_phrase Term b) p in
    let u = and_parts (are_known s.declarations (has_site s.game) rs a) _ e in
    and_from _ _ (terms_there s rs true a z.0 u.0) (terms_there s rs true b z.1 u.1)
terms_there s rs true (Node Or a b) p e =
    let z = and_parts (is_phrase Term a) (is_phrase Term b) p in
    let u = and_parts (are_known s.declarations (has_site s.game) rs a) _ e in
    and_from _ _ (terms_there s rs true a z.0 u.0) (terms_there s rs true b z.1 u.1)
terms_there s rs true (Node Not a b) p e =
    let z = and_parts (is_phrase Term a) (is_phrase Nil b) p in
    and_from _ _ (terms_there s rs true a z.0 (and_parts (are_known s.declarations (has_site s.game) rs a) _ e).0) (nil_there s rs b z.1)
terms_there s rs true (Node Yes a b) p e = let z = and_parts (is_phrase Nil a) (is_phrase Nil b) p in and_from _ _ (nil_there s rs a z.0) (nil_there s rs b z.1)
terms_there s rs true (Node No a b) p e = let z = and_parts (is_phrase Nil a) (is_phrase Nil b) p in and_from _ _ (nil_there s rs a z.0) (nil_there s rs b z.1)
terms_there s rs true (Node h a b) p e = absurd (both_ways false refl p)

pub part_term : (s : Scene) (rs : List (ℕ × ℕ)) (w : Want) (t : Tree) → IsPart s Term rs t → IsTyped (signature_in s) (above_under rs) w t → AreTerms s rs true w t
part_term s rs w t k i = record { phrase = k.phrase; there = terms_there s rs true t k.phrase k.known; typed = i }

-- what isn't true
pub negation_typed : (s : Scene) (rs : List (ℕ × ℕ)) (t : Tree) → AreTerms s rs true (Of boolean) t → AreTerms s rs true (Of boolean) (Node Not t Empty)
unfolding is_phrase is_there IsObeyed
negation_typed s rs t k = record { phrase = and_from (is_phrase Term t) _ k.phrase refl; there = and_from (is_there (names_under s rs) Term t) _ k.there refl; typed = (refl, k.typed, tt) }

-- the cells of a list
list_cells : (s : Scene) (rs : List (ℕ × ℕ)) (w : Want) (t : Tree) → is_phrase Cells t ≡ true → are_known s.declarations (has_site s.game) rs t ≡ true → are_variable_cells (has_site s.game) t ≡ true → IsTyped (signature_in s) (above_under rs) w t → AllByRecursion (IsCell s rs) (items t)
unfolding is_phrase are_known IsObeyed
list_cells s rs w Empty p e v i = tt
list_cells s rs w (Node Cons c more) p e v i =
    let z = and_parts (is_phrase OneCell c) (is_phrase Cells more) p in
    let u = and_parts (are_known s.declarations (has_site s.game) rs c) _ e in
    let n = and_parts (is_variable_cell (has_site s.game) c) _ v in
    let phrase = one c z.0 in (
      record { phrase = z.0; variable = n.0; term = as_any s rs (wants (signature_in s) (above_under rs) w Cons c).0 c (record { phrase = phrase; there = terms_there s rs true c phrase u.0; typed = i.1 }) },
      list_cells s rs (wants (signature_in s) (above_under rs) w Cons c).1 more z.1 u.1 n.1 i.2,
    )
  where
    one : (c : Tree) → is_phrase OneCell c ≡ true → is_phrase Term c ≡ true
    one Empty e = absurd (both_ways false refl e)
    one (Node (Leaf x) a b) e = e
    one (Node (Read x) a b) e = e
    one (Node h a b) e = absurd (both_ways false refl e)
list_cells s rs w (Node h c more) p e v i = absurd (both_ways false refl p)

-- contexts

pub record IsSound (s : Scene) (Γ : Context) : Type 0 where
  pub clear : IsClear s Γ.replications
  pub facts : AllByRecursion (AreTerms s Γ.replications true (Of boolean)) Γ.facts
  pub cells : AllByRecursion (IsCell s Γ.replications) Γ.cells
  pub own : AllByRecursion (IsCell s Γ.replications) Γ.own

-- at the bodies of an `if`
abbrev pub IsTested : Scene → Phrase → Context → Type 0
IsTested s Then Γ = AreTerms s Γ.replications true (Of boolean) Γ.tested
IsTested s Else Γ = AreTerms s Γ.replications true (Of boolean) Γ.tested
IsTested s σ Γ = Unit {0}

sound_cells : (s : Scene) (Γ : Context) (cs : List Tree) → AllByRecursion (IsCell s Γ.replications) cs → IsSound s Γ → IsSound s (with_cells Γ cs)
sound_cells s Γ cs c f = record { clear = f.clear; facts = f.facts; cells = AllByRecursion_append (IsCell s Γ.replications) Γ.cells cs f.cells c; own = f.own }

sound_fact : (s : Scene) (Γ : Context) (t : Tree) → AreTerms s Γ.replications true (Of boolean) t → IsSound s Γ → IsSound s (with_fact Γ t)
sound_fact s Γ t h f = record { clear = f.clear; facts = AllByRecursion_append (AreTerms s Γ.replications true (Of boolean)) Γ.facts (t ∷ []) f.facts (h, tt); cells = f.cells; own = f.own }

sound_held : (s : Scene) (Γ : Context) (t : Tree) → AreTerms s Γ.replications true (Of boolean) t → IsSound s Γ → IsSound s (with_held Γ t)
sound_held s Γ Empty h f = f
sound_held s Γ (Node k a b) h f = sound_fact s Γ (Node k a b) h f

sound_failed : (s : Scene) (Γ : Context) (t : Tree) → AreTerms s Γ.replications true (Of boolean) t → IsSound s Γ → IsSound s (with_failed Γ t)
sound_failed s Γ Empty h f = f
sound_failed s Γ (Node k a b) h f = sound_fact s Γ (Node Not (Node k a b) Empty) (negation_typed s Γ.replications (Node k a b) h) f

names_cells : (s : Scene) (rs : List (ℕ × ℕ)) (p : ℕ) (xs : List ℕ) → IsClear s rs → AllByRecursion (Agrees (λ x. first_site x [] s.game)) (map (λ x. site_of rs p (Named x)) xs) → AllByRecursion (IsCell s rs) (map (cell_of rs) xs)
names_cells s rs p [] k A = tt
names_cells s rs p (x ∷ xs) k A = let v = A.0 x refl in ((own_cell s rs x v.0 k v.1 v.2).0, names_cells s rs p xs k A.1)

-- the definitions of a node agree with the first ones of their variables
pub sites_there : (s : Scene) (σ : Phrase) (rs : List (ℕ × ℕ)) (h : Head) (a b : Tree) → (k : IsPart s σ rs (Node h a b)) → AllByRecursion (Agrees (λ x. first_site x [] s.game)) (named_here rs k.standing.place h a)
unfolding sites_from
sites_there s σ rs h a b k =
    AllByRecursion_left (Agrees (λ x. first_site x [] s.game)) (named_here rs k.standing.place h a) (channel_here rs k.standing.place h a)
    (AllByRecursion_left (Agrees (λ x. first_site x [] s.game)) (sites_here rs k.standing.place h a) _ k.sites)

-- a `let` says that its variable is equal to its term
definition_typed : (s : Scene) (rs : List (ℕ × ℕ)) (x T : ℕ) (a b : Tree) → IsClear s rs → IsPart s Body rs (Node (Let x T) a b) → AreTerms s rs true (Of boolean) (Node Eq (cell_of rs x) a)
unfolding is_phrase is_there IsObeyed
definition_typed s rs x T a b k p =
    let e = signature_in s in
    let above = above_under rs in
    let v = (sites_there s Body rs (Let x T) a b p).0 x refl in
    let own = own_cell s rs x v.0 k v.1 v.2 in
    let part = first_part s Body rs (Let x T) a b p (Term, Body) refl in
    let term = part_term s rs (Sending T) a part p.typed.1 in
    let site = (faultless e above (Run InProcess) (Let x T) a p.typed.0).site in
    let same : OfType T ≡ v.0.sort = same_sorts v.0.sort (OfType T) (sym (ap (λ (u : Option Variable). differs_from (option_map (λ (v : Variable). v.sort) u) (OfType T)) v.1) ∙ site) in
    let right : is_wrong (Of (OfType T)) (sort_of e above a) ≡ false = given (sort_of e above a) refl term in
    let typed : IsTyped e above (like (sort_of e above (cell_of rs x))) a =
    subst (λ o. IsTyped e above (like o) a) (sym own.1) (subst (λ S. IsTyped e above (Of S) a) same (gives_by_sort e above (Sending T) (Of (OfType T)) a term.phrase term.typed right (unsent (sort_of e above a)))) in
    record {
      phrase = and_from (is_phrase Term (cell_of rs x)) _ own.0.term.phrase term.phrase;
      there = and_from (is_there (names_under s rs) Term (cell_of rs x)) _ own.0.term.there term.there;
      typed = (refl, own.0.term.typed, typed);
    }
  where
    unsent : (o : Option Sort) → is_index_sent (Of (OfType T)) o ≡ false
    unsent None = refl
    unsent (Some S) = refl

    given : (o : Option Sort) → sort_of (signature_in s) (above_under rs) a ≡ o → AreTerms s rs true (Sending T) a → is_wrong (Of (OfType T)) (sort_of (signature_in s) (above_under rs) a) ≡ false
    given None f term = ap (is_wrong (Of (OfType T))) f
    given (Some S) f term =
        let z = asked_sort (signature_in s) (above_under rs) (Sending T) a S term.typed f in
        let same = message_sort T S z.0 z.1 in
        ap (is_wrong (Of (OfType T))) f ∙ (ap (λ R. not (same_sort (OfType T) R)) same ∙ ap not (eq-eqb T T refl))

-- a condition
condition : (s : Scene) (rs : List (ℕ × ℕ)) (σ τ : Phrase) (h : Head) (a b : Tree) → parts σ h ≡ Some (Term, τ) → IsPart s σ rs (Node h a b) → IsTyped (signature_in s) (above_under rs) (Of boolean) a → AreTerms s rs true (Of boolean) a
condition s rs σ τ h a b e k i = part_term s rs (Of boolean) a (first_part s σ rs h a b k (Term, τ) e) i

-- below a replication
below : (s : Scene) (g : IsTypedScene s) (Γ : Context) (i n : ℕ) (a b : Tree) → IsPart s Inputs Γ.replications (Node (Repl i n) a b) → IsSound s Γ → IsSound s (record Γ { replications = Γ.replications ++ (i, n) ∷ []; own = [] })
unfolding IsObeyed binds_none
below s g Γ i n a b k f =
    let new = (k.scoped.0 Replications).2 in
    let c = clear_more s Γ.replications i n (subst (λ rs. is_index rs i ≡ false) k.replications new.0) (or_parts (has_site s.game i) _ new.1).0 (not-true _ (and_parts (head_binds_none (is_constant_of s.declarations) (Repl i n)) _ k.constants).0) f.clear in
    record {
      clear = c;
      facts = AllByRecursion_weaker (AreTerms s Γ.replications true (Of boolean)) (AreTerms s (Γ.replications ++ (i, n) ∷ []) true (Of boolean)) (weaker s g.arguments Γ.replications i n c true (Of boolean)) Γ.facts f.facts;
      cells = AllByRecursion_weaker (IsCell s Γ.replications) (IsCell s (Γ.replications ++ (i, n) ∷ [])) (weaker_cell s g.arguments Γ.replications i n c) Γ.cells f.cells;
      own = tt;
    }

abbrev SoundBelow : Scene → Phrase → Context → Head → (a b : Tree) → Option (Phrase × Phrase) → Type 0
SoundBelow s σ Γ h a b None = Unit {0}
SoundBelow s σ Γ h a b (Some q) =
    IsPart s σ Γ.replications (Node h a b) → IsSound s Γ → IsTested s σ Γ
    → (IsSound s (first_standing (position_of σ) h Γ) × IsTested s q.0 (first_standing (position_of σ) h Γ)) × (IsSound s (second_standing (position_of σ) h a Γ) × IsTested s q.1 (second_standing (position_of σ) h a Γ))

module _ (s : Scene) (g : IsTypedScene s) where
  sound_below : (σ : Phrase) (Γ : Context) (h : Head) (a b : Tree) → SoundBelow s σ Γ h a b (parts σ h)
  unfolding IsObeyed are_named
  sound_below Inputs Γ Stop a b = λ k f t. ((f, tt), (f, tt))
  sound_below Inputs Γ Par a b = λ k f t. ((f, tt), (f, tt))
  sound_below Inputs Γ (Repl i n) a b = λ k f t. ((f, tt), (below s g Γ i n a b k f, tt))
  sound_below Inputs Γ (In c) a b = λ k f t. ((f, tt), (sound_cells s Γ (cells_of Γ.replications (second a)) (names_cells s Γ.replications k.standing.place _ f.clear (sites_there s Inputs Γ.replications (In c) a b k)) f, tt))
  sound_below Body Γ Yield a b = λ k f t. ((f, tt), (f, tt))
  sound_below Body Γ (Out c) a b = λ k f t. ((f, tt), (f, tt))
  sound_below Body Γ (New x T) a b = λ k f t. let v = (sites_there s Body Γ.replications (New x T) a b k).0 x refl in ((f, tt), (sound_cells s Γ (cell_of Γ.replications x ∷ []) ((own_cell s Γ.replications x v.0 f.clear v.1 v.2).0, tt) f, tt))
  sound_below Body Γ (Let x T) a b = λ k f t. let v = (sites_there s Body Γ.replications (Let x T) a b k).0 x refl in
      ((f, tt), (sound_fact s (with_cells Γ (cell_of Γ.replications x ∷ [])) (Node Eq (cell_of Γ.replications x) a) (definition_typed s Γ.replications x T a b f.clear k) (sound_cells s Γ (cell_of Γ.replications x ∷ []) ((own_cell s Γ.replications x v.0 f.clear v.1 v.2).0, tt) f), tt))
  sound_below Body Γ (Event v) a b = λ k f t. ((f, tt), (record { clear = f.clear; facts = f.facts; cells = f.cells; own = f.own }, tt))
  sound_below Body Γ If a b = λ k f t. ((f, tt), (record { clear = f.clear; facts = f.facts; cells = f.cells; own = f.own }, condition s Γ.replications Body Then If a b refl k k.typed.1))
  sound_below Body Γ (Find l) a b = λ k f t. ((f, tt), (f, tt))
  sound_below Then Γ Cons a b = λ k f t. ((sound_held s Γ Γ.tested t f, tt), (f, t))
  sound_below Else Γ Cons a b = λ k f t. ((sound_failed s Γ Γ.tested t f, tt), (f, tt))
  sound_below Branches Γ Cons a b = λ k f t. ((f, tt), (f, tt))
  sound_below Arm Γ Branch a b = λ k f t. ((f, tt), (record { clear = f.clear; facts = f.facts; cells = f.cells; own = names_cells s Γ.replications k.standing.place _ f.clear (sites_there s Arm Γ.replications Branch a b k) }, tt))
  sound_below Guards Γ Cons a b = λ k f t. let part = first_part s Guards Γ.replications Cons a b k (Cells, Guarded) refl in
      ((f, tt), (sound_cells s Γ (items a) (list_cells s Γ.replications part.typed.0 a part.phrase part.known (and_parts (are_variable_cells (has_site s.game) a) _ k.named).0 part.typed.1) f, tt))
  sound_below Guarded Γ Cons a b = λ k f t. (
    (f, tt),
    (
      sound_held s (record Γ { cells = Γ.cells ++ Γ.own; own = [] }) a (condition s Γ.replications Guarded Body Cons a b refl k k.typed.1)
          (record { clear = f.clear; facts = f.facts; cells = AllByRecursion_append (IsCell s Γ.replications) Γ.cells Γ.own f.cells f.own; own = tt }),
      tt,
    ),
  )
  sound_below Pattern Γ Cons a b = λ k f t. ((f, tt), (f, tt))
  sound_below Message Γ Cons a b = λ k f t. ((f, tt), (f, tt))
  sound_below Indices Γ (Name i) a b = λ k f t. ((f, tt), (f, tt))
  sound_below Binders Γ (Binder x T) a b = λ k f t. ((f, tt), (f, tt))
  sound_below Cells Γ Cons a b = λ k f t. ((f, tt), (f, tt))
  sound_below OneCell Γ (Leaf x) a b = λ k f t. ((f, tt), (f, tt))
  sound_below OneCell Γ (Read x) a b = λ k f t. ((f, tt), (f, tt))
  sound_below Terms Γ Cons a b = λ k f t. ((f, tt), (f, tt))
  sound_below Term Γ (Leaf x) a b = λ k f t. ((f, tt), (f, tt))
  sound_below Term Γ (Read x) a b = λ k f t. ((f, tt), (f, tt))
  sound_below Term Γ (Apply h) a b = λ k f t. ((f, tt), (f, tt))
  sound_below Term Γ Eq a b = λ k f t. ((f, tt), (f, tt))
  sound_below Term Γ And a b = λ k f t. ((f, tt), (f, tt))
  sound_below Term Γ Or a b = λ k f t. ((f, tt), (f, tt))
  sound_below Term Γ Not a b = λ k f t. ((f, tt), (f, tt))
  sound_below Term Γ Yes a b = λ k f t. ((f, tt), (f, tt))
  sound_below Term Γ No a b = λ k f t. ((f, tt), (f, tt))
  sound_below σ Γ h a b = tt

  -- the children of a node, with what stands above them
  pub record IsBelow (σ : Phrase) (Γ : Context) (h : Head) (a b : Tree) (q : Phrase × Phrase) : Type 0 where
    pub first : IsPart s q.0 (first_standing (position_of σ) h Γ).replications a
    pub first_sound : IsSound s (first_standing (position_of σ) h Γ)
    pub first_tested : IsTested s q.0 (first_standing (position_of σ) h Γ)
    pub second : IsPart s q.1 (second_standing (position_of σ) h a Γ).replications b
    pub second_sound : IsSound s (second_standing (position_of σ) h a Γ)
    pub second_tested : IsTested s q.1 (second_standing (position_of σ) h a Γ)

  pub children : (σ : Phrase) (Γ : Context) (h : Head) (a b : Tree) (q : Phrase × Phrase) → parts σ h ≡ Some q → IsPart s σ Γ.replications (Node h a b) → IsSound s Γ → IsTested s σ Γ → IsBelow σ Γ h a b q
  children σ Γ h a b q e k f t =
      let r = subst (SoundBelow s σ Γ h a b) e (sound_below σ Γ h a b) k f t in
      record {
        first = subst (λ rs. IsPart s q.0 rs a) (sym (first_replications (position_of σ) h Γ)) (first_part s σ Γ.replications h a b k q e);
        first_sound = r.0.0;
        first_tested = r.0.1;
        second = subst (λ rs. IsPart s q.1 rs b) (sym (second_replications (position_of σ) h a Γ)) (second_part s σ Γ.replications h a b k q e);
        second_sound = r.1.0;
        second_tested = r.1.1;
      }

  stands_in : (σ : Phrase) (Γ : Context) (t : Tree) (p : ℕ) (Δ : Context) → IsPart s σ Γ.replications t → IsSound s Γ → IsTested s σ Γ → standing_at (position_of σ) Γ t p ≡ Some Δ → IsSound s Δ
  unfolding standing_at
  stands_in σ Γ Empty p Δ k f t i = absurd (none_some Δ i)
  stands_in σ Γ (Node h a b) p Δ k f t i =
      let o = phrase_open σ h a b k.phrase in
      let z = positions σ h o.0 o.1 in
      let r = children σ Γ h a b o.0 o.1 k f t in
      go (nat_lt p (weight h)) (nat_lt p (weight h + size a)) i
      (λ j. stands_in o.0.0 (first_standing (position_of σ) h Γ) a (p - weight h) Δ r.first r.first_sound r.first_tested (subst (λ w. standing_at w (first_standing (position_of σ) h Γ) a (p - weight h) ≡ Some Δ) z.0 j))
      (λ j. stands_in o.0.1 (second_standing (position_of σ) h a Γ) b (p - (weight h + size a)) Δ r.second r.second_sound r.second_tested (subst (λ w. standing_at w (second_standing (position_of σ) h a Γ) b (p - (weight h + size a)) ≡ Some Δ) z.1 j))
    where
      x : Option Context
      x = standing_at (first_position (position_of σ) h) (first_standing (position_of σ) h Γ) a (p - weight h)

      y : Option Context
      y = standing_at (second_position (position_of σ) h) (second_standing (position_of σ) h a Γ) b (p - (weight h + size a))

      go : (c d : Bool) → cond c (Some Γ) (cond d x y) ≡ Some Δ → (x ≡ Some Δ → IsSound s Δ) → (y ≡ Some Δ → IsSound s Δ) → IsSound s Δ
      go true d i u v = subst (IsSound s) (some_injective i) f
      go false true i u v = u i
      go false false i u v = v i

  pub nothing_sound : IsSound s nothing_known
  nothing_sound = record { clear = clear_nothing s; facts = tt; cells = tt; own = tt }

  pub standing_sound : (p : ℕ) (Γ : Context) → stands_at s.game p ≡ Some Γ → IsSound s Γ
  standing_sound p Γ e = stands_in Inputs nothing_known s.game p Γ (game_part s g) nothing_sound tt e
