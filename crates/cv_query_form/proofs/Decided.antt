-- The test of a query decides whether it may be asked.
use Rattle.std.proofs.Common.{◌≡◌, ℕ, Bool, true, false, ◌||◌, not, cond, List, [], ◌⊎◌, inl, inr, refl, ap, ◌∙◌, Option, Some, None}
use Rattle.std.specs.Prelude.{option_map}
use Rattle.std.proofs.lemmas.Bool.{and_parts, and_from, or_cases, or_left, or_right, both_ways, not-true, not_from_false}
use Rattle.cv_syntax_trees.specs.declared.head.Head.TheVariants.{Cons, Query, Occurs, OccursOnce, Secret, SecretOnce, SomeOf}
use Rattle.cv_syntax_trees.specs.Tree.{Tree, Empty, Node}
use Rattle.cv_syntax.specs.NameSets.{is_one_of}
use Rattle.cv_meaning.specs.Binders.{bound_names}
use Rattle.cv_meaning.specs.Correspondences.{is_once}
use Rattle.cv_syntax_trees.specs.declared.sites.sort.Sort.{Sort}
use Rattle.cv_syntax_trees.specs.declared.sites.sort.Sort.TheVariants.{OfType, BelowParameter}
use Rattle.cv_syntax_trees.specs.sites.Sites.{Variable, first_site}
use Rattle.cv_query_form.specs.Rules.{IsLeftEvent, SomeIsMarked, AreMarkedAlike, HasValues, MayBeAsked}
use Rattle.cv_query_form.specs.Tests.{is_left_event, some_is_marked, are_marked_alike, is_of_type, has_values, passes, may_be_asked}
use Rattle.cv_query_form.proofs.Counts.{few_found, few_tested}
use Rattle.cv_query_form.proofs.Distinct.{arguments_found, arguments_tested}

event_found : (xs : List ℕ) (t : Tree) → is_left_event (is_one_of xs) t ≡ true → IsLeftEvent xs t
unfolding is_left_event
event_found xs (Node (Occurs e) terms Empty) h = arguments_found xs terms h
event_found xs (Node (OccursOnce e) terms Empty) h = arguments_found xs terms h
event_found xs t h = absurd (both_ways _ refl h)

event_tested : (xs : List ℕ) (t : Tree) → IsLeftEvent xs t → is_left_event (is_one_of xs) t ≡ true
unfolding is_left_event
event_tested xs (Node (Occurs e) terms Empty) m = arguments_tested xs terms m
event_tested xs (Node (OccursOnce e) terms Empty) m = arguments_tested xs terms m
event_tested xs t m = absurd m

-- marks

either_found : (a b : Tree) → (some_is_marked a ≡ true → SomeIsMarked a) → (some_is_marked b ≡ true → SomeIsMarked b) → (some_is_marked a || some_is_marked b) ≡ true → SomeIsMarked a ⊎ SomeIsMarked b
either_found a b f g e = elim (or_cases (some_is_marked a) (some_is_marked b) e) [ inl k ↦ inl (f k) | inr k ↦ inr (g k) ]

either_tested : (a b : Tree) → (SomeIsMarked a → some_is_marked a ≡ true) → (SomeIsMarked b → some_is_marked b ≡ true) → SomeIsMarked a ⊎ SomeIsMarked b → (some_is_marked a || some_is_marked b) ≡ true
either_tested a b f g (inl k) = or_left (some_is_marked a) _ (f k)
either_tested a b f g (inr k) = or_right (some_is_marked a) _ (g k)

marked_found : (t : Tree) → some_is_marked t ≡ true → SomeIsMarked t
unfolding some_is_marked SomeIsMarked
marked_found Empty e = absurd (both_ways _ refl e)
marked_found (Node Cons a b) e = either_found a b (marked_found a) (marked_found b) e
marked_found (Node SomeOf a b) e = either_found a b (marked_found a) (marked_found b) e
marked_found (Node h a b) e = e

marked_tested : (t : Tree) → SomeIsMarked t → some_is_marked t ≡ true
unfolding some_is_marked SomeIsMarked
marked_tested Empty m = absurd m
marked_tested (Node Cons a b) m = either_tested a b (marked_tested a) (marked_tested b) m
marked_tested (Node SomeOf a b) m = either_tested a b (marked_tested a) (marked_tested b) m
marked_tested (Node h a b) m = m

alike_found : (left right : Tree) → are_marked_alike left right ≡ true → AreMarkedAlike left right
alike_found left right e = cases (is_once left) refl e
  where
    cases : (b : Bool) → is_once left ≡ b → cond b (some_is_marked right) (not (some_is_marked right)) ≡ true → AreMarkedAlike left right
    cases true f e = (λ m. marked_found right e, λ m. f)
    cases false f e = (λ m. absurd (both_ways _ f m), λ m. absurd (both_ways _ (not-true _ e) (marked_tested right m)))

alike_tested : (left right : Tree) → AreMarkedAlike left right → are_marked_alike left right ≡ true
alike_tested left right m = ap (λ b. cond b (some_is_marked right) (not (some_is_marked right))) refl ∙ cases (is_once left) (some_is_marked right) refl refl
  where
    cases : (b c : Bool) → is_once left ≡ b → some_is_marked right ≡ c → are_marked_alike left right ≡ true
    cases true c e f = ap (λ b. cond b (some_is_marked right) (not (some_is_marked right))) e ∙ marked_tested right (m.0 e)
    cases false true e f = absurd (both_ways _ e (m.1 (marked_found right f)))
    cases false false e f = ap (λ b. cond b (some_is_marked right) (not (some_is_marked right))) e ∙ not_from_false _ f

-- secrets

values_found : (game : Tree) (x : ℕ) → has_values game x ≡ true → HasValues game x
values_found game x e = cases (first_site x [] game) refl e
  where
    cases : (o : Option Variable) → first_site x [] game ≡ o → is_of_type (option_map (λ (v : Variable). v.sort) o) ≡ true → HasValues game x
    cases None f e = absurd (both_ways _ refl e)
    cases (Some v) f e = sorts v.sort refl e
      where
        sorts : (s : Sort) → v.sort ≡ s → is_of_type (Some s) ≡ true → HasValues game x
        sorts (OfType T) g e = record { parameters = v.parameters; values = T; site = f ∙ ap (λ s. let w : Variable = record { parameters = v.parameters; sort = s } in Some w) g }
        sorts (BelowParameter n) g e = absurd (both_ways _ refl e)

values_tested : (game : Tree) (x : ℕ) → HasValues game x → has_values game x ≡ true
values_tested game x m = ap (λ o. is_of_type (option_map (λ (v : Variable). v.sort) o)) m.site

-- queries

pub query_found : (game query : Tree) → may_be_asked game query ≡ true → MayBeAsked game query
unfolding passes MayBeAsked
query_found game (Node Query bs (Node Cons left right)) e =
    let p = and_parts (is_left_event (is_one_of (bound_names bs)) left) _ e in
    let s = and_parts (are_marked_alike left right) _ p.1 in
    (event_found (bound_names bs) left p.0, alike_found left right s.0, few_found right s.1)
query_found game (Node (Secret x) Empty Empty) e = values_found game x e
query_found game (Node (SecretOnce x) Empty Empty) e = values_found game x e
query_found game q e = absurd (both_ways _ refl e)

pub query_tested : (game query : Tree) → MayBeAsked game query → may_be_asked game query ≡ true
unfolding passes MayBeAsked
query_tested game (Node Query bs (Node Cons left right)) m =
    and_from (is_left_event (is_one_of (bound_names bs)) left) _ (event_tested (bound_names bs) left m.0)
    (and_from (are_marked_alike left right) _ (alike_tested left right m.1) (few_tested right m.2))
query_tested game (Node (Secret x) Empty Empty) m = values_tested game x m
query_tested game (Node (SecretOnce x) Empty Empty) m = values_tested game x m
query_tested game q m = absurd m
