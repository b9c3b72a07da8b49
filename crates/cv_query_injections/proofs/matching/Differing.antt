-- The values of the variables that a certificate takes to differ do so at the end of a run, on the tapes on which their choices do.
use Rattle.std.proofs.Common.{◌≡◌, ℕ, Bool, true, false, cond, ◌&&◌, ◌||◌, ◌==◌, not, List, [], ◌∷◌, ◌⊎◌, inl, inr, Option, Some, None, is_some, refl, sym, ap, subst, ◌∙◌, eq-eqb, eqb-true}
use Rattle.std.proofs.lemmas.Bool.{and_parts, both_ways}
use Rattle.std.specs.List.{AllByRecursion, list_any}
use Rattle.cv_syntax_trees.proofs.lists.Options.{some_from_is_some}
use Rattle.cv_syntax_trees.proofs.lists.Tests.{or_cases}
use Rattle.cv_syntax_trees.specs.declared.head.Head.{Head}
use Rattle.cv_syntax_trees.specs.declared.head.Head.TheVariants.{DistinctPart, New, Pair}
use Rattle.cv_syntax_trees.specs.Tree.{Tree, Empty, Node, first_place, second_place}
use Rattle.cv_meaning.specs.Interpretation.{Interpretation, Setting, setting_of}
use Rattle.cv_meaning.specs.Memory.{Store}
use Rattle.cv_meaning.specs.Tapes.{Tape}
use Rattle.cv_meaning.specs.Terms.{or_zero}
use Rattle.cv_meaning.specs.Correspondences.{Correspondence}
use Rattle.cv_meaning_chances.specs.Tests.{some_equal}
use Rattle.cv_syntax_trees.specs.declared.sites.sort.Sort.{Sort}
use Rattle.cv_syntax_trees.specs.declared.sites.sort.Sort.TheVariants.{OfType}
use Rattle.cv_syntax_trees.specs.sites.Sites.{Variable, at_parameters, first_of, first_site, parameters_below, site_here}
use Rattle.cv_scope_rules.specs.Made.{made_by}
use Rattle.cv_scope_rules.specs.Sites as sites
use Rattle.cv_scope_runs.proofs.Games.{first_some, second_some}
use Rattle.cv_scene.specs.Large.{is_large}
use Rattle.cv_scene.specs.Scenes.{Scene, has_news_alone, is_new_head}
use Rattle.cv_derive_laws.specs.stores.Truth.{AreApart}
use Rattle.cv_costs.specs.Certificates.{distinct_among}
use Rattle.cv_query_certificates.specs.Accepted.{AreEntries, AreParts}
use Rattle.cv_query_certificates.specs.Forms.{has_form}
use Rattle.cv_query_certificates.specs.PairParts.{AreDistinct, ArePairs, IsDistinct, IsPair, behind_entries, distinct_in, pairs_in}
use Rattle.cv_query_certificates.specs.Pairs.{Needed}
use Rattle.cv_query_certificates.specs.Secrets.{first_definition_but, is_none_of_them}
use Rattle.cv_rule_birthday_laws.specs.chosen.Drawn.{AreDrawn, choices_of}
use Rattle.cv_rule_birthday_laws.proofs.Conditions.{chosen_alone}
use Rattle.cv_rule_birthday_laws.proofs.chosen.Below.{IsNew, made_new}
use Rattle.cv_query_injections.specs.Differing.{Differ, DifferBy}

-- the list of a certificate is that behind its entries

module _ (s : Scene) (q : Correspondence) where
  behind_entry : (p : ℕ) (h : Head) (entry more : Tree) → has_form s q p entry ≡ true → distinct_among (Node h entry more) ≡ distinct_among more
  behind_entry p h (Node DistinctPart names e) more f = absurd (both_ways _ refl f)
  behind_entry p h entry more f = refl

  behind_all : (ps : List ℕ) (parts : Tree) → AreEntries s q ps parts → distinct_among parts ≡ distinct_among (behind_entries ps parts)
  behind_all [] parts a = refl
  behind_all (p ∷ ps) Empty a = absurd a
  behind_all (p ∷ ps) (Node h entry more) a = behind_entry p h entry more a.0.form ∙ behind_all ps more a.1

module _ (s : Scene) (k : ℕ) (ds : List ℕ) where
  pairs_none : (ns : List Needed) (parts : Tree) → ArePairs s k ds ns parts → distinct_among parts ≡ []
  pairs_none [] Empty a = refl
  pairs_none [] (Node h part more) a = absurd a
  pairs_none (n ∷ ns) Empty a = absurd a
  pairs_none (n ∷ ns) (Node h part more) a = one part a.0 ∙ pairs_none ns more a.1
    where
      one : (part : Tree) → IsPair s k ds n part → distinct_among (Node h part more) ≡ distinct_among more
      one (Node Pair p (Node h q (Node g c by))) x = refl
      one part x = absurd x

  rest_distinct : (ns : List Needed) (rest : Tree) → ArePairs s k ds ns (pairs_in rest) → distinct_among rest ≡ distinct_in rest
  rest_distinct ns Empty a = refl
  rest_distinct ns (Node h (Node DistinctPart names e) more) a = refl
  rest_distinct ns (Node h part more) a = pairs_none ns (Node h part more) a

pub distinct_behind : (s : Scene) (q : Correspondence) (places : List ℕ) (parts : Tree) → AreParts s q places parts → distinct_among parts ≡ distinct_in (behind_entries places parts)
distinct_behind s q places parts a = behind_all s q places parts a.entries ∙ rest_distinct s _ _ _ (behind_entries places parts) a.rest.pairs

-- a variable of which each definition is a `new` has a site where it has a definition

made_site : (x : ℕ) (h : Head) (a : Tree) (T : ℕ) → h ≡ New x T → is_some (site_here x h a) ≡ true
made_site x h a T e = ap (λ h. is_some (site_here x h a)) e ∙ ap (λ b. is_some (cond b (Some (OfType T)) None)) (eq-eqb x x refl)

some_at : (ps : List ℕ) (h : Head) (x : ℕ) (a : Tree) → is_some (site_here x h a) ≡ true → is_some (at_parameters ps (site_here x h a)) ≡ true
some_at ps h x a e = go (site_here x h a) e
  where
    go : (o : Option Sort) → is_some o ≡ true → is_some (at_parameters ps o) ≡ true
    go None e = e
    go (Some S) e = refl

some_of : (o p : Option ℕ) → is_some (first_of o p) ≡ true → (is_some o ≡ true) ⊎ (is_some p ≡ true)
some_of (Some a) p e = inl refl
some_of None p e = inr e

defined_site : (x p : ℕ) (ps : List ℕ) (t : Tree) → has_news_alone x t ≡ true → is_some (first_definition_but is_none_of_them x p t) ≡ true → is_some (first_site x ps t) ≡ true
unfolding first_definition_but first_site has_news_alone
defined_site x p ps Empty n e = absurd (both_ways _ refl e)
defined_site x p ps (Node h a b) n e =
    let w = and_parts (is_new_head h || not (made_by h a (sites.Variable x))) (has_news_alone x a && has_news_alone x b) n in
    let z = and_parts (has_news_alone x a) (has_news_alone x b) w.1 in
    go (made_by h a (sites.Variable x)) refl e (defined_site x (first_place p h) ps a z.0) (defined_site x (second_place p h a) (parameters_below h ps) b z.1)
  where
    go : (u : Bool) → made_by h a (sites.Variable x) ≡ u → is_some (cond (u && true) (Some p) (first_of (first_definition_but is_none_of_them x (first_place p h) a) (first_definition_but is_none_of_them x (second_place p h a) b))) ≡ true
        → (is_some (first_definition_but is_none_of_them x (first_place p h) a) ≡ true → is_some (first_site x ps a) ≡ true) → (is_some (first_definition_but is_none_of_them x (second_place p h a) b) ≡ true → is_some (first_site x (parameters_below h ps) b) ≡ true)
        → is_some (first_of (at_parameters ps (site_here x h a)) (first_of (first_site x ps a) (first_site x (parameters_below h ps) b))) ≡ true
    go true i j f g =
        let new : IsNew x h = made_new x h a b n i in
        first_some (at_parameters ps (site_here x h a)) _ (some_at ps h x a (made_site x h a new.type new.is))
    go false i j f g = second_some (at_parameters ps (site_here x h a)) _ (below (some_of (first_definition_but is_none_of_them x (first_place p h) a) _ j))
      where
        below : (is_some (first_definition_but is_none_of_them x (first_place p h) a) ≡ true) ⊎ (is_some (first_definition_but is_none_of_them x (second_place p h a) b) ≡ true) → is_some (first_of (first_site x ps a) (first_site x (parameters_below h ps) b)) ≡ true
        below (inl z) = first_some (first_site x ps a) _ (f z)
        below (inr z) = second_some (first_site x ps a) _ (g z)

-- A variable that may be taken to differ is only chosen, from its first definition on.
pub record IsOnlyChosen (s : Scene) (x : ℕ) : Type 0 where
  pub news : has_news_alone x s.game ≡ true
  pub variable : Variable
  pub is_first : first_site x [] s.game ≡ Some variable

pub distinct_chosen : (s : Scene) (xs : List ℕ) (x : ℕ) → IsDistinct s xs x → IsOnlyChosen s x
distinct_chosen s xs x d =
    let news : has_news_alone x s.game ≡ true = chosen_alone (is_large s) x 0 s.game d.chosen in
    let first = some_from_is_some (first_site x [] s.game) (defined_site x 0 [] s.game news d.defined) in
    record { news = news; variable = first.0; is_first = first.1 }

-- so two values of one that are equal are one

module _ (s : Scene) (i : Interpretation) (t : Tape) (m : Store)
    (drawn : (x : ℕ) (v : Variable) → has_news_alone x s.game ≡ true → first_site x [] s.game ≡ Some v → AreDrawn (setting_of s.declarations i) x v.parameters t m)
    (one_tuple : (x : ℕ) (parameters : List ℕ) → AreDrawn (setting_of s.declarations i) x parameters t m → some_equal (choices_of (setting_of s.declarations i) x parameters) t ≡ false → (u w : List ℕ) (v : ℕ) → m x u ≡ Some v → m x w ≡ Some v → u ≡ w) where
  abbrev g : Setting
  g = setting_of s.declarations i

  values_apart : (x : ℕ) → IsOnlyChosen s x → Differ s i t x → (u w : List ℕ) → is_some (m x u) ≡ true → is_some (m x w) ≡ true → or_zero (m x u) ≡ or_zero (m x w) → u ≡ w
  values_apart x c d u w a b e =
      let k = some_from_is_some (m x u) a in
      let l = some_from_is_some (m x w) b in
      let same : k.0 ≡ l.0 = sym (ap or_zero k.1) ∙ (e ∙ ap or_zero l.1) in
      one_tuple x c.variable.parameters (drawn x c.variable c.news c.is_first) (subst (λ o. DifferBy g x o t) c.is_first d) u w k.0 k.1 (l.1 ∙ ap Some (sym same))

  pub all_apart : (xs : List ℕ) (before : List ℕ) → AreDistinct s before xs → AllByRecursion (Differ s i t) xs → AreApart xs m m
  all_apart [] before d a x u w l = absurd (both_ways _ refl l)
  all_apart (y ∷ xs) before d a x u w l = go (or_cases (y == x) _ l) (all_apart xs (y ∷ before) d.1 a.1 x u w)
    where
      go : ((y == x) ≡ true) ⊎ (list_any (λ z. z == x) xs ≡ true) → (list_any (λ z. z == x) xs ≡ true → is_some (m x u) ≡ true → is_some (m x w) ≡ true → or_zero (m x u) ≡ or_zero (m x w) → u ≡ w)
          → is_some (m x u) ≡ true → is_some (m x w) ≡ true → or_zero (m x u) ≡ or_zero (m x w) → u ≡ w
      go (inl e) f =
          subst (λ x. is_some (m x u) ≡ true → is_some (m x w) ≡ true → or_zero (m x u) ≡ or_zero (m x w) → u ≡ w) (eqb-true y x e)
          (values_apart y (distinct_chosen s before y d.0) a.0 u w)
      go (inr e) f = f e
