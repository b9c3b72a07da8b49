-- What the step keeps, and what it costs.
use Rattle.std.proofs.Common.{◌≡◌, ℕ, ◌+◌, ◌*◌, ◌<◌, true, List, [], ◌∷◌, ◌++◌, Option, Some, None, refl, sym, ap, ap₂, subst, ◌∙◌, arith}
use Rattle.std.proofs.lemmas.Bool.{and_parts}
use Rattle.cv_syntax_trees.specs.declared.class.Class.TheVariants as class
use Rattle.cv_syntax_trees.specs.Declarations.{Declaration, Named}
use Rattle.cv_syntax_trees.specs.Tree.{Tree}
use Rattle.cv_meaning.specs.Advantage.{chance_of}
use Rattle.cv_meaning.specs.Chances.{AtMost, Chance, distance}
use Rattle.cv_meaning.specs.Interpretation.{Interpretation, setting_of}
use Rattle.cv_meaning.specs.Satisfies.{Satisfies}
use Rattle.cv_meaning_chances.specs.Fractions.{HasTapes}
use Rattle.cv_meaning_chances.specs.values.Values.{HasValuesIn}
use Rattle.cv_steps.specs.values.Values.{product_value}
use Rattle.cv_syntax_trees.specs.declared.sites.sort.Sort.TheVariants.{OfType}
use Rattle.cv_syntax_trees.specs.sites.Sites.{Variable as FirstSite, first_site}
use Rattle.cv_scope_rules.specs.Phrases.{Inputs, IsWellFormed, is_phrase}
use Rattle.cv_scope_runs.proofs.Standing.{root}
use Rattle.cv_scope_rules.specs.typing.Parts.{IsTypedGame}
use Rattle.cv_scope_rules.specs.typing.Signature.{declaration_of}
use Rattle.cv_typing_runs.specs.Games.{HasDeclaredSorts}
use Rattle.cv_scene.specs.Scenes.{Scene, is_type_by, part_at}
use Rattle.cv_scene.specs.Terms.{has_site, is_game}
use Rattle.cv_costs.specs.Collisions.{declared_parameters, one_for_pairs, type_of}
use Rattle.cv_costs.specs.Factors.{factors_of}
use Rattle.cv_costs.proofs.Values.{with_value}
use Rattle.cv_derive_laws.specs.stores.Costs.{CostsAtMost, bound_of}
use Rattle.cv_derive_laws.specs.stores.Steps.{IsSound}
use Rattle.cv_steps.specs.Rewriting.{has_term_at}
use Rattle.cv_steps.specs.Steps.{Cost, Leads}
use Rattle.cv_steps.proofs.Rows.{leads_same, unless_at_leads, unless_leads}
use Rattle.cv_steps_laws.proofs.Indices.{Lacks, bound_before}
use Rattle.cv_steps_laws.proofs.Keeping.{accepted}
use Rattle.cv_steps_laws.proofs.Sorts.{sorts_kept}
use Rattle.cv_steps_laws.proofs.Unletted.{IsKept}
use Rattle.cv_steps_laws.proofs.Values.{type_value, values_kept}
use Rattle.cv_costs.specs.wording.Changing.{AreTermsAt, changed_at}
use Rattle.cv_costs.proofs.wording.Places.{at_root}
use Rattle.cv_rule_fresh.specs.collisions.Chances.{copies}
use Rattle.cv_scene.specs.Large.{first_other_site, is_large, is_large_by}
use Rattle.cv_rule_birthday.specs.Comparing.{compared, first_uncompared, is_comparison, is_one_of}
use Rattle.cv_rule_birthday.specs.Row.{birthday_row, birthday_row_by, birthday_step}
use Rattle.cv_rule_birthday_laws.specs.chosen.Drawn.{pairs_over}
use Rattle.cv_rule_birthday_laws.proofs.Conditions.{all_compared, chosen_alone}
use Rattle.cv_rule_birthday_laws.proofs.Keeping.{costs}
use Rattle.cv_rule_birthday_laws.proofs.Kept.{changed_kept, lacks_changed, lacks_compared}
use Rattle.cv_rule_birthday_laws.proofs.chosen.Below.{news_there}
use Rattle.cv_rule_birthday_laws.proofs.chosen.Pairs.{IsTyped, Site, site_new, site_there}

-- what the cost is worth

module _ (i : Interpretation) (order : List ℕ) where
  product_copies : (ps : List ℕ) → product_value i (factors_of order ps) ≡ copies i ps
  unfolding copies
  product_copies [] = refl
  product_copies (p ∷ ps) = with_value order i p (factors_of order ps) ∙ ap (λ m. i.parameter_value p * m) (product_copies ps)

copies_both : (i : Interpretation) (ps qs : List ℕ) → copies i (ps ++ qs) ≡ copies i ps * copies i qs
unfolding copies
copies_both i [] qs = omega arith
copies_both i (p ∷ ps) qs =
    let e = copies_both i ps qs in
    ap (λ m. i.parameter_value p * m) e ∙ (let z : i.parameter_value p * (copies i ps * copies i qs) ≡ i.parameter_value p * copies i ps * copies i qs = omega arith in z)

abbrev fraction_of : (good all : ℕ) → Chance
fraction_of m n = record { good = m; all = n }

pub worth : (i : Interpretation) (ds : List Declaration) (ps : List ℕ) (T : ℕ) → pairs_over ps T i ≡ bound_of i (one_for_pairs ds ps T)
worth i ds ps T =
    let v = product_value i (factors_of (declared_parameters ds) (ps ++ ps)) in
    let good : 1 * v * 1 + 0 * (2 * i.type_size T) ≡ v = omega arith in
    let all : 2 * i.type_size T * 1 ≡ 2 * i.type_size T = omega arith in
    sym (ap₂ fraction_of (good ∙ (product_copies i (declared_parameters ds) (ps ++ ps) ∙ copies_both i ps ps)) all)

-- a row that leads to a game: no condition of it fails

pub record IsBirthday (s : Scene) (x : ℕ) (places : List ℕ) (next : Tree) (cost : Cost) : Type 0 where
  pub variable : FirstSite
  pub first : first_site x [] s.game ≡ Some variable
  pub compares : first_uncompared s.game x places ≡ None
  pub chosen : first_other_site (is_large s) x 0 s.game ≡ None
  pub leads : changed_at (is_one_of places) compared 0 s.game ≡ next
  pub large : is_large s (type_of variable.sort) ≡ true
  pub priced : one_for_pairs s.declarations variable.parameters (type_of variable.sort) ≡ cost

cost_same : (x y : Tree) (c d : Cost) → Leads x c ≡ Leads y d → c ≡ d
cost_same x y c d e = cc

pub birthday_leads : (s : Scene) (x : ℕ) (places : List ℕ) (next : Tree) (cost : Cost) → birthday_row s x places ≡ Leads next cost → IsBirthday s x places next cost
birthday_leads s x places next cost e = go (first_site x [] s.game) refl r.1
  where
    r : (first_uncompared s.game x places ≡ None) × (birthday_row_by s x places (first_site x [] s.game) ≡ Leads next cost)
    r = unless_at_leads 1 (first_uncompared s.game x places) _ next cost e

    go : (o : Option FirstSite) → first_site x [] s.game ≡ o → birthday_row_by s x places o ≡ Leads next cost → IsBirthday s x places next cost
    go None f k = absurd (cc)
    go (Some v) f k =
        let q = unless_at_leads 2 (first_other_site (is_large s) x 0 s.game) _ next cost k in
        let l = unless_leads (is_large s (type_of v.sort)) 2 0 _ next cost q.1 in
        record { variable = v; first = f; compares = r.0; chosen = q.0; large = l.0; leads = leads_same _ next _ cost l.1; priced = cost_same _ next _ cost l.1 }

-- a large type is a type
large_type : (d : Option Declaration) → is_large_by d ≡ true → is_type_by d ≡ true
large_type (Some (Named T (class.TypeName fixed large) arguments result)) e = refl
large_type (Some d) e = absurd (cc)
large_type None e = absurd (cc)

module _ (s : Scene) (x : ℕ) (places : List ℕ) (next : Tree) (cost : Cost) (k : IsBirthday s x places next cost) where
  abbrev T : ℕ
  T = type_of k.variable.sort

  pub has_tapes : (i : Interpretation) → Satisfies s.declarations i → HasTapes (bound_of i cost)
  has_tapes i sat =
      let positive : 0 < i.type_size T = type_value s i sat T (large_type (declaration_of s.declarations T) k.large) in
      subst (λ c. HasTapes (bound_of i c)) k.priced (subst HasTapes (worth i s.declarations k.variable.parameters T) (let z : 0 < 2 * i.type_size T = omega (arith, positive) in z))

  compares_at : (p : ℕ) → is_one_of places p ≡ true → has_term_at Inputs s.game p ≡ true
  compares_at p e =
      let r = and_parts (has_site s.game x) _ (all_compared s.game x places k.compares p e) in
      (and_parts (has_term_at Inputs s.game p) (is_comparison x (part_at s.game p)) r.1).0

  terms : AreTermsAt (is_one_of places) s.game
  terms p e l = compares_at p e

  sort : is_phrase Inputs s.game ≡ true → k.variable.sort ≡ OfType T
  sort whole =
      let site : Site s.game x k.variable.sort = site_there s.game x k.variable [] Inputs s.game whole root k.first in
      let new : IsTyped x site.head k.variable.sort = site_new x site.phrase site.head site.one site.two k.variable.sort site.whole (news_there x s.game (chosen_alone (is_large s) x 0 s.game k.chosen) site.stands) site.here in
      new.sorted ∙ ap OfType (sym (ap type_of new.sorted))

  pub costs_at_most : IsWellFormed s.declarations s.game → IsTypedGame s.declarations s.game → CostsAtMost s.declarations s.game next cost
  costs_at_most well typed i sat y asked a =
      subst (λ c. AtMost (distance (chance_of (setting_of s.declarations i) y a s.game) (chance_of (setting_of s.declarations i) y a next)) (bound_of i c)) k.priced
      (subst (λ n. AtMost (distance (chance_of (setting_of s.declarations i) y a s.game) (chance_of (setting_of s.declarations i) y a n)) (bound_of i (one_for_pairs s.declarations k.variable.parameters T))) k.leads
      (subst (AtMost (distance (chance_of (setting_of s.declarations i) y a s.game) (chance_of (setting_of s.declarations i) y a (changed_at (is_one_of places) compared 0 s.game)))) (worth i s.declarations k.variable.parameters T)
      (costs s.declarations s.game x T places (is_large s) k.variable well typed k.compares k.first (sort well.phrase) k.chosen i y a)))

  pub fact_kept : (P : Tree → Type 0) → IsKept P → is_phrase Inputs s.game ≡ true → is_phrase Inputs next ≡ true → P s.game → P next
  fact_kept P kept whole w h =
      subst P k.leads
      (changed_kept (is_one_of places) compared s.game P kept Inputs 0 s.game whole (ap (is_phrase Inputs) k.leads ∙ w) (at_root (is_one_of places) compared s.game terms) h)

next_phrase : (ds : List Declaration) (next : Tree) → is_game ds next ≡ true → is_phrase Inputs next ≡ true
next_phrase ds next e = (and_parts (is_phrase Inputs next) _ e).0

pub birthday_sound : (x : ℕ) (places : List ℕ) → IsSound (birthday_step x places)
birthday_sound x places = record {
  keeps = λ s next cost ready holds unreached knows e.
      costs_at_most s x places next cost (birthday_leads s x places next cost (accepted s (birthday_step x places) next cost e).row) ready.formed ready.typed;
  taped = λ s next cost e. has_tapes s x places next cost (birthday_leads s x places next cost (accepted s (birthday_step x places) next cost e).row);
  declared = λ s next cost w d e.
      let a = accepted s (birthday_step x places) next cost e in
      fact_kept s x places next cost (birthday_leads s x places next cost a.row) (HasDeclaredSorts s.declarations) (sorts_kept s.declarations) w (next_phrase s.declarations next a.game) d;
  valued = λ s next cost w i sat m new d e.
      let a = accepted s (birthday_step x places) next cost e in
      fact_kept s x places next cost (birthday_leads s x places next cost a.row) (HasValuesIn (setting_of s.declarations i) m) (values_kept (setting_of s.declarations i) m) w (next_phrase s.declarations next a.game) d;
  bound = λ s next cost e i h.
      let k = birthday_leads s x places next cost (accepted s (birthday_step x places) next cost e).row in
      bound_before i s.game next (λ l. subst (Lacks i) k.leads (lacks_changed i (is_one_of places) compared (lacks_compared i) 0 s.game l)) h;
}
