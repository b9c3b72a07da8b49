-- What an accepted certificate costs has a value: the variables that it takes to differ are of large types, none of which is empty.
use Rattle.std.proofs.Common.{◌≡◌, ℕ, ◌<◌, Bool, true, false, cond, ◌&&◌, not, List, [], ◌∷◌, ◌++◌, map, Option, Some, None, refl, sym, ap, subst, ◌∙◌, arith, eq-eqb, mul-pos}
use Rattle.std.proofs.lemmas.Bool.{both_ways}
use Rattle.cv_syntax_trees.proofs.lists.Options.{first_of_none, some_none}
use Rattle.cv_syntax_trees.specs.declared.class.Class.TheVariants as class
use Rattle.cv_syntax_trees.specs.declared.head.Head.{Head}
use Rattle.cv_syntax_trees.specs.declared.head.Head.TheVariants.{EventsCertificate, New, Query, Secret, SecretCertificate, SecretOnce}
use Rattle.cv_syntax_trees.specs.Declarations.{Declaration, Named}
use Rattle.cv_syntax_trees.specs.Tree.{Tree, Node, first_place, second_place}
use Rattle.cv_meaning.specs.Correspondences.{Correspondence, correspondence_of}
use Rattle.cv_meaning.specs.Interpretation.{Interpretation}
use Rattle.cv_meaning.specs.Satisfies.{Satisfies}
use Rattle.cv_meaning_chances.specs.Fractions.{HasTapes, sum_of}
use Rattle.cv_syntax_trees.specs.sites.Sites.{Variable, first_of, first_site}
use Rattle.cv_scope_rules.specs.Context.{Context}
use Rattle.cv_scope_rules.specs.Made.{made_by}
use Rattle.cv_scope_rules.specs.Phrases.{Inputs, Phrase, is_phrase}
use Rattle.cv_scope_rules.specs.Sites as sites
use Rattle.cv_scope_rules.specs.typing.Signature.{declaration_of}
use Rattle.cv_scope_runs.proofs.Standing.{Stands, root, in_first, in_second}
use Rattle.cv_scene.specs.Large.{chooses, first_other_site, is_large, is_large_by}
use Rattle.cv_scene.specs.Scenes.{Scene, is_type_by}
use Rattle.cv_bound.specs.declared.cost.Collision.{Collision}
use Rattle.cv_steps.specs.values.Values.{collision_value}
use Rattle.cv_steps.proofs.values.Adding.{collision_has_tapes}
use Rattle.cv_steps_laws.proofs.Values.{type_value}
use Rattle.cv_derive_laws.specs.stores.Costs.{bound_of}
use Rattle.cv_derive_laws.specs.stores.Holding.{IsReady}
use Rattle.cv_costs.specs.Certificates.{collision_for, collisions_for, cost_for, cost_of_certificate}
use Rattle.cv_costs.specs.Collisions.{collision_of, type_of}
use Rattle.cv_query_certificates.specs.Accepted.{IsAccepted, IsEventsProof, IsProofOf, IsSecretProof}
use Rattle.cv_query_certificates.specs.Forms.{left_places}
use Rattle.cv_query_certificates.specs.PairParts.{AreDistinct, behind_entries, distinct_in}
use Rattle.cv_rule_birthday_laws.proofs.Conditions.{chosen_alone}
use Rattle.cv_rule_birthday_laws.proofs.chosen.Below.{news_there}
use Rattle.cv_rule_birthday_laws.proofs.chosen.Pairs.{IsTyped, Site, site_new, site_there}
use Rattle.cv_query_injections.proofs.matching.Differing.{distinct_behind}

-- where a variable has no other site than a `new` of one of these types, its type is one of them

module _ (types : ℕ → Bool) (x : ℕ) where
  record HasNone (p : ℕ) (h : Head) (a b : Tree) : Type 0 where
    here : (made_by h a (sites.Variable x) && not (chooses types h)) ≡ false
    first : first_other_site types x (first_place p h) a ≡ None
    second : first_other_site types x (second_place p h a) b ≡ None

  none_parts : (p : ℕ) (h : Head) (a b : Tree) → first_other_site types x p (Node h a b) ≡ None → HasNone p h a b
  unfolding first_other_site
  none_parts p h a b e = go (made_by h a (sites.Variable x) && not (chooses types h)) refl e
    where
      go : (v : Bool) → (made_by h a (sites.Variable x) && not (chooses types h)) ≡ v → cond v (Some p) (first_of (first_other_site types x (first_place p h) a) (first_other_site types x (second_place p h a) b)) ≡ None → HasNone p h a b
      go true i f = absurd (some_none p f)
      go false i f = let r = first_of_none _ _ f in record { here = i; first = r.0; second = r.1 }

  none_there : (game : Tree) → first_other_site types x 0 game ≡ None → {p : ℕ} {σ : Phrase} {Γ : Context} {b : Tree} → Stands game p σ Γ b → first_other_site types x p b ≡ None
  none_there game n root = n
  none_there game n (in_first {p = p} {h = h} {a = a} {b = b} e st) = (none_parts p h a b (none_there game n st)).first
  none_there game n (in_second {p = p} {h = h} {a = a} {b = b} e st) = (none_parts p h a b (none_there game n st)).second

  chosen_here : (p T : ℕ) (a b : Tree) → first_other_site types x p (Node (New x T) a b) ≡ None → types T ≡ true
  chosen_here p T a b e = go (types T) (sym (ap (λ v. v && not (types T)) (eq-eqb x x refl)) ∙ (none_parts p (New x T) a b e).here)
    where
      go : (v : Bool) → not v ≡ false → v ≡ true
      go true f = refl
      go false f = absurd (both_ways true f refl)

  chosen_type : (game : Tree) → is_phrase Inputs game ≡ true → first_other_site types x 0 game ≡ None → (v : Variable) → first_site x [] game ≡ Some v → types (type_of v.sort) ≡ true
  chosen_type game whole none v first =
      let site : Site game x v.sort = site_there game x v [] Inputs game whole root first in
      let new : IsTyped x site.head v.sort = site_new x site.phrase site.head site.one site.two v.sort site.whole (news_there x game (chosen_alone types x 0 game none) site.stands) site.here in
      ap (λ S. types (type_of S)) new.sorted
      ∙ chosen_here site.place new.type site.one site.two (subst (λ h. first_other_site types x site.place (Node h site.one site.two) ≡ None) new.is (none_there game none site.stands))

-- a large type is a type
large_type : (d : Option Declaration) → is_large_by d ≡ true → is_type_by d ≡ true
large_type (Some (Named T (class.TypeName fixed large) arguments result)) e = refl
large_type (Some d) e = absurd (cc)
large_type None e = absurd (cc)

-- the collisions of such variables

module _ (s : Scene) (i : Interpretation) (sat : Satisfies s.declarations i) where
  module _ (whole : is_phrase Inputs s.game ≡ true) where
    with_one : (x : ℕ) → first_other_site (is_large s) x 0 s.game ≡ None → (o : Option Variable) → first_site x [] s.game ≡ o → (cs : List Collision) → HasTapes (sum_of (map (collision_value i) cs)) → HasTapes (sum_of (map (collision_value i) (collision_for s.declarations o ++ cs)))
    with_one x n None e cs h = h
    with_one x n (Some v) e cs h =
        let large = chosen_type (is_large s) x s.game whole n v e in
        let positive : 0 < i.type_size (type_of v.sort) = type_value s i sat (type_of v.sort) (large_type (declaration_of s.declarations (type_of v.sort)) large) in
        mul-pos (collision_has_tapes i (collision_of s.declarations (v.parameters ++ v.parameters) true (type_of v.sort)) positive) h

    sum_valued : (before xs : List ℕ) → AreDistinct s before xs → HasTapes (sum_of (map (collision_value i) (collisions_for s xs)))
    sum_valued before [] d = omega arith
    sum_valued before (x ∷ xs) d = with_one x d.0.chosen (first_site x [] s.game) refl (collisions_for s xs) (sum_valued (x ∷ before) xs d.1)

    cost_valued : (xs : List ℕ) → AreDistinct s [] xs → HasTapes (bound_of i (cost_for s xs))
    cost_valued [] d = omega arith
    cost_valued (x ∷ xs) d = sum_valued [] (x ∷ xs) d

  -- so it is with an accepted certificate

  events_valued : is_phrase Inputs s.game ≡ true → (q : Correspondence) (certificate : Tree) → IsEventsProof s q certificate → HasTapes (bound_of i (cost_of_certificate s certificate))
  events_valued whole q (Node EventsCertificate parts e) h =
      subst (λ xs. HasTapes (bound_of i (cost_for s xs))) (sym (distinct_behind s q (left_places s q) parts h)) (cost_valued whole (distinct_in (behind_entries (left_places s q) parts)) h.rest.distinct)
  events_valued whole q certificate h = absurd h

  secret_valued : (once : Bool) (x : ℕ) (certificate : Tree) → IsSecretProof once s x certificate → HasTapes (bound_of i (cost_of_certificate s certificate))
  secret_valued once x (Node SecretCertificate pairs e) h = omega arith
  secret_valued true x certificate h = absurd h
  secret_valued false x certificate h = absurd h

  by_kind : is_phrase Inputs s.game ≡ true → (query certificate : Tree) → IsProofOf s query certificate → HasTapes (bound_of i (cost_of_certificate s certificate))
  by_kind whole (Node Query bs sides) certificate h = events_valued whole (correspondence_of (Node Query bs sides)) certificate h
  by_kind whole (Node (Secret x) a b) certificate h = secret_valued false x certificate h
  by_kind whole (Node (SecretOnce x) a b) certificate h = secret_valued true x certificate h
  by_kind whole query certificate h = absurd h

pub valued : (s : Scene) (query certificate : Tree) → IsReady s.declarations s.game → IsAccepted s query certificate → (i : Interpretation) → Satisfies s.declarations i → HasTapes (bound_of i (cost_of_certificate s certificate))
valued s query certificate w accepted i sat = by_kind s i sat w.formed.phrase query certificate accepted.proof
