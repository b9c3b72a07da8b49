-- What the step keeps.
use Rattle.std.proofs.Common.{◌≡◌, ℕ, ◌<◌, true, Option, Some, None, ◌⊎◌, inl, inr, refl, subst, arith}
use Rattle.cv_syntax_trees.specs.declared.class.Class.TheVariants as class
use Rattle.cv_syntax_trees.specs.Declarations.{Declaration, Named}
use Rattle.cv_syntax_trees.specs.Tree.{Tree}
use Rattle.cv_meaning.specs.Interpretation.{Interpretation, setting_of}
use Rattle.cv_meaning.specs.Replaced.{replaced}
use Rattle.cv_meaning.specs.Satisfies.{Satisfies}
use Rattle.cv_meaning_chances.specs.Fractions.{HasTapes}
use Rattle.cv_meaning_chances.specs.values.Values.{HasValuesIn}
use Rattle.cv_scope_rules.specs.typing.Signature.{declaration_of}
use Rattle.cv_typing_runs.specs.Games.{HasDeclaredSorts}
use Rattle.cv_scene.specs.lines.Truths.{no}
use Rattle.cv_scope_rules.specs.Phrases.{Inputs, Term, is_phrase}
use Rattle.cv_scene.specs.Scenes.{Scene, is_type_by}
use Rattle.cv_steps.specs.Steps.{Cost}
use Rattle.cv_derive_laws.specs.stores.Costs.{bound_of}
use Rattle.cv_derive_laws.specs.stores.Steps.{IsSound}
use Rattle.cv_steps_laws.proofs.Indices.{Lacks, bound_before, lacking_changed, lacking_term}
use Rattle.cv_steps_laws.proofs.Keeping.{accepted}
use Rattle.cv_steps_laws.proofs.Sorts.{declared_rewritten, term_declared}
use Rattle.cv_steps_laws.proofs.Values.{still_values, type_value, values_put}
use Rattle.cv_scene.specs.Large.{is_large_by}
use Rattle.cv_rule_fresh.specs.collisions.Fresh.{fresh_step}
use Rattle.cv_rule_fresh.proofs.Keeping.{misses}
use Rattle.cv_rule_fresh.proofs.Leads.{BySide, LeadsFresh, fresh_leads}

no_term : is_phrase Term no ≡ true
unfolding is_phrase
no_term = refl

-- a large type is a type
large_type : (d : Option Declaration) → is_large_by d ≡ true → is_type_by d ≡ true
large_type (Some (Named T (class.TypeName fixed large) arguments result)) e = refl
large_type (Some d) e = absurd (cc)
large_type None e = absurd (cc)

module _ (s : Scene) (place : ℕ) (next : Tree) (cost : Cost) where
  leads_to : LeadsFresh s place next cost → replaced s.game place no ≡ next
  leads_to r = go r.by
    where
      go : BySide s place r.left r.right next cost ⊎ BySide s place r.right r.left next cost → replaced s.game place no ≡ next
      go (inl b) = b.leads
      go (inr b) = b.leads

  side_taped : (side other : Tree) → BySide s place side other next cost → (i : Interpretation) → Satisfies s.declarations i → HasTapes (bound_of i cost)
  side_taped side other b i sat =
      let positive : 0 < i.type_size b.choice.type = type_value s i sat b.choice.type (large_type (declaration_of s.declarations b.choice.type) b.large) in
      subst (λ c. HasTapes (bound_of i c)) b.priced (omega (arith, positive))

  sides_taped : LeadsFresh s place next cost → (i : Interpretation) → Satisfies s.declarations i → HasTapes (bound_of i cost)
  sides_taped r i sat = go r.by
    where
      go : BySide s place r.left r.right next cost ⊎ BySide s place r.right r.left next cost → HasTapes (bound_of i cost)
      go (inl b) = side_taped r.left r.right b i sat
      go (inr b) = side_taped r.right r.left b i sat

pub fresh_sound : (p : ℕ) → IsSound (fresh_step p)
fresh_sound p = record {
  keeps = λ s next cost ready holds unreached knows e. misses s p next cost ready.formed ready.typed (accepted s (fresh_step p) next cost e).row;
  taped = λ s next cost e. sides_taped s p next cost (fresh_leads s p next cost (accepted s (fresh_step p) next cost e).row);
  declared = λ s next cost w d e.
      let r = fresh_leads s p next cost (accepted s (fresh_step p) next cost e).row in
      subst (HasDeclaredSorts s.declarations) (leads_to s p next cost r) (declared_rewritten s.declarations no (term_declared s.declarations no no_term) Inputs s.game p r.stands d);
  valued = λ s next cost w i sat m new d e.
      let r = fresh_leads s p next cost (accepted s (fresh_step p) next cost e).row in
      subst (HasValuesIn (setting_of s.declarations i) m) (leads_to s p next cost r)
      (values_put (setting_of s.declarations i) m no (still_values (setting_of s.declarations i) m no refl) s.game p d);
  bound = λ s next cost e i h.
      let r = fresh_leads s p next cost (accepted s (fresh_step p) next cost e).row in
      bound_before i s.game next (λ l. subst (Lacks i) (leads_to s p next cost r) (lacking_changed i s p (λ old. no) l (λ k. lacking_term i no no_term))) h;
}
