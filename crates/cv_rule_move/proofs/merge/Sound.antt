-- What the step keeps.
use Rattle.std.proofs.Common.{ℕ, not, List, [], ◌∷◌, subst}
use Rattle.cv_syntax_trees.specs.Children.{is_empty}
use Rattle.cv_syntax_trees.specs.Tree.{Tree}
use Rattle.cv_meaning.specs.Interpretation.{setting_of}
use Rattle.cv_meaning.specs.Runs.{Mode}
use Rattle.cv_meaning_chances.specs.values.Values.{HasValuesIn}
use Rattle.cv_typing_runs.specs.Games.{HasDeclaredSorts}
use Rattle.cv_scope_rules.specs.Made.{is_own_at}
use Rattle.cv_scene.specs.Scenes.{Scene, part_at}
use Rattle.cv_derive_laws.proofs.stores.Costs.{free_taped, kept_costs}
use Rattle.cv_steps.proofs.Rows.{IsFree, free_fails, free_leads, free_unless, free_unless_at}
use Rattle.cv_derive_laws.specs.stores.Steps.{IsSound}
use Rattle.cv_steps_laws.proofs.Declared.{declared_there}
use Rattle.cv_steps_laws.proofs.Indices.{Lacks, bound_before, lacking_changed, lacking_empty, lacking_parts}
use Rattle.cv_steps_laws.proofs.Keeping.{accepted, next_formed}
use Rattle.cv_steps_laws.proofs.Values.{values_changed}
use Rattle.cv_costs.specs.names.Naming.{first_naming, is_one_queried}
use Rattle.cv_rule_move.specs.merge.Merging.{Body, bodies, first_other, is_beside}
use Rattle.cv_rule_move.specs.merge.Row.{merge_row_by, merge_step}
use Rattle.cv_rule_move.proofs.merge.Constructs.{bodies_output, first_body_has}
use Rattle.cv_rule_move.proofs.merge.Keeping.{IsMerge, merge_keeps, merge_leads}

-- a fact of trees that their parts have is one of the body that a construct becomes
module _ (s : Scene) (place : ℕ) (next : Tree) (m : IsMerge s place next) where
  abbrev old : Tree
  old = part_at s.game place

  body_declared : HasDeclaredSorts s.declarations old → HasDeclaredSorts s.declarations m.first.process
  unfolding HasDeclaredSorts
  body_declared = first_body_has (HasDeclaredSorts s.declarations) tt (λ h a b d. (d.1, d.2)) place old m.first m.others m.stands

  body_valued : (g : _) (k : Mode) → HasValuesIn g k old → HasValuesIn g k m.first.process
  unfolding HasValuesIn
  body_valued g k = first_body_has (HasValuesIn g k) tt (λ h a b d. (d.1, d.2)) place old m.first m.others m.stands

  body_lacks : (i : ℕ) → Lacks i old → Lacks i m.first.process
  body_lacks i = first_body_has (Lacks i) (lacking_empty i) (λ h a b d. let q = lacking_parts i h a b d in (q.1, q.2)) place old m.first m.others m.stands

-- it costs nothing
merge_free : (s : Scene) (p : ℕ) (t : Tree) (bs : List Body) → IsFree (merge_row_by s p t bs)
merge_free s p t [] = free_fails 1 0
merge_free s p t (b ∷ others) =
    free_unless (not (is_empty b.process)) 1 0 _
    (free_unless_at 2 (first_other b.process others) _
    (free_unless (not (is_one_queried s (is_own_at t))) 3 0 _ (free_unless_at 3 (first_naming (is_own_at t) (is_beside p t b) 0 s.game) _ (free_leads _))))

pub merge_sound : (p : ℕ) → IsSound (merge_step p)
merge_sound p = record {
  keeps = λ s next cost ready holds unreached knows e.
      kept_costs s.declarations s.game next cost (merge_keeps s p next cost ready (next_formed s (merge_step p) next cost e).phrase (accepted s (merge_step p) next cost e).row);
  taped = λ s next cost e i sat. free_taped _ (merge_free s p (part_at s.game p) (bodies p (part_at s.game p))) next cost (accepted s (merge_step p) next cost e).row i;
  declared = λ s next cost w d e.
      let m = merge_leads s p next cost (accepted s (merge_step p) next cost e).row in
      subst (HasDeclaredSorts s.declarations) m.leads (declared_there s p (λ t. m.first.process) w (bodies_output p (part_at s.game p) m.first m.others m.stands) (body_declared s p next m) d);
  valued = λ s next cost w i sat k fresh d e.
      let m = merge_leads s p next cost (accepted s (merge_step p) next cost e).row in
      let g = setting_of s.declarations i in
      subst (HasValuesIn g k) m.leads (values_changed g k s p (λ t. m.first.process) w (bodies_output p (part_at s.game p) m.first m.others m.stands) (body_valued s p next m g k) d);
  bound = λ s next cost e i h.
      let m = merge_leads s p next cost (accepted s (merge_step p) next cost e).row in
      bound_before i s.game next (λ l. subst (Lacks i) m.leads (lacking_changed i s p (λ t. m.first.process) l (body_lacks s p next m i))) h;
}
