-- A move is sound.
use Rattle.std.proofs.Common.{ℕ, Option, Some, None, subst}
use Rattle.cv_syntax_trees.specs.Tree.{Tree, second}
use Rattle.cv_meaning.specs.Interpretation.{setting_of}
use Rattle.cv_meaning_chances.specs.values.Values.{HasValuesIn}
use Rattle.cv_scene.specs.Scenes.{Scene, part_at}
use Rattle.cv_derive_laws.proofs.stores.Costs.{free_taped, kept_costs}
use Rattle.cv_steps.proofs.Rows.{IsFree, free_fails, free_leads, free_unless, free_unless_at}
use Rattle.cv_derive_laws.specs.stores.Steps.{IsSound}
use Rattle.cv_steps_laws.proofs.Indices.{Lacks, bound_before, lacking_changed}
use Rattle.cv_steps_laws.proofs.Keeping.{accepted}
use Rattle.cv_steps_laws.proofs.Values.{values_changed}
use Rattle.cv_rule_move.specs.Moving.{behind, defined, first_naming, has_bodies, moved}
use Rattle.cv_rule_move.specs.Rows.{move_row_by}
use Rattle.cv_rule_move.specs.Steps.{move_step}
use Rattle.cv_rule_move.proofs.Declared.{defined_output, moves_declared}
use Rattle.cv_rule_move.proofs.Keeping.{move_leads, moves}
use Rattle.cv_rule_move.proofs.Kept.{lacking_by_nodes, moved_kept, values_by_nodes}

-- it costs nothing
move_free : (s : Scene) (p : ℕ) (d : Tree) (o : Option ℕ) → IsFree (move_row_by s p d o)
move_free s p d None = free_fails 1 0
move_free s p d (Some x) = free_unless (has_bodies (second d)) 2 0 _ (free_unless_at 3 (first_naming x (behind p d) (second d)) _ (free_leads _))

pub move_sound : (p : ℕ) → IsSound (move_step p)
move_sound p = record {
  keeps = λ s next cost ready d u k e. kept_costs s.declarations s.game next cost (moves s p next cost ready.formed (accepted s (move_step p) next cost e).row);
  taped = λ s next cost e i sat. free_taped _ (move_free s p (part_at s.game p) (defined (part_at s.game p))) next cost (accepted s (move_step p) next cost e).row i;
  declared = λ s next cost w d e. moves_declared s p next cost w d (accepted s (move_step p) next cost e).row;
  valued = λ s next cost w i sat m n d e.
      let g = setting_of s.declarations i in
      let r = move_leads s p next cost (accepted s (move_step p) next cost e).row in
      subst (HasValuesIn g m) r.leads
      (values_changed g m s p moved w (defined_output (part_at s.game p) r.variable r.defines) (moved_kept (HasValuesIn g m) (values_by_nodes g m) (part_at s.game p)) d);
  bound = λ s next cost e i h.
      let r = move_leads s p next cost (accepted s (move_step p) next cost e).row in
      bound_before i s.game next (λ l. subst (Lacks i) r.leads (lacking_changed i s p moved l (moved_kept (Lacks i) (lacking_by_nodes i) (part_at s.game p)))) h;
}
