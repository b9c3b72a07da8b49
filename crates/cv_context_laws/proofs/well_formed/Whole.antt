-- The context of an apt game keeps the rules of scope at each node.
use Rattle.std.proofs.Common.{◌≡◌, true, [], refl}
use Rattle.cv_scope_rules.specs.Context.{nothing_known}
use Rattle.cv_scope_rules.specs.Scope.{names_of}
use Rattle.cv_scope_rules.specs.Standing.{at_root}
use Rattle.cv_scope_rules.specs.declared.position.Position.TheVariants.{Anywhere}
use Rattle.cv_scene.specs.Apt.{IsAptGame}
use Rattle.cv_scene.specs.LeftTerms.{HasLeftTerms}
use Rattle.cv_scene.specs.Reductions.{Reduction, context_of_game, matching}
use Rattle.cv_context_laws.specs.shape.Rules.{AreKept}
use Rattle.cv_context_runs.specs.visits.Fine.{has_free_indices}
use Rattle.cv_context_laws.proofs.well_formed.Kept.{inputs_kept, scoped_kept}
use Rattle.cv_context_laws.proofs.well_formed.Reach.{AreNamesOf}
use Rattle.cv_context_laws.proofs.well_formed.Shown.{context_becomes}
use Rattle.cv_context_laws.proofs.well_formed.Unmade.{variables_unmade}

module _ (r : Reduction) (apt : IsAptGame r) (left : HasLeftTerms r.scene.declarations (matching r).group) where
  names_alike : AreNamesOf r (names_of r.scene.declarations r.scene.game) (names_of r.scene.declarations (context_of_game r).game)
  names_alike = record {
    constant = λ x e. e;
    variable = λ x p e. variables_unmade r x p r.scene.game (context_of_game r).game (context_becomes r apt left) e;
  }

  pub context_kept : has_free_indices (matching r) r.scene.game ≡ true → AreKept (names_of r.scene.declarations (context_of_game r).game) Anywhere nothing_known 0 (context_of_game r).game
  context_kept free =
      inputs_kept r apt left (names_of r.scene.declarations r.scene.game) (names_of r.scene.declarations (context_of_game r).game) names_alike r.scene.game [] 0 apt.formed.phrase apt.apt free nothing_known nothing_known 0 0 refl
      (record { replications = refl; own = refl; cells = λ c x v n k. k })
      (scoped_kept (names_of r.scene.declarations r.scene.game) at_root r.scene.game (record { sites = tt; passed = tt }) apt.formed.scoped)
