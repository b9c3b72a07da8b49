use Rattle.std.proofs.Common.{◌≡◌, Bool, true, false, refl}
use Rattle.cv_syntax_trees.specs.Tree.{Tree}
use Rattle.cv_meaning.specs.Advantage.{chance_of}
use Rattle.cv_meaning.specs.Chances.{AtMost}
use Rattle.cv_meaning.specs.Correspondences.{correspondence_of}
use Rattle.cv_meaning.specs.Experiments.{Breaks}
use Rattle.cv_meaning.specs.Interpretation.{Interpretation, setting_of}
use Rattle.cv_meaning.specs.Runs.{Adversary, Events}
use Rattle.cv_meaning.specs.Satisfies.{Satisfies}
use Rattle.cv_costs.specs.Certificates.{cost_of_certificate}
use Rattle.cv_scene.specs.Scenes.{Scene}
use Rattle.cv_derive_laws.specs.stores.Costs.{bound_of}
use Rattle.cv_query_laws.specs.correspondences.Premises.{IsProved}
use Rattle.cv_query_laws.proofs.correspondences.Closing.{as_advantage, events_proof}
use Rattle.cv_query_injections.proofs.matching.Bounded.{never_most, within_cost}
use Rattle.cv_query_injections.proofs.accepted_correspondences_are_within_their_costs.Goals as goal

pub returns-clause-chance : goal.returns-clause-chance
returns-clause-chance c = λ s query certificate p i model a. go s query certificate p i model a ((correspondence_of query).inj) refl
  where
    go : (s : Scene) (query certificate : Tree) → IsProved s query certificate → (i : Interpretation) → Satisfies s.declarations i → (a : Adversary) (b : Bool) → (correspondence_of query).inj ≡ b
        → AtMost (chance_of (setting_of s.declarations i) (Breaks query) a s.game) (bound_of i (cost_of_certificate s certificate))
    go s query certificate p i model a true e =
        within_cost s query i a p.ready.formed.phrase
        (λ x type v news first sort. c.equal_choices_are_rare.ensures s.declarations i Events a s.game x type v p.ready.formed p.ready.typed news first sort)
        certificate (events_proof s query certificate p.correspondence p.accepted.proof) (c.accepted_injections_hold.ensures s query certificate p e i model a)
    go s query certificate p i model a false e =
        never_most (chance_of (setting_of s.declarations i) (Breaks query) a s.game) (bound_of i (cost_of_certificate s certificate)) (c.accepted_correspondences_are_never_broken.ensures.chance s query certificate p e i model a)

pub returns-clause-query : goal.returns-clause-query
returns-clause-query c = λ s query certificate p i model a.
    as_advantage (setting_of s.declarations i) query a s.game (bound_of i (cost_of_certificate s certificate)) p.correspondence (returns-clause-chance c s query certificate p i model a)
