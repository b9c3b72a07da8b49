use Rattle.std.specs.List.{AllByRecursion}
use Rattle.std.proofs.lemmas.List.Elements.{All-weaker}
use Rattle.cv_meaning.specs.Interpretation.{setting_of}
use Rattle.cv_meaning.specs.Experiments.{visits_of_run}
use Rattle.cv_derive_laws.specs.stores.Holding.{HoldAtFind, HoldAtVisit}
use Rattle.cv_derive_laws.specs.stores.Unreached.{HasNoneAt, IsElsewhere}
use Rattle.cv_derive_laws.proofs.reached.Targets.{elsewhere, none_at}
use Rattle.cv_derive_laws.proofs.reached.bodies_that_derive_false_are_unreached.Goals as goal
use Rattle.cv_syntax_trees.proofs.lists.Each.{AllByRecursion_weaker}

pub returns-clause-visits : goal.returns-clause-visits
returns-clause-visits c = λ s q by ready d i model m a.
    All-weaker (λ t. AllByRecursion (HoldAtVisit s i) (visits_of_run (setting_of s.declarations i) m a s.game t)) (λ t. AllByRecursion (IsElsewhere q) (visits_of_run (setting_of s.declarations i) m a s.game t))
    (λ t h. AllByRecursion_weaker (HoldAtVisit s i) (IsElsewhere q) (elsewhere s i q by d) (visits_of_run (setting_of s.declarations i) m a s.game t) h) _ (c.derivations_hold_at_visits.ensures.places s ready i model m a)

pub returns-clause-candidates : goal.returns-clause-candidates
returns-clause-candidates c = λ s q by ready d i model m a.
    All-weaker (λ t. AllByRecursion (HoldAtFind s i) (visits_of_run (setting_of s.declarations i) m a s.game t)) (λ t. AllByRecursion (HasNoneAt s i q) (visits_of_run (setting_of s.declarations i) m a s.game t))
    (λ t h. AllByRecursion_weaker (HoldAtFind s i) (HasNoneAt s i q) (none_at s i q by d) (visits_of_run (setting_of s.declarations i) m a s.game t) h) _ (c.derivations_hold_at_visits.ensures.candidates s ready i model m a)
