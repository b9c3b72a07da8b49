use Rattle.cv_derive_laws.proofs.reached.derivations_are_sound.Goals as goal

pub returns-clause-hold : goal.returns-clause-hold
returns-clause-hold c = λ ds. record {
  places = λ s e ready. c.derivations_hold_at_visits.ensures.places s ready;
  conditions = λ s e ready. c.derivations_hold_at_visits.ensures.conditions s ready;
  targets = c.targets_hold.ensures;
}

pub returns-clause-unreached : goal.returns-clause-unreached
returns-clause-unreached c = λ ds. record {
  visits = λ s e q by d ready. c.bodies_that_derive_false_are_unreached.ensures.visits s q by ready d;
  candidates = λ s e q by d ready. c.bodies_that_derive_false_are_unreached.ensures.candidates s q by ready d;
}
