use Rattle.cv_meaning_laws.proofs.adequacy.WorkedSides.{context_typed, context_model, echo_keeps, key_teller_keeps, predecessor_keeps, counter_does_not}
use Rattle.cv_meaning_laws.proofs.adequacy.sides_keep_sorts.Goals as goal

pub returns-clause-typed : goal.returns-clause-typed
returns-clause-typed c = context_typed

pub returns-clause-model : goal.returns-clause-model
returns-clause-model c = context_model

pub returns-clause-argument : goal.returns-clause-argument
returns-clause-argument c = echo_keeps

pub returns-clause-key : goal.returns-clause-key
returns-clause-key c = key_teller_keeps

pub returns-clause-arrays : goal.returns-clause-arrays
returns-clause-arrays c = predecessor_keeps

pub returns-clause-no_larger : goal.returns-clause-no_larger
returns-clause-no_larger c = counter_does_not
