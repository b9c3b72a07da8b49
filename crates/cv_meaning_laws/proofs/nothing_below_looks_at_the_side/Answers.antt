use Rattle.cv_meaning_laws.proofs.Sides.{value_same, values_same, candidates_same, inputs_same, broken_same, holds_in_same}
use Rattle.cv_meaning_laws.proofs.nothing_below_looks_at_the_side.Goals as goal

pub returns-clause-values : goal.returns-clause-values
returns-clause-values c = value_same

pub returns-clause-lists : goal.returns-clause-lists
returns-clause-lists c = values_same

pub returns-clause-candidates : goal.returns-clause-candidates
returns-clause-candidates c = candidates_same

pub returns-clause-inputs : goal.returns-clause-inputs
returns-clause-inputs c = inputs_same

pub returns-clause-broken : goal.returns-clause-broken
returns-clause-broken c = broken_same

pub returns-clause-experiments : goal.returns-clause-experiments
returns-clause-experiments c = holds_in_same
