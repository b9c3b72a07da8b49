use Rattle.cv_meaning_runs.proofs.simulations.Modes.{modes_simulate, modes_visited_alike, modes_same_state, modes_same_moments, itself_simulated}
use Rattle.cv_meaning_runs.proofs.simulations.tests_that_tell_the_same_keep_runs.Goals as goal

pub returns-clause-simulation : goal.returns-clause-simulation
returns-clause-simulation c = modes_simulate

pub returns-clause-visits : goal.returns-clause-visits
returns-clause-visits c = modes_visited_alike

pub returns-clause-states : goal.returns-clause-states
returns-clause-states c = modes_same_state

pub returns-clause-moments : goal.returns-clause-moments
returns-clause-moments c = modes_same_moments

pub returns-clause-itself : goal.returns-clause-itself
returns-clause-itself c = itself_simulated
