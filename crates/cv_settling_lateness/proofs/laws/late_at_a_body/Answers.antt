use Rattle.cv_scope_rules.specs.Phrases.{Inputs}
use Rattle.cv_settling_lateness.proofs.Branching as branching
use Rattle.cv_settling_lateness.proofs.laws.late_at_a_body.Goals as goal

pub returns-clause-late : goal.returns-clause-late
returns-clause-late c = branching.late_at_a_body

pub returns-clause-whole : goal.returns-clause-whole
returns-clause-whole c = branching.phrase_whole Inputs
