use Rattle.cv_inline.proofs.bodies.Terms.{value_in}
use Rattle.cv_inline.proofs.bodies.Stages.{agrees}
use Rattle.cv_inline.proofs.bodies.Served.{body_comes, call_comes}
use Rattle.cv_inline.proofs.bodies.right_bodies_are_served.Goals as goal

pub returns-clause-terms : goal.returns-clause-terms
returns-clause-terms c p nm made key Σ e n q term st f = value_in p made Σ e n (agrees p nm made key Σ e n q st) term f

pub returns-clause-bodies : goal.returns-clause-bodies
returns-clause-bodies c = body_comes

pub returns-clause-calls : goal.returns-clause-calls
returns-clause-calls c = call_comes
