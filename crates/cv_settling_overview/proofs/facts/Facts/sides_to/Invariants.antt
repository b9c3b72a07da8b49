use Rattle.cv_settling_overview.specs.Findings.{LeadsUp}
use Rattle.cv_settling_overview.proofs.facts.Facts.sides_to.Given as goal

abbrev pub invariant-above : goal.invariant-above
invariant-above l = LeadsUp l.self l.fn.number l.at l.sides.items

abbrev pub decreases-above : goal.decreases-above
decreases-above l = l.at
