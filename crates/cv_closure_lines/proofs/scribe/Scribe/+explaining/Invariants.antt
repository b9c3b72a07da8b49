use Rattle.std.proofs.Common.{◌+◌, ◌*◌}
use Rattle.cv_closure_lines.proofs.scribe.Scribe.+explaining.Given as goal

abbrev pub decreases-known : goal.decreases-known
decreases-known l = 8 * l.left

abbrev pub decreases-known_by_class : goal.decreases-known_by_class
decreases-known_by_class l = 8 * l.left + 4

abbrev pub decreases-equal : goal.decreases-equal
decreases-equal l = 8 * l.left + 3

abbrev pub decreases-chain : goal.decreases-chain
decreases-chain l = 8 * l.left + 2

abbrev pub decreases-step : goal.decreases-step
decreases-step l = 8 * l.left + 1

abbrev pub decreases-joined : goal.decreases-joined
decreases-joined l = 8 * l.left

abbrev pub decreases-explain : goal.decreases-explain
decreases-explain l = 8 * l.left + 5

abbrev pub decreases-arguments : goal.decreases-arguments
decreases-arguments l = 8 * l.left + 4
