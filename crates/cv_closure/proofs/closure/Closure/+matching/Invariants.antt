use Rattle.std.proofs.Common.{◌+◌, ◌*◌}
use Rattle.cv_closure.proofs.closure.Closure.+matching.Given as goal

abbrev pub decreases-matches : goal.decreases-matches
decreases-matches l = 2 * l.p.0 + 1

abbrev pub decreases-matches_itself : goal.decreases-matches_itself
decreases-matches_itself l = 2 * l.p.0
