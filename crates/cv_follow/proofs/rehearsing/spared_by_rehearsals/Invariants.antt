use Rattle.cv_rehearsals.specs.Works.{IsUnchanged}
use Rattle.cv_follow.proofs.rehearsing.spared_by_rehearsals.Given as goal

abbrev pub invariant-rehearsals : goal.invariant-rehearsals
invariant-rehearsals l = IsUnchanged l.fn.work l.work
