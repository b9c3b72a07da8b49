use Rattle.std.proofs.Common.{sym, subst}
use Rattle.cv_scope.specs.Rising.{Rise}
use Rattle.cv_scope.proofs.Rising.{rise_take}
use Rattle.cv_scope.proofs.passed.Passed.keep.Goals as goal

pub invariant_of-self : goal.invariant_of-self
invariant_of-self c = subst Rise (sym c.truncate.ensures.items) (rise_take c.args.n c.self.inside.ranges.items c.self.invariant)
