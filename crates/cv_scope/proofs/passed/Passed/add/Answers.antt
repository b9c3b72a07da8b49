use Rattle.std.proofs.Common.{sym, subst}
use Rattle.cv_scope_rules.specs.Ranges.{EndBy}
use Rattle.cv_scope.specs.Rising.{Rise}
use Rattle.cv_scope.proofs.Rising.{rise_push}
use Rattle.cv_scope.proofs.passed.Passed.add.Goals as goal

pub invariant_of-self-2 : goal.invariant_of-self-2
invariant_of-self-2 c =
    let ends = subst (EndBy c.args.from) (sym c.self.view_is) c.requires.behind in
    subst Rise (sym c.in_ok-push.ensures.items) (rise_push c.args.from c.args.to c.self.inside.ranges.items c.self.invariant ends c.requires.range)
