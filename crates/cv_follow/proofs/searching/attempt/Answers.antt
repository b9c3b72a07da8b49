use Rattle.std.proofs.Common.{refl, subst}
use Rattle.cv_syntax.specs.declared.work.Work.{Work}
use Rattle.cv_follow.specs.Searches.{ComesTo}
use Rattle.cv_follow.proofs.Coming.{comes_released}
use Rattle.cv_follow.proofs.Growing.{grown_back}
use Rattle.cv_follow.proofs.Tries.{pool_back, trees_back}
use Rattle.cv_follow.proofs.searching.attempt.Goals as goal

pub returns-in-Accepted-clause-tried : goal.returns-in-Accepted-clause-tried
returns-in-Accepted-clause-tried c = subst (ComesTo c.args.work.now c.try_next.new.work c.args.may_move c.args.sequence.now c.try_next.new.sequence) c.in-Accepted.is c.in_ok-tried.ensures.tried

pub returns-in-Refused-clause-tried : goal.returns-in-Refused-clause-tried
returns-in-Refused-clause-tried c =
    let n = c.try_next.new in
    let new : Work = record n.work { pool = c.release.new.self } in
    comes_released c.args.work.now n.work new c.args.may_move c.args.sequence.now n.sequence c.mark-before.result.0
    (subst (ComesTo c.args.work.now n.work c.args.may_move c.args.sequence.now n.sequence) c.in-Refused.is c.in_ok-tried.ensures.tried)
    c.mark-before.ensures c.release.ensures.trees c.release.ensures.limit refl refl

pub returns-in-Refused-clause-back : goal.returns-in-Refused-clause-back
returns-in-Refused-clause-back c =
    trees_back c.args.work.now.pool c.try_next.new.work.pool c.release.new.self.trees c.mark-before.result.0 c.try_next.ensures.grown.grows c.mark-before.ensures c.release.ensures.trees

pub returns-in-Refused-clause-grown : goal.returns-in-Refused-clause-grown
returns-in-Refused-clause-grown c =
    let n = c.try_next.new in
    let new : Work = record n.work { pool = c.release.new.self } in
    grown_back c.args.work.now n.work new c.try_next.ensures.grown
    (pool_back c.args.work.now.pool n.work.pool c.release.new.self c.mark-before.result.0 c.try_next.ensures.grown.grows c.mark-before.ensures c.release.ensures.trees c.release.ensures.limit) refl refl

pub returns-in-Nothing-clause-tried : goal.returns-in-Nothing-clause-tried
returns-in-Nothing-clause-tried c = subst (ComesTo c.args.work.now c.try_next.new.work c.args.may_move c.args.sequence.now c.try_next.new.sequence) c.in-Nothing.is c.in_ok-tried.ensures.tried

pub returns-in-Passed-clause-tried : goal.returns-in-Passed-clause-tried
returns-in-Passed-clause-tried c = subst (ComesTo c.args.work.now c.try_next.new.work c.args.may_move c.args.sequence.now c.try_next.new.sequence) c.in-Passed.is c.in_ok-tried.ensures.tried
