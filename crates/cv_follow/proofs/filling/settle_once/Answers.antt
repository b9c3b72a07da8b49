use Rattle.std.proofs.Common.{refl, subst}
use Rattle.cv_syntax.specs.declared.work.Work.{Work}
use Rattle.cv_follow.specs.declared.searching.Tried.TheVariants.{Accepted, Nothing, Passed, Refused}
use Rattle.cv_follow.specs.Fillings.{SettlesOne}
use Rattle.cv_follow.proofs.Fillings.{settles_before}
use Rattle.cv_follow.proofs.Growing.{grown_kept}
use Rattle.cv_follow.proofs.Tries.{kept_back, kept_by, may_again}
use Rattle.cv_follow.proofs.filling.settle_once.Goals as goal

pub returns-in_default-clause-tried : goal.returns-in_default-clause-tried
returns-in_default-clause-tried c =
    let old = c.args.work.now in
    let mid = c.propose.new.work in
    let new : Work = record mid { pool = c.release.new.self } in
    let s = c.args.sequence.now in
    kept_back old mid new s s c.mark-before.result.0 (kept_by old mid s c.requires.may.empty c.propose.ensures.grows c.propose.ensures.names c.propose.ensures.decls) c.mark-before.ensures c.release.ensures.trees c.release.ensures.limit refl refl

pub returns-in_default-clause-again : goal.returns-in_default-clause-again
returns-in_default-clause-again c = may_again c.args.work.now (record c.propose.new.work { pool = c.release.new.self }) c.args.sequence.now c.args.sequence.now c.requires.may (returns-in_default-clause-tried c)

pub returns-in_default-clause-grown : goal.returns-in_default-clause-grown
returns-in_default-clause-grown c = grown_kept c.args.work.now (record c.propose.new.work { pool = c.release.new.self }) c.args.sequence.now c.args.sequence.now (returns-in_default-clause-tried c)

pub try_step-requires-clause-may : goal.try_step-requires-clause-may
try_step-requires-clause-may c =
    let old = c.args.work.now in
    let mid = c.propose.new.work in
    let s = c.args.sequence.now in
    may_again old mid s s c.requires.may (kept_by old mid s c.requires.may.empty c.propose.ensures.grows c.propose.ensures.names c.propose.ensures.decls)

pub returns-in-Accepted-clause-tried : goal.returns-in-Accepted-clause-tried
returns-in-Accepted-clause-tried c =
    let old = c.args.work.now in
    let mid = c.propose.new.work in
    let n = c.try_step.new in
    let s = c.args.sequence.now in
    settles_before old mid n.work s n.sequence c.requires.may.stands.live (kept_by old mid s c.requires.may.empty c.propose.ensures.grows c.propose.ensures.names c.propose.ensures.decls) (Accepted c.in-Accepted.step c.in-Accepted.moved)
    (subst (SettlesOne mid n.work s n.sequence) c.in-Accepted.is c.in_ok-step-2.ensures.tried)

pub returns-in-Refused-clause-tried : goal.returns-in-Refused-clause-tried
returns-in-Refused-clause-tried c =
    let old = c.args.work.now in
    let mid = c.propose.new.work in
    let n = c.try_step.new in
    let new : Work = record n.work { pool = c.release-in-Refused.new.self } in
    let s = c.args.sequence.now in
    kept_back old n.work new s n.sequence c.mark-before.result.0
    (settles_before old mid n.work s n.sequence c.requires.may.stands.live (kept_by old mid s c.requires.may.empty c.propose.ensures.grows c.propose.ensures.names c.propose.ensures.decls) Refused
    (subst (SettlesOne mid n.work s n.sequence) c.in-Refused.is c.in_ok-step-2.ensures.tried))
    c.mark-before.ensures c.release-in-Refused.ensures.trees c.release-in-Refused.ensures.limit refl refl

pub returns-in-Refused-clause-again : goal.returns-in-Refused-clause-again
returns-in-Refused-clause-again c = may_again c.args.work.now (record c.try_step.new.work { pool = c.release-in-Refused.new.self }) c.args.sequence.now c.try_step.new.sequence c.requires.may (returns-in-Refused-clause-tried c)

pub returns-in-Refused-clause-grown : goal.returns-in-Refused-clause-grown
returns-in-Refused-clause-grown c = grown_kept c.args.work.now (record c.try_step.new.work { pool = c.release-in-Refused.new.self }) c.args.sequence.now c.try_step.new.sequence (returns-in-Refused-clause-tried c)

pub returns-in-Nothing-clause-tried : goal.returns-in-Nothing-clause-tried
returns-in-Nothing-clause-tried c =
    let old = c.args.work.now in
    let mid = c.propose.new.work in
    let n = c.try_step.new in
    let s = c.args.sequence.now in
    settles_before old mid n.work s n.sequence c.requires.may.stands.live (kept_by old mid s c.requires.may.empty c.propose.ensures.grows c.propose.ensures.names c.propose.ensures.decls) Nothing
    (subst (SettlesOne mid n.work s n.sequence) c.in-Nothing.is c.in_ok-step-2.ensures.tried)

pub returns-in-Passed-clause-tried : goal.returns-in-Passed-clause-tried
returns-in-Passed-clause-tried c =
    let old = c.args.work.now in
    let mid = c.propose.new.work in
    let n = c.try_step.new in
    let s = c.args.sequence.now in
    settles_before old mid n.work s n.sequence c.requires.may.stands.live (kept_by old mid s c.requires.may.empty c.propose.ensures.grows c.propose.ensures.names c.propose.ensures.decls) (Passed c.in-Passed.which)
    (subst (SettlesOne mid n.work s n.sequence) c.in-Passed.is c.in_ok-step-2.ensures.tried)
