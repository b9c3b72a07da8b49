use Rattle.std.proofs.Common.{refl, ◌∙◌}
use Rattle.cv_syntax.specs.declared.work.Work.{Work}
use Rattle.cv_follow.proofs.Coming.{comes_nothing, comes_result, failed_result}
use Rattle.cv_follow.proofs.Tries.{kept_by, may_again}
use Rattle.cv_follow.proofs.searching.try_next.Goals as goal

pub name_and_take-requires-clause-may : goal.name_and_take-requires-clause-may
name_and_take-requires-clause-may c =
    let old = c.args.work.now in
    let mid : Work = record old { pool = c.propose-step.new.pool } in
    may_again old mid c.args.sequence.now c.args.sequence.now c.requires.may (kept_by old mid c.args.sequence.now c.requires.may.empty c.propose-step.ensures.grows refl refl)

pub returns-in-Ok-Some-clause-tried : goal.returns-in-Ok-Some-clause-tried
returns-in-Ok-Some-clause-tried c =
    let old = c.args.work.now in
    let mid : Work = record old { pool = c.propose-step.new.pool } in
    comes_result old mid c.name_and_take.new.work c.args.may_move c.args.sequence.now c.args.sequence.now c.name_and_take.new.sequence c.requires.may.stands.live
    (kept_by old mid c.args.sequence.now c.requires.may.empty c.propose-step.ensures.grows refl refl) c.name_and_take.result c.name_and_take.ensures.tried

pub returns-in-Ok-None-clause-tried : goal.returns-in-Ok-None-clause-tried
returns-in-Ok-None-clause-tried c =
    let old = c.args.work.now in
    let mid : Work = record old { pool = c.propose-step.new.pool } in
    comes_nothing old mid c.args.may_move c.args.sequence.now c.args.sequence.now (kept_by old mid c.args.sequence.now c.requires.may.empty c.propose-step.ensures.grows refl refl)

pub returns-in-Err-clause-tried : goal.returns-in-Err-clause-tried
returns-in-Err-clause-tried c =
    let old = c.args.work.now in
    let mid : Work = record old { pool = c.propose-step.new.pool } in
    let new : Work = record old { pool = c.fail.new.pool } in
    comes_result old mid new c.args.may_move c.args.sequence.now c.args.sequence.now c.args.sequence.now c.requires.may.stands.live
    (kept_by old mid c.args.sequence.now c.requires.may.empty c.propose-step.ensures.grows refl refl) c.fail.result
    (failed_result mid new c.args.may_move c.args.sequence.now c.fail.result c.requires.may.empty refl refl (let l = c.requires.may.limit in let g = c.propose-step.ensures.grows.limit in g ∙ l) c.fail.ensures.failed)
