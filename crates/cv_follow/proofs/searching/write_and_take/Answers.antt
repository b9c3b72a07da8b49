use Rattle.std.proofs.Common.{ap, arith, length, refl, subst, sym}
use Rattle.cv_pool.proofs.Growth.{Grows_same}
use Rattle.cv_report.specs.declared.report.Which.TheVariants.{Pool}
use Rattle.cv_syntax.specs.declared.work.Work.{Work}
use Rattle.cv_syntax.specs.limits.Limits.{nodes_of}
use Rattle.cv_script.specs.Views.{items_of_step}
use Rattle.cv_step_writer.specs.Proposals.{step_tree}
use Rattle.cv_syntax_trees.specs.Tree.{Tree}
use Rattle.cv_follow.specs.Searches.{IsReady, with_names}
use Rattle.cv_follow.proofs.Coming.{comes_short}
use Rattle.cv_follow.proofs.Growing.{grown_both, grown_pool}
use Rattle.cv_follow.proofs.ReadySteps.{comes_from_before, kept_names, ready_grown}
use Rattle.cv_follow.proofs.Tries.{kept_by, may_again}
use Rattle.cv_follow.proofs.searching.write_and_take.Goals as goal

pub take-requires-clause-may : goal.take-requires-clause-may
take-requires-clause-may c =
    let old = c.args.work.now in
    let mid : Work = record old { pool = c.write.new.pool } in
    may_again old mid c.args.sequence.now c.args.sequence.now c.requires.may (kept_by old mid c.args.sequence.now c.requires.may.empty c.in-Ok.ensures.grows refl refl)

pub take-requires-clause-short : goal.take-requires-clause-short
take-requires-clause-short c =
    let l = c.requires.may.limit in
    let r = c.in-Ok.ensures.room in
    let e = ap nodes_of c.in-Ok.ensures.tree in
    omega arith

pub take-requires-clause-few : goal.take-requires-clause-few
take-requires-clause-few c =
    let l = c.requires.may.limit in
    let r = c.in-Ok.ensures.room in
    let f = c.write.ensures.few in
    omega arith

pub returns-in-Ok-clause-tried : goal.returns-in-Ok-clause-tried
returns-in-Ok-clause-tried c = λ n ready.
    let old = c.args.work.now in
    let mid : Work = record old { pool = c.write.new.pool } in
    let s = c.args.sequence.now in
    let live = c.requires.may.stands.live in
    let grown = ready_grown n old mid s (items_of_step (step_tree old.pool.trees c.args.proposal.now)) c.in-Ok.ensures.grows refl refl live ready in
    comes_from_before n old mid c.take.new.work c.args.may_move s c.take.new.sequence live (kept_by old mid s c.requires.may.empty c.in-Ok.ensures.grows refl refl) c.take.result
    (c.take.ensures.tried n (subst (λ (t : Tree). IsReady n mid s (items_of_step t)) (sym c.in-Ok.ensures.tree) grown))

pub returns-in-Ok-clause-grown : goal.returns-in-Ok-clause-grown
returns-in-Ok-clause-grown c =
    let old = c.args.work.now in
    let mid : Work = record old { pool = c.write.new.pool } in
    grown_both old mid c.take.new.work (grown_pool old mid c.in-Ok.ensures.grows refl refl) c.take.ensures.grown

pub returns-in-Err-Full-clause-tried : goal.returns-in-Err-Full-clause-tried
returns-in-Err-Full-clause-tried c = λ n ready.
    let old = c.args.work.now in
    let new : Work = record old { pool = c.write.new.pool } in
    let s = c.args.sequence.now in
    let e = rw c.in-Err-Full.field-0-is at c.in-Err-Full.ensures in
    let over = (e.full c.in-Err-Full.need refl).1 in
    let same = ap length e.kept in
    rw c.in-Err-Full.field-0-is
    (comes_short (with_names n old) (with_names n new) c.args.may_move s s (Pool c.in-Err-Full.need)
    (kept_names n old new s s (kept_by old new s c.requires.may.empty (Grows_same old.pool new.pool e.kept c.write.ensures.limit) refl refl)) c.requires.may.limit (omega arith))

pub returns-in-Err-Full-clause-grown : goal.returns-in-Err-Full-clause-grown
returns-in-Err-Full-clause-grown c =
    let old = c.args.work.now in
    let e = rw c.in-Err-Full.field-0-is at c.in-Err-Full.ensures in
    grown_pool old (record old { pool = c.write.new.pool }) (Grows_same old.pool c.write.new.pool e.kept c.write.ensures.limit) refl refl

pub returns-in-Err-OutOfMemory-clause-grown : goal.returns-in-Err-OutOfMemory-clause-grown
returns-in-Err-OutOfMemory-clause-grown c =
    let old = c.args.work.now in
    let e = rw c.in-Err-OutOfMemory.field-0-is at c.in-Err-OutOfMemory.ensures in
    grown_pool old (record old { pool = c.write.new.pool }) (Grows_same old.pool c.write.new.pool e.kept c.write.ensures.limit) refl refl
