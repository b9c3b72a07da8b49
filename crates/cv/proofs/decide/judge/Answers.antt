use Rattle.std.proofs.Common.{sym, subst, ◌∙◌}
use Rattle.cv_accept.proofs.Readings.{accepted}
use Rattle.cv_accept.specs.Accepted.{most_pool}
use Rattle.cv_report.specs.declared.report.Status.{Status}
use Rattle.cv.specs.Sources.{given_of}
use Rattle.cv.specs.Strategy.{Judged}
use Rattle.cv.proofs.Bounded.{run_calls}
use Rattle.cv.proofs.Endings.{refusal_begins}
use Rattle.cv.proofs.Faithful.{run_close}
use Rattle.cv.proofs.Proving.{report_sound}
use Rattle.cv_sequences.proofs.files.Ready.{equivalences}
use Rattle.cv.proofs.Running.{judged_under, run_begins}
use Rattle.cv.proofs.Stepping.{run_steps}
use Rattle.cv.proofs.Verdicts.{judged_fault, reads_at, refuses_at}
use Rattle.cv.proofs.decide.judge.Goals as goal

pub returns-in-Err-clause-begins : goal.returns-in-Err-clause-begins
returns-in-Err-clause-begins g c = λ o given.
    refusal_begins o _ _ _ _ (given_of c.args.source.now) c.in-Err.fault given (refuses_at _ (given_of c.args.source.now) c.in-Err.fault c.requires.limit c.in-Err.ensures.reads) (c.run_refused.ensures.status ∙ c.status_of.ensures) c.run_refused.ensures.file c.run_refused.ensures.nothing c.run_refused.ensures.silent

pub returns-in-Err-clause-judged : goal.returns-in-Err-clause-judged
returns-in-Err-clause-judged g c =
    subst (λ (s : Status). Judged c.args.command s (given_of c.args.source.now)) (sym (c.run_refused.ensures.status ∙ c.status_of.ensures))
    (judged_fault c.args.command c.in-Err.fault (given_of c.args.source.now) (refuses_at _ (given_of c.args.source.now) c.in-Err.fault c.requires.limit c.in-Err.ensures.reads))

pub run_accepted-requires-clause-formed : goal.run_accepted-requires-clause-formed
run_accepted-requires-clause-formed g c = (accepted most_pool (given_of c.args.source.now) _ (reads_at _ (given_of c.args.source.now) _ c.requires.limit c.in-Ok.ensures.reads)).well_formed

pub run_accepted-requires-clause-limit : goal.run_accepted-requires-clause-limit
run_accepted-requires-clause-limit g c = c.read_source.ensures.limit ∙ c.requires.limit

pub run_accepted-requires-clause-equivalences : goal.run_accepted-requires-clause-equivalences
run_accepted-requires-clause-equivalences g c = λ y t e.
    let w = equivalences (given_of c.args.source.now) _ (reads_at _ (given_of c.args.source.now) _ c.requires.limit c.in-Ok.ensures.reads) y t e in
    (w.left, w.accepted)

pub returns-in-Ok-clause-sound : goal.returns-in-Ok-clause-sound
returns-in-Ok-clause-sound g c =
    report_sound c.derivations_are_sound.ensures.hold c.derivations_are_sound.ensures.unreached c.accepted_correspondences_are_within_their_costs.ensures.chance c.accepted_certificates_cost_a_number.ensures c.accepted_secrets_have_no_advantage.ensures.many c.accepted_secrets_have_no_advantage.ensures.one
    c.accepted_exactly_where_nothing_fails.ensures _ c.in-Ok.accepted.file _ (given_of c.args.source.now) (reads_at _ (given_of c.args.source.now) _ c.requires.limit c.in-Ok.ensures.reads) c.requires.few.file c.run_accepted.ensures.run.course c.run_accepted.ensures.run.has

pub returns-in-Ok-clause-games : goal.returns-in-Ok-clause-games
returns-in-Ok-clause-games g c =
    run_close c.derivations_are_sound.ensures.hold c.derivations_are_sound.ensures.unreached c.accepted_certificates_cost_a_number.ensures c.accepted_exactly_where_nothing_fails.ensures _ c.in-Ok.accepted.file _ (given_of c.args.source.now) (reads_at _ (given_of c.args.source.now) _ c.requires.limit c.in-Ok.ensures.reads) c.requires.few.file c.run_accepted.ensures.run.course c.run_accepted.ensures.run.has

pub returns-in-Ok-clause-steps : goal.returns-in-Ok-clause-steps
returns-in-Ok-clause-steps g c =
    run_steps c.derivations_are_sound.ensures.hold c.derivations_are_sound.ensures.unreached _ c.in-Ok.accepted.file _ (given_of c.args.source.now) (reads_at _ (given_of c.args.source.now) _ c.requires.limit c.in-Ok.ensures.reads) c.requires.few.file c.run_accepted.ensures.run.course c.run_accepted.ensures.run.has

pub returns-in-Ok-clause-calls : goal.returns-in-Ok-clause-calls
returns-in-Ok-clause-calls g c =
    run_calls c.derivations_are_sound.ensures.hold c.derivations_are_sound.ensures.unreached _ c.in-Ok.accepted.file _ (given_of c.args.source.now) (reads_at _ (given_of c.args.source.now) _ c.requires.limit c.in-Ok.ensures.reads) c.requires.few.file c.run_accepted.ensures.run.course c.run_accepted.ensures.run.has

pub returns-in-Ok-clause-begins : goal.returns-in-Ok-clause-begins
returns-in-Ok-clause-begins g c = λ o given.
    run_begins _ c.in-Ok.accepted.file _ _ _ _ _ _ _ c.run_accepted.ensures.run (given_of c.args.source.now) (reads_at _ (given_of c.args.source.now) _ c.requires.limit c.in-Ok.ensures.reads) c.requires.few o given

pub returns-in-Ok-clause-judged : goal.returns-in-Ok-clause-judged
returns-in-Ok-clause-judged g c =
    judged_under _ c.in-Ok.accepted.file _ c.run_accepted.ensures.run.course c.run_accepted.ensures.run.has (given_of c.args.source.now) (reads_at _ (given_of c.args.source.now) _ c.requires.limit c.in-Ok.ensures.reads) c.args.command c.run_accepted.ensures.command
