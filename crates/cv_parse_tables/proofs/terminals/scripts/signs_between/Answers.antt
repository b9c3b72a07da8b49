use Rattle.std.proofs.Common.{ap, arith, ◌∙◌, ◌++◌, ◌∷◌, []}
use Rattle.cv_parse_tables.specs.terminals.Signs.{Signed}
use Rattle.cv_parse_tables.proofs.terminals.ScriptWalk.{worded_last, worded_push, worded_step_keeps}
use Rattle.cv_parse_tables.proofs.terminals.Walk.{no_end_yet}
use Rattle.cv_parse_tables.proofs.terminals.scripts.signs_between.Goals as goal

pub sign_before-requires-clause-inner : goal.sign_before-requires-clause-inner
sign_before-requires-clause-inner c = no_end_yet c.args.tokens.now c.len-tokens.ensures.tokens c.loop-k.k (omega (arith, c.loop-k-test.true, c.requires.to)) c.kind-kind.result c.kind-kind.ensures

pub returns-in_err-push-clause-kept : goal.returns-in_err-push-clause-kept
returns-in_err-push-clause-kept c = worded_step_keeps c.args.names.now c.args.tokens.now c.args.from c.args.to c.loop-k.signs.items c.loop-k.names c.loop-k.counts c.loop-k.k c.loop-k.invariant c.kind-kind.result c.text-text.result.now c.text_before-next.result.now c.in_ok-sign.sign c.sign_before.new.names c.sign_before.new.counts c.in_ok-sign.ensures.step

pub loop-k-preserved : goal.loop-k-preserved
loop-k-preserved c =
    worded_push c.args.names.now c.args.tokens.now c.args.from c.args.to c.loop-k.signs.items c.loop-k.names c.loop-k.counts c.loop-k.k c.loop-k.invariant c.loop-k-test.true c.requires.to c.kind-kind.result c.text-text.result.now c.text_before-next.result.now c.kind-kind.ensures c.text-text.ensures c.text_before-next.ensures c.in_ok-sign.sign c.sign_before.new.names c.sign_before.new.counts c.in_ok-sign.ensures.step c.push.new.self.items (c.in_ok-push.ensures.items ∙ ap (λ s. c.loop-k.signs.items ++ s ∷ []) c.worded.ensures)

pub returns-clause-names : goal.returns-clause-names
returns-clause-names c = ap (λ (s : Signed). s.names) (worded_last c.args.names.now c.args.tokens.now c.args.from c.args.to c.loop-k.signs.items c.loop-k.names c.loop-k.counts c.loop-k.k c.loop-k.invariant (omega (arith, c.loop-k-test.false)))
