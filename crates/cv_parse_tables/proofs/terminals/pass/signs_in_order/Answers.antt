use Rattle.std.proofs.Common.{ap, arith}
use Rattle.cv_lex.proofs.Places.{tokens_some}
use Rattle.cv_parse_tables.specs.terminals.Signs.{Signed}
use Rattle.cv_parse_tables.proofs.terminals.Walk.{reached_push, reached_last, step_keeps, no_end_yet}
use Rattle.cv_parse_tables.proofs.terminals.pass.signs_in_order.Goals as goal

pub sign_before-requires-clause-inner : goal.sign_before-requires-clause-inner
sign_before-requires-clause-inner c = no_end_yet c.args.tokens.now c.len-count.ensures.tokens c.loop-k.k (omega (arith, c.loop-k-test.true)) c.kind.result c.kind.ensures

pub returns-in_err-push-clause-kept : goal.returns-in_err-push-clause-kept
returns-in_err-push-clause-kept c = step_keeps c.args.names.now c.args.tokens.now c.args.from c.loop-k.signs.items c.loop-k.names c.loop-k.counts c.loop-k.k c.loop-k.invariant c.kind.result c.text-text.result.now c.text-next.result.now c.in_ok-sign.sign c.sign_before.new.names c.sign_before.new.counts c.in_ok-sign.ensures.step

pub loop-k-preserved : goal.loop-k-preserved
loop-k-preserved c =
    let some = tokens_some c.args.tokens.now c.len-count.ensures.tokens in
    reached_push c.args.names.now c.args.tokens.now c.args.from c.loop-k.signs.items c.loop-k.names c.loop-k.counts c.loop-k.k c.loop-k.invariant (omega (arith, c.loop-k-test.true, some)) c.kind.result c.text-text.result.now c.text-next.result.now c.kind.ensures c.text-text.ensures c.text-next.ensures c.in_ok-sign.sign c.sign_before.new.names c.sign_before.new.counts c.in_ok-sign.ensures.step c.push.new.self.items c.in_ok-push.ensures.items

pub returns-clause-signs : goal.returns-clause-signs
returns-clause-signs c =
    let some = tokens_some c.args.tokens.now c.len-count.ensures.tokens in
    ap (λ (s : Signed). s.signs) (reached_last c.args.names.now c.args.tokens.now c.len-count.ensures.tokens c.args.from c.loop-k.signs.items c.loop-k.names c.loop-k.counts c.loop-k.k c.loop-k.invariant (omega arith))

pub returns-clause-names : goal.returns-clause-names
returns-clause-names c =
    let some = tokens_some c.args.tokens.now c.len-count.ensures.tokens in
    ap (λ (s : Signed). s.names) (reached_last c.args.names.now c.args.tokens.now c.len-count.ensures.tokens c.args.from c.loop-k.signs.items c.loop-k.names c.loop-k.counts c.loop-k.k c.loop-k.invariant (omega arith))
