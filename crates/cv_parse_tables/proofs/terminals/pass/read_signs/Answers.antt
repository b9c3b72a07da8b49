use Rattle.std.proofs.Common.{ap, arith}
use Rattle.cv_lex.proofs.Places.{tokens_some}
use Rattle.cv_parse_tables.specs.terminals.Signs.{Signed}
use Rattle.cv_parse_tables.proofs.terminals.FileTokens.{no_end_read, signed_last, signed_push}
use Rattle.cv_parse_tables.proofs.terminals.pass.read_signs.Goals as goal

pub sign_before-requires-clause-inner : goal.sign_before-requires-clause-inner
sign_before-requires-clause-inner c =
    let some = tokens_some c.args.tokens.now c.len-count.ensures.tokens in
    no_end_read _ _ _ _ _ _ c.loop-k.k c.loop-k.invariant c.len-count.ensures.tokens (omega arith) c.read_token-kind.result.0 c.read_token-kind.ensures.kind

pub loop-k-preserved : goal.loop-k-preserved
loop-k-preserved c =
    let some = tokens_some c.args.tokens.now c.len-count.ensures.tokens in
    signed_push c.args.names.now c.args.tokens.now c.loop-k.signs.items c.loop-k.names c.loop-k.counts c.loop-k.depth c.loop-k.k c.loop-k.invariant (omega arith) c.read_token-kind.result.0 c.read_token-kind.result.1.now c.read_token-kind.ensures.kind c.read_token-kind.ensures.text c.text.result.now c.open_behind-depth.result c.text.ensures c.open_behind-depth.ensures c.read_token.result.1.now c.read_token.ensures.text c.in_ok-sign.sign c.sign_before.new.names c.sign_before.new.counts c.in_ok-sign.ensures.step c.push.new.self.items c.in_ok-push.ensures.items

pub returns-clause-signs : goal.returns-clause-signs
returns-clause-signs c =
    let some = tokens_some c.args.tokens.now c.len-count.ensures.tokens in
    ap (λ (s : Signed). s.signs) (signed_last _ _ _ _ _ _ c.loop-k.k c.loop-k.invariant c.len-count.ensures.tokens (omega arith))

pub returns-clause-names : goal.returns-clause-names
returns-clause-names c =
    let some = tokens_some c.args.tokens.now c.len-count.ensures.tokens in
    ap (λ (s : Signed). s.names) (signed_last _ _ _ _ _ _ c.loop-k.k c.loop-k.invariant c.len-count.ensures.tokens (omega arith))
