use Rattle.std.proofs.Common.{arith}
use Rattle.cv_lex.specs.View.{token_at}
use Rattle.cv_library.specs.Heads.{listed}
use Rattle.cv_library.proofs.Putting.{ident_there, on_ok, token_kept, token_named, token_renamed, token_there}
use Rattle.cv_library.proofs.put.put_replaced.Goals as goal

pub returns-then-not-is_id-clause-adds : goal.returns-then-not-is_id-clause-adds
returns-then-not-is_id-clause-adds c =
    on_ok c.push.result
    (λ e. token_kept c.args.site.1 c.args.parameters.now (listed c.args.tokens.now c.args.site.0.word c.args.site.0.dot) (token_at c.args.body.now c.args.k) _ _ _ _ c.kind-kind.ensures c.text-text.ensures c.offset-offset.ensures c.args.out.now c.push.new.self c.if-not-is_id.ensures e)
    c.push.ensures.ok

pub push-requires-in-Some-clause-token : goal.push-requires-in-Some-clause-token
push-requires-in-Some-clause-token c =
    token_there c.args.tokens.now c.len-tokens.ensures.tokens c.in-Some.name _ _ (omega (arith, c.in-Some.ensures.within, c.requires.inside.last)) c.kind.ensures c.text.ensures

pub returns-in-Some-clause-adds : goal.returns-in-Some-clause-adds
returns-in-Some-clause-adds c =
    on_ok c.push-in-Some.result
    (λ e. token_named c.args.site.1 c.args.parameters.now (listed c.args.tokens.now c.args.site.0.word c.args.site.0.dot) (token_at c.args.body.now c.args.k) _ _ _ _ c.kind-kind.ensures c.text-text.ensures c.offset-offset.ensures c.args.out.now c.push-in-Some.new.self c.if-not-is_id.ensures (token_at c.args.tokens.now c.in-Some.name) _ _ (c.in-Some.ensures.value c.args.tokens.now) c.kind.ensures c.text.ensures e)
    c.push-in-Some.ensures.ok

pub put_renamed-requires-clause-name : goal.put_renamed-requires-clause-name
put_renamed-requires-clause-name c =
    ident_there c.args.body.now c.len-body.ensures.tokens c.args.k _ _ c.requires.within c.kind-kind.ensures c.text-text.ensures c.if-not-is_id.ensures

pub returns-in-None-clause-adds : goal.returns-in-None-clause-adds
returns-in-None-clause-adds c =
    on_ok c.put_renamed.result
    (λ e. token_renamed c.args.site.1 c.args.parameters.now (listed c.args.tokens.now c.args.site.0.word c.args.site.0.dot) (token_at c.args.body.now c.args.k) _ _ _ _ c.kind-kind.ensures c.text-text.ensures c.offset-offset.ensures c.args.out.now c.put_renamed.new.out c.if-not-is_id.ensures (c.in-None.ensures.value c.args.tokens.now) e)
    c.put_renamed.ensures.adds
