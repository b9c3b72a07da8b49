use Rattle.std.proofs.Common.{Some, None, arith}
use Rattle.std.specs.Prelude.{slice_range}
use Rattle.cv_library.specs.Libraries.{definition_at}
use Rattle.cv_library.specs.Views.{definitions}
use Rattle.cv_library.proofs.Adding.{adds_none}
use Rattle.cv_library.proofs.Expanding.{body_many, body_none, inside_any, use_put}
use Rattle.cv_library.proofs.Putting.{on_ok}
use Rattle.cv_library.proofs.expansion.put_use.Goals as goal

pub put_body-requires-clause-inside : goal.put_body-requires-clause-inside
put_body-requires-clause-inside c = inside_any c.args.tokens.now c.args.from c.args.site.0 c.requires.inside

pub put_body-requires-clause-room : goal.put_body-requires-clause-room
put_body-requires-clause-room c =
    let many = body_many (definitions c.args.library.now) c.args.library.now.tokens c.args.tokens.now c.args.site.0 c.in-Some.place c.text_at.result.now c.in-Some.ensures.inside c.text_at.ensures.value c.in-Some.ensures.definition c.args.site.1 in
    omega (arith, c.requires.room, c.in_ok-put_range.ensures.len)

pub returns-in-Some-clause-adds : goal.returns-in-Some-clause-adds
returns-in-Some-clause-adds c =
    on_ok c.put_body.result
    (use_put (definitions c.args.library.now) c.args.tokens.now c.args.site.1 c.args.site.0 c.text_at.result.now (Some (definition_at c.args.library.now.tokens c.in-Some.place)) (slice_range c.args.tokens.now c.args.from c.args.site.0.word) c.args.out.now c.put_range.new.out c.put_body.new.out c.text_at.ensures.value c.in-Some.ensures.definition c.in_ok-put_range.ensures.adds)
    c.put_body.ensures.adds

pub returns-in-Some-clause-len : goal.returns-in-Some-clause-len
returns-in-Some-clause-len c =
    let many = body_many (definitions c.args.library.now) c.args.library.now.tokens c.args.tokens.now c.args.site.0 c.in-Some.place c.text_at.result.now c.in-Some.ensures.inside c.text_at.ensures.value c.in-Some.ensures.definition c.args.site.1 in
    on_ok c.put_body.result (λ e. omega (arith, e, many, c.in_ok-put_range.ensures.len)) c.put_body.ensures.len

pub returns-in-None-clause-adds : goal.returns-in-None-clause-adds
returns-in-None-clause-adds c =
    use_put (definitions c.args.library.now) c.args.tokens.now c.args.site.1 c.args.site.0 c.text_at.result.now None (slice_range c.args.tokens.now c.args.from c.args.site.0.word) c.args.out.now c.put_range.new.out c.put_range.new.out c.text_at.ensures.value c.in-None.ensures.definition c.in_ok-put_range.ensures.adds (adds_none c.put_range.new.out)

pub returns-in-None-clause-len : goal.returns-in-None-clause-len
returns-in-None-clause-len c =
    let many = body_none (definitions c.args.library.now) c.args.tokens.now c.args.site.0 c.text_at.result.now c.text_at.ensures.value c.in-None.ensures.definition c.args.site.1 in
    omega (arith, c.in_ok-put_range.ensures.len)
