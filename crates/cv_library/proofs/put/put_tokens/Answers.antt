use Rattle.std.proofs.Common.{◌≡◌, ◌+◌, map, subst, arith}
use Rattle.std.specs.Prelude.{slice_range}
use Rattle.cv_library.specs.Expansions.{put_for}
use Rattle.cv_library.specs.Written.{Adds}
use Rattle.cv_library.proofs.Putting.{body_put_more, body_put_none}
use Rattle.cv_library.proofs.put.put_tokens.Goals as goal

pub body-init : goal.body-init
body-init c = body_put_none c.args.tokens.now c.args.site.1 c.args.site.0 c.args.parameters.now c.args.body.now c.args.out.now (c.args.place.brace + 1)

pub put_replaced-requires-clause-room : goal.put_replaced-requires-clause-room
put_replaced-requires-clause-room c = omega (arith, c.body.invariant.len, c.requires.room)

pub body-preserved : goal.body-preserved
body-preserved c =
    body_put_more c.args.tokens.now c.args.site.1 c.args.site.0 c.args.parameters.now c.args.body.now c.args.out.now (c.args.place.brace + 1) c.body.k c.body.out c.put_replaced.new.out c.body.invariant (omega arith) (omega (arith, c.requires.place.last)) c.in_ok-put_replaced.ensures.adds c.in_ok-put_replaced.ensures.len

pub returns-clause-adds : goal.returns-clause-adds
returns-clause-adds c =
    let end : c.body.k ≡ c.args.place.end = omega (arith, c.requires.place.body) in
    subst (λ k. Adds c.args.out.now (map (put_for c.args.tokens.now c.args.site.1 c.args.site.0 c.args.parameters.now) (slice_range c.args.body.now (c.args.place.brace + 1) k)) c.body.out) end c.body.invariant.adds

pub returns-clause-len : goal.returns-clause-len
returns-clause-len c = omega (arith, c.body.invariant.len, c.requires.place.body)
