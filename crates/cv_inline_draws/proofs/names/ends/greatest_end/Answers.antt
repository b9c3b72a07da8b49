use Rattle.std.proofs.Common.{◌≡◌, ◌+◌, ◌∙◌, ap, max, drop, arith}
use Rattle.cv_inline.specs.Draws.{end_number, greatest_end}
use Rattle.cv_inline_draws.specs.names.Texts.{texts_at}
use Rattle.cv_inline_draws.proofs.names.Numbers.{greatest_more}
use Rattle.cv_inline_draws.proofs.names.ends.greatest_end.Goals as goal

pub loop-x-preserved : goal.loop-x-preserved
loop-x-preserved c =
    let names = c.args.names.now in
    let taken = c.args.taken.now in
    let e : c.larger-greatest.result ≡ max c.loop-x.greatest (end_number c.text-text.result.now) = c.larger-greatest.ensures ∙ ap (λ n. max c.loop-x.greatest n) (c.end_number.ensures.value ∙ ap end_number c.as_bytes.ensures.value) in
    record {
      greatest = ap (λ g. max g (greatest_end (texts_at names (drop (c.loop-x.x-index + 1) taken)))) e ∙ (greatest_more names taken c.loop-x.x-index c.loop-x.greatest c.text-text.result.now (omega (arith, c.loop-x-test.true)) c.text-text.ensures ∙ c.loop-x.invariant.greatest);
      few = omega (arith, c.larger-greatest.ensures, c.end_number.ensures.few, c.loop-x.invariant.few);
    }
