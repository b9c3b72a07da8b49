use Rattle.std.proofs.Common.{◌+◌, ◌-◌, ◌++◌, ap, sym, ◌∙◌, subst, arith}
use Rattle.cv_library.specs.Written.{Adds}
use Rattle.cv_oracles.specs.Pieces.{written_for}
use Rattle.cv_oracles.specs.Readings.{behind}
use Rattle.cv_oracles.specs.Steps.{step}
use Rattle.cv_oracles.specs.Translations.{written_at, written_from}
use Rattle.cv_oracles.proofs.Putting.{put_more, put_over, written_more, written_none}
use Rattle.cv_oracles.proofs.write.put_process.Goals as goal

pub tokens-preserved : goal.tokens-preserved
tokens-preserved c =
    let ts = c.args.tokens.now in
    let r = c.tokens.reading in
    let k = c.tokens.k in
    let to = c.args.to in
    let form = c.in_ok-form.ensures.form ∙ (λ i. (step r.mode (c.kind_at.ensures i) (c.text_at.ensures i) (c.text_at-next.ensures i)).0) in
    let reading = c.in_ok-form.ensures.reading ∙ (λ i. behind r (c.kind_at.ensures i) (c.text_at.ensures i) (c.text_at-next.ensures i) k) in
    put_more c.args.out.now c.tokens.out c.put_form.new.out _ _ _ _ c.tokens.invariant
    (written_more ts r k to (omega (arith, c.tokens-test.true)) ∙ ap (λ s. written_at ts r k ++ written_from ts s (k + 1) (to - (k + 1))) (sym reading))
    (subst (λ f. Adds c.tokens.out (written_for ts r.oracle k f) c.put_form.new.out) form c.in_ok-put_form.ensures)

pub returns : goal.returns
returns c = put_over c.args.out.now c.tokens.out _ _ c.tokens.invariant (written_none c.args.tokens.now c.tokens.reading c.tokens.k c.args.to (omega (arith, c.tokens-test.false)))
