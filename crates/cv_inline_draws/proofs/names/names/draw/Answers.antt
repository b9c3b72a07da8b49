use Rattle.std.proofs.Common.{◌∙◌, List, ℕ, ap, arith}
use Rattle.cv_inline.specs.Draws.{drawn_texts}
use Rattle.cv_inline_draws.specs.names.Texts.{texts_at, with_text}
use Rattle.cv_inline_draws.proofs.names.Drawing.{one_more}
use Rattle.cv_inline_draws.proofs.names.names.draw.Goals as goal

pub bases-preserved : goal.bases-preserved
bases-preserved c =
    let all : List (List ℕ) = drawn_texts (texts_at c.args.names.now c.args.taken.now) (texts_at c.args.names.now c.args.bases.now) in
    let next = one_more c.args.names.now c.args.taken.now c.args.bases.now all c.bases.names c.number_of.new.names c.bases.drawn.items c.bases.number c.bases.base-index c.in_ok-free.free.number c.in_ok-number_of.field-0 c.bases.invariant (omega (arith, c.bases-test.true)) c.requires.bases c.requires.taken c.in_ok-free.ensures.number c.in_ok-free.ensures.few (c.in_ok-number_of.ensures.table ∙ ap (with_text c.bases.names) (c.as_str.ensures.value ∙ c.in_ok-free.ensures.text)) (c.in_ok-number_of.ensures.text ∙ (c.as_str.ensures.value ∙ c.in_ok-free.ensures.text)) c.in_ok-number_of.ensures.live c.number_of.ensures.kept c.number_of.ensures.few c.number_of.ensures.more in
    rw c.in_ok-push.ensures.items next
