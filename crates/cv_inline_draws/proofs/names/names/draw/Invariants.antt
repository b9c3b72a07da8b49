use Rattle.cv_inline.specs.Draws.{drawn_texts}
use Rattle.cv_inline_draws.specs.names.Texts.{texts_at}
use Rattle.cv_inline_draws.proofs.names.Drawing.{HasDrawn}
use Rattle.cv_inline_draws.proofs.names.names.draw.Given as goal

abbrev pub invariant-bases : goal.invariant-bases
invariant-bases l =
    HasDrawn l.fn.names l.taken l.bases (drawn_texts (texts_at l.fn.names l.taken) (texts_at l.fn.names l.bases)) l.names l.drawn.items l.number l.base-index
