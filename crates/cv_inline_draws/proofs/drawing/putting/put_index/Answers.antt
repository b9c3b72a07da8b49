use Rattle.cv_inline.specs.terms.Drawings.{drawn_in}
use Rattle.cv_inline_draws.proofs.drawing.Puts.{index_more}
use Rattle.cv_inline_draws.proofs.drawing.putting.put_index.Goals as goal

pub returns : goal.returns
returns c = index_more (drawn_in c.args.drawing.now) c.args.drawing.now.indices c.insert.new.self c.args.index c.args.name c.in_ok-insert.ensures.updates
