use Rattle.cv_inline.specs.terms.Drawings.{drawn_in}
use Rattle.cv_inline_draws.proofs.drawing.Puts.{label_more}
use Rattle.cv_inline_draws.proofs.drawing.putting.put_label.Goals as goal

pub returns : goal.returns
returns c = label_more (drawn_in c.args.drawing.now) c.args.drawing.now.labels c.insert.new.self c.args.find c.args.label c.in_ok-insert.ensures.updates
