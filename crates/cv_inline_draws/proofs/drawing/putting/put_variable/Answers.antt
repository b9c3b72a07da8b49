use Rattle.cv_inline.specs.terms.Drawings.{drawn_in}
use Rattle.cv_inline_draws.proofs.drawing.Puts.{variable_more}
use Rattle.cv_inline_draws.proofs.drawing.putting.put_variable.Goals as goal

pub returns : goal.returns
returns c = variable_more (drawn_in c.args.drawing.now) c.args.drawing.now.variables c.insert.new.self c.args.site c.args.x c.args.name c.in_ok-insert.ensures.updates
