use Rattle.cv_inline.specs.terms.Drawings.{drawn_in}
use Rattle.cv_inline_draws.proofs.drawing.Filled.{filled}
use Rattle.cv_inline_draws.proofs.drawing.filling.drawing_of.Goals as goal

pub returns : goal.returns
returns c =
    filled c.args.draws.now c.args.names.now c.args.finds.now c.args.labels.now (drawn_in c.empty-drawing.result) (drawn_in c.put_names.new.drawing) (drawn_in c.put_labels.new.drawing) c.empty-drawing.ensures c.in_ok-put_names.ensures c.in_ok-put_labels.ensures
