use Rattle.cv_directory.specs.Tables.{entries_in}
use Rattle.cv_derive_reasons.proofs.cells.Rows.{not_placed, placed_once}
use Rattle.cv_derive_reasons.proofs.cells.variables.only_definition.Goals as goal

pub returns-then-count-ne1 : goal.returns-then-count-ne1
returns-then-count-ne1 c trees = not_placed (entries_in trees c.args.directory.now) c.args.x c.count.result (c.count.ensures trees) c.if-count-ne1.true

pub returns : goal.returns
returns c trees = placed_once (entries_in trees c.args.directory.now) c.args.x c.count.result (c.count.ensures trees) c.if-count-ne1.false c.place.result (c.place.ensures trees)
