use Rattle.std.proofs.Common.{false}
use Rattle.cv_parse_terms.proofs.Entries.{enters}
use Rattle.cv_parse_terms.proofs.phrases.enter.Goals as goal

pub returns : goal.returns
returns c = enters false c.args.signs.now c.enter_with_names.result c.args.trail.now c.enter_with_names.new.trail c.new-names.result.items c.enter_with_names.new.names.items c.args.depth c.args.row c.args.at c.new-names.ensures.items c.enter_with_names.ensures
