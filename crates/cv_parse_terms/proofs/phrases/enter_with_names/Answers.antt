use Rattle.std.proofs.Common.{false}
use Rattle.cv_parse_terms.proofs.Entries.{enters_table}
use Rattle.cv_parse_terms.proofs.phrases.enter_with_names.Goals as goal

pub returns : goal.returns
returns c = enters_table false c.table.result c.args.depth c.args.row c.args.signs.now c.read_table.result c.read_table.new.trail c.read_table.new.names.items _ c.table.ensures c.read_table.ensures
