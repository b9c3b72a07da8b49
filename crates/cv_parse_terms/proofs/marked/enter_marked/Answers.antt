use Rattle.std.proofs.Common.{true}
use Rattle.cv_parse_terms.proofs.Entries.{enters, enters_table}
use Rattle.cv_parse_terms.proofs.marked.enter_marked.Goals as goal

pub returns : goal.returns
returns c =
    enters true c.args.signs.now c.read_table.result c.args.trail.now c.read_table.new.trail c.new-names.result.items c.read_table.new.names.items c.args.depth c.args.row c.args.at c.new-names.ensures.items
    (enters_table true c.marked_table-rows.result c.args.depth c.args.row c.args.signs.now c.read_table.result c.read_table.new.trail c.read_table.new.names.items _ c.marked_table-rows.ensures c.read_table.ensures)
