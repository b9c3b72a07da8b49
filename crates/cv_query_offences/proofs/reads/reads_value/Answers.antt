use Rattle.cv_query_offences.proofs.Walks.{cell_unread, other_unread}
use Rattle.cv_query_offences.proofs.reads.reads_value.Goals as goal

pub returns-then-is_cell : goal.returns-then-is_cell
returns-then-is_cell c = cell_unread c.args.position c.args.head c.args.names.now c.is_cell.result c.is_cell.ensures c.if-is_cell.true

pub returns-in_default : goal.returns-in_default
returns-in_default c = other_unread c.args.position c.args.head c.args.names.now c.in_default.not-Leaf c.in_default.not-Read
