use Rattle.std.proofs.Common.{arith}
use Rattle.cv_parse_names.proofs.Places.{entry_reached}
use Rattle.cv_parse_names.proofs.table.reach.Goals as goal

pub returns-in_ok-resize-clause-same : goal.returns-in_ok-resize-clause-same
returns-in_ok-resize-clause-same c x = entry_reached _ _ _ _ x c.unseen.result (omega arith) c.unseen.ensures c.in_ok-resize.ensures.items
