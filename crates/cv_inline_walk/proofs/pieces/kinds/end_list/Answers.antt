use Rattle.std.proofs.Common.{◌+◌, arith}
use Rattle.cv_inline_walk.proofs.pieces.ByKind.{item_more, items_all}
use Rattle.cv_inline_walk.proofs.pieces.kinds.end_list.Goals as goal

pub items-init : goal.items-init
items-init c = c.in_ok-nothing.ensures

pub items-preserved : goal.items-preserved
items-preserved c = item_more c.args.pieces.now.items c.items.pieces.items c.put.new.pieces.items c.items._item (c.items._item + 1) (omega arith) c.items.invariant c.in_ok-put.ensures

pub returns : goal.returns
returns c = items_all c.args.pieces.now.items c.items.pieces.items c.items._item c.args.many (omega arith) c.items.invariant
