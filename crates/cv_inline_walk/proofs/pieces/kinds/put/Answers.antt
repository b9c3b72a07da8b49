use Rattle.cv_inline_walk.proofs.pieces.ByKind.{node_put}
use Rattle.cv_inline_walk.proofs.pieces.kinds.put.Goals as goal

pub returns : goal.returns
returns c = node_put c.args.pieces.now.items c.push.new.self.items c.args.head c.in_ok-push.ensures.items
