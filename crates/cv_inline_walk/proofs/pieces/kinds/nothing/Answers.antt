use Rattle.cv_inline_walk.proofs.pieces.ByKind.{nothing_added}
use Rattle.cv_inline_walk.proofs.pieces.kinds.nothing.Goals as goal

pub returns : goal.returns
returns c = nothing_added c.args.pieces.now.items c.push.new.self.items c.in_ok-push.ensures.items
