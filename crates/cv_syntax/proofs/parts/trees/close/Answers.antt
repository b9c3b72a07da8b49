use Rattle.cv_syntax.proofs.parts.Making.{closing_goes}
use Rattle.cv_syntax.proofs.parts.trees.close.Goals as goal

pub heads-preserved : goal.heads-preserved
heads-preserved c = closing_goes c.heads.open.items c.pop.new.self.items c.in-Some.head c.heads.makes.items c.push.new.self.items _ c.in-Some.ensures.items c.heads.invariant c.in_ok-push.ensures.items
