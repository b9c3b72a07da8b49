use Rattle.cv_settling_overview.proofs.Keeping.{nothing_known}
use Rattle.cv_settling_overview.proofs.facts.Facts.new.Goals as goal

pub returns : goal.returns
returns c = λ trees. nothing_known trees _ _ _ _ c.new-4.ensures.items c.new.ensures.items c.new-2.ensures.items c.new-3.ensures
