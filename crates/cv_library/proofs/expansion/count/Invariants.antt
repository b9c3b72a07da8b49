use Rattle.cv_library.specs.Views.{definitions}
use Rattle.cv_library.proofs.Expanding.{IsCounted}
use Rattle.cv_library.proofs.expansion.count.Given as goal

abbrev pub invariant-uses : goal.invariant-uses
invariant-uses l = IsCounted (definitions l.library) l.tokens l.uses l.count l.from l.it-index
