use Rattle.std.proofs.Common.{◌≡◌, drop}
use Rattle.cv_library.specs.Expansions.{first_fault}
use Rattle.cv_library.specs.Views.{definitions}
use Rattle.cv_library.proofs.expansion.first_fault.Given as goal

abbrev pub invariant-uses : goal.invariant-uses
invariant-uses l = first_fault (definitions l.library) l.tokens (drop l.it-index l.uses) ≡ first_fault (definitions l.library) l.tokens l.uses
