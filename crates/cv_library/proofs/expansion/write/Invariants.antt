use Rattle.std.proofs.Common.{◌≡◌, ◌+◌}
use Rattle.cv_lex.specs.View.{token_at}
use Rattle.cv_library.specs.Views.{definitions}
use Rattle.cv_library.proofs.Expanding.{IsPut}
use Rattle.cv_library.proofs.expansion.write.Given as goal

abbrev pub invariant-uses : goal.invariant-uses
invariant-uses l = record { put : IsPut (definitions l.library) l.tokens l.uses (token_at l.tokens l.last).offset l.out l.from l.it-index; number : l.number ≡ l.it-index + 1 }
