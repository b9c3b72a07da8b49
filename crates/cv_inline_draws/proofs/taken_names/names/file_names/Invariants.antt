use Rattle.std.proofs.Common.{◌≡◌}
use Rattle.cv_meaning.specs.Candidates.{below}
use Rattle.cv_inline_draws.proofs.taken_names.names.file_names.Given as goal

abbrev pub invariant-loop-name : goal.invariant-loop-name
invariant-loop-name l = l.names.items ≡ below l.name
