use Rattle.std.proofs.Common.{◌-◌}
use Rattle.cv_oracles.specs.Readings.{at_start}
use Rattle.cv_oracles.specs.Translations.{written_from}
use Rattle.cv_oracles.proofs.Putting.{IsPut}
use Rattle.cv_oracles.proofs.write.put_process.Given as goal

abbrev pub invariant-tokens : goal.invariant-tokens
invariant-tokens l = IsPut l.fn.out l.out (written_from l.tokens l.reading l.k (l.to - l.k)) (written_from l.tokens (at_start l.from) l.from (l.to - l.from))
