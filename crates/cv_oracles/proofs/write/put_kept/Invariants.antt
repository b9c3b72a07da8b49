use Rattle.std.proofs.Common.{◌-◌}
use Rattle.cv_oracles.specs.Translations.{kept_from}
use Rattle.cv_oracles.proofs.Putting.{IsPut}
use Rattle.cv_oracles.proofs.write.put_kept.Given as goal

abbrev pub invariant-tokens : goal.invariant-tokens
invariant-tokens l = IsPut l.fn.out l.out (kept_from l.region l.tokens l.k (l.to - l.k)) (kept_from l.region l.tokens l.from (l.to - l.from))
