use Rattle.std.proofs.Common.{◌≡◌, ◌-◌, ◌<◌, drop, length}
use Rattle.cv_oracles.specs.Translations.{declarations_end, declarations_end_from}
use Rattle.cv_oracles.proofs.begins.declarations_end.Given as goal

abbrev pub invariant-tokens : goal.invariant-tokens
invariant-tokens l = record { rest : declarations_end_from l.k (drop l.k l.tokens) ≡ declarations_end l.tokens; within : l.k < length l.tokens }

abbrev pub decreases-tokens : goal.decreases-tokens
decreases-tokens l = length l.tokens - l.k
