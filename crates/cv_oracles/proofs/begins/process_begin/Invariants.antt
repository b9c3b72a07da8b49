use Rattle.std.proofs.Common.{◌≡◌, ◌+◌, ◌-◌, ◌<◌, ◌≤◌, drop, length}
use Rattle.cv_oracles.specs.Translations.{process_at, process_from}
use Rattle.cv_oracles.proofs.begins.process_begin.Given as goal

abbrev pub invariant-tokens : goal.invariant-tokens
invariant-tokens l = record { rest : process_from l.depth l.k (drop l.k l.tokens) ≡ process_at l.tokens l.from; after : l.from ≤ l.k; within : l.k < length l.tokens; depth : l.depth + l.from ≤ l.k }

abbrev pub decreases-tokens : goal.decreases-tokens
decreases-tokens l = length l.tokens - l.k
