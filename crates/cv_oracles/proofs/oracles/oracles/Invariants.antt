use Rattle.cv_oracles.proofs.Walking.{AreFound}
use Rattle.cv_oracles.proofs.oracles.oracles.Given as goal

abbrev pub invariant-tokens : goal.invariant-tokens
invariant-tokens l = AreFound l.tokens l.from l.to l.reading l.found.items l.names l.k
