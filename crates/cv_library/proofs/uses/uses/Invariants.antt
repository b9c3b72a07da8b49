use Rattle.std.proofs.Common.{◌-◌, length}
use Rattle.cv_library.proofs.UseWalk.{AreUsed}
use Rattle.cv_library.proofs.uses.uses.Given as goal

abbrev pub invariant-tokens : goal.invariant-tokens
invariant-tokens l = AreUsed l.tokens l.found.items l.looking l.at

abbrev pub decreases-tokens : goal.decreases-tokens
decreases-tokens l = length l.tokens - l.at
