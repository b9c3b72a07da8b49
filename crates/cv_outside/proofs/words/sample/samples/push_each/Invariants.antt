use Rattle.std.proofs.Common.{◌≡◌, ◌++◌}
use Rattle.cv_outside.specs.words.sample.Samples.{each}
use Rattle.cv_outside.proofs.words.sample.samples.push_each.Given as goal

abbrev pub invariant-numbers : goal.invariant-numbers
invariant-numbers l = l.out.items ≡ l.fn.out.items ++ each l.text l.k
