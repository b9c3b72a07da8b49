use Rattle.std.proofs.Common.{◌≡◌, ◌++◌}
use Rattle.cv_outside.specs.words.sample.Samples.{barred}
use Rattle.cv_outside.proofs.words.sample.samples.push_barred.Given as goal

abbrev pub invariant-pairs : goal.invariant-pairs
invariant-pairs l = l.out.items ≡ l.fn.out.items ++ barred l.k
