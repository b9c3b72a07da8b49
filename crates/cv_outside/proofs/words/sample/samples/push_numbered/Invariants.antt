use Rattle.std.proofs.Common.{◌≡◌, ◌++◌, take, flat_map}
use Rattle.cv_outside.specs.words.sample.Samples.{mark_of}
use Rattle.cv_outside.proofs.words.sample.samples.push_numbered.Given as goal

abbrev pub invariant-marks : goal.invariant-marks
invariant-marks l = l.out.items ≡ l.fn.out.items ++ flat_map (mark_of l.fn.number) (take l.k l.text)
