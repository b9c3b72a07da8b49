use Rattle.std.proofs.Common.{◌≡◌, reverse, take}
use Rattle.cv_inline.specs.terms.Stacks.{stack}
use Rattle.cv_inline_measure.specs.Counts.{counts_of}
use Rattle.cv_inline_measure.proofs.parts.extent_of.Given as goal

abbrev pub invariant-parts : goal.invariant-parts
invariant-parts l = reverse l.counts.items ≡ counts_of l.measure (stack (take l.part-index l.parts))
