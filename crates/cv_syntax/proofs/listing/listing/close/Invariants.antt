use Rattle.std.proofs.Common.{◌≡◌, ◌++◌, length, map, reverse}
use Rattle.cv_syntax.specs.declared.make.Make.TheVariants as make
use Rattle.cv_syntax.proofs.listing.listing.close.Given as goal

abbrev pub invariant-up : goal.invariant-up
invariant-up l = l.makes.items ++ map make.Over (reverse l.left.items) ≡ l.fn.makes.items ++ map make.Over (reverse l.fn.heads.items)

abbrev pub decreases-up : goal.decreases-up
decreases-up l = length l.left.items
