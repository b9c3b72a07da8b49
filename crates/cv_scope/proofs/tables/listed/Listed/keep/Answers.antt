use Rattle.std.proofs.Common.{sym, subst}
use Rattle.cv_scope.specs.tables.Ordered.{AreNumbersPlaced}
use Rattle.cv_scope.proofs.tables.Listing.{placed_front}
use Rattle.cv_scope.proofs.tables.listed.Listed.keep.Goals as goal

pub invariant_of-self : goal.invariant_of-self
invariant_of-self c = subst (λ l. AreNumbersPlaced l c.self.inside.places) (sym c.truncate.ensures.items) (placed_front c.args.n c.self.inside.list.items c.self.inside.places c.self.invariant)
