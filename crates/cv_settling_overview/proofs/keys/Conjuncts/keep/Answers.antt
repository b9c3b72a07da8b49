use Rattle.std.proofs.Common.{sym, subst}
use Rattle.cv_settling_overview.specs.Keys.{AreKeysPlaced}
use Rattle.cv_settling_overview.proofs.Placing.{placed_front}
use Rattle.cv_settling_overview.proofs.keys.Conjuncts.keep.Goals as goal

pub invariant_of-self : goal.invariant_of-self
invariant_of-self c = subst (λ l. AreKeysPlaced l c.self.inside.places) (sym c.truncate.ensures.items) (placed_front c.args.count c.self.inside.list.items c.self.inside.places c.self.invariant)
