use Rattle.std.proofs.Common.{◌≡◌, ℕ, ◌+◌, ◌-◌, length}
use Rattle.cv_scope.specs.Held.{last_at}
use Rattle.cv_scope.proofs.lasts.reach.Given as goal

abbrev pub invariant-names : goal.invariant-names
invariant-names l = record {
  same : (y : ℕ) → last_at l.sites.items y ≡ last_at l.fn.sites.items y;
}

abbrev pub decreases-names : goal.decreases-names
decreases-names l = l.x + 1 - length l.sites.items
