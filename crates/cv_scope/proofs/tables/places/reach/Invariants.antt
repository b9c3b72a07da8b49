use Rattle.std.proofs.Common.{◌≡◌, ℕ, ◌+◌, ◌-◌, length}
use Rattle.cv_scope.specs.tables.Places.{row_at}
use Rattle.cv_scope.proofs.tables.places.reach.Given as goal

abbrev pub invariant-rows : goal.invariant-rows
invariant-rows l = record {
  same : (y : ℕ) → row_at l.rows.items y ≡ row_at l.fn.rows.items y;
}

abbrev pub decreases-rows : goal.decreases-rows
decreases-rows l = l.x + 1 - length l.rows.items
