use Rattle.std.proofs.Common.{ℕ, ◌≤◌, length}
use Rattle.std.specs.Prelude.{All}
use Rattle.cv_pool.specs.PoolView.{Grows}
use Rattle.cv_step_writer.specs.Certificates.{IsRouteBelow}
use Rattle.cv_direct.proofs.proposing.certificates.plant_routes.Given as goal

abbrev pub invariant-loop-route : goal.invariant-loop-route
invariant-loop-route l = record {
  below : (n : ℕ) → length l.pool.trees ≤ n → All (IsRouteBelow n) l.list.items;
  grows : Grows l.fn.pool l.pool;
}
