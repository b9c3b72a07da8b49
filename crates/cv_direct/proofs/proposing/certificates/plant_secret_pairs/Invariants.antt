use Rattle.std.proofs.Common.{ℕ, ◌≤◌, length}
use Rattle.std.specs.Prelude.{All}
use Rattle.cv_pool.specs.PoolView.{Grows}
use Rattle.cv_step_writer.specs.Certificates.{IsSecretPairBelow}
use Rattle.cv_direct.proofs.proposing.certificates.plant_secret_pairs.Given as goal

abbrev pub invariant-loop-pair : goal.invariant-loop-pair
invariant-loop-pair l = record {
  below : (n : ℕ) → length l.pool.trees ≤ n → All (IsSecretPairBelow n) l.list.items;
  grows : Grows l.fn.pool l.pool;
}
