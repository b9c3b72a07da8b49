use Rattle.std.proofs.Common.{ℕ, ◌≡◌, ◌≢◌, ◌+◌, ◌≤◌, length, Some, slice_get}
use Rattle.cv_pool.specs.Bucket.{bucket}
use Rattle.cv_pool.specs.Chain.{bucket_at, buckets}
use Rattle.cv_pool.proofs.chains.Chains.find.Given as goal

abbrev pub invariant-chain : goal.invariant-chain
invariant-chain l = record {
  few : l.here ≤ length l.nodes;
  there : (k : ℕ) → l.here ≡ k + 1 → bucket_at (buckets l.self) l.nodes k ≡ bucket (buckets l.self) l.entry;
  none : (k : ℕ) → l.here ≤ k → slice_get l.nodes k ≢ Some l.entry;
}

abbrev pub decreases-chain : goal.decreases-chain
decreases-chain l = l.here
