-- Chains of nodes: those of a bucket, the newest first.
use Rattle.std.specs.Prelude.{ℕ, ◌≡◌, ◌≢◌, ◌+◌, ◌<◌, ◌≤◌, List, length, slice_index_or, None}
use Rattle.cv_pool.specs.Bucket.{bucket}
use Rattle.cv_pool.specs.declared.chains.Chains.{Chains}
use Rattle.cv_pool.specs.declared.node.Entry.{Entry}

-- an entry that stands for none
abbrev pub no_entry : Entry
no_entry = record { kind = record { tag = 0; a = 0; b = 0 }; first = None; second = None }

-- the bucket of the node at a number, out of so many
abbrev pub bucket_at : ℕ → List Entry → ℕ → ℕ
bucket_at buckets nodes k = bucket buckets (slice_index_or nodes k no_entry)

-- among so many nodes, those of a bucket come up to here: no newer one is of it, and the one just before is
pub record IsNewest (bucket_of : ℕ → ℕ) (count bucket here : ℕ) : Type 0 where
  pub few : here ≤ count
  pub none : (k : ℕ) → here ≤ k → k < count → bucket_of k ≢ bucket
  pub there : (k : ℕ) → here ≡ k + 1 → bucket_of k ≡ bucket

-- each bucket has its newest node, and each node the one before it in its bucket
pub record AreLinked (bucket_of : ℕ → ℕ) (heads nexts : List ℕ) : Type 0 where
  pub newest : (b : ℕ) → b < length heads → IsNewest bucket_of (length nexts) b (slice_index_or heads b 0)
  pub before : (k : ℕ) → k < length nexts → IsNewest bucket_of k (bucket_of k) (slice_index_or nexts k 0)

-- how many nodes are in the chains
abbrev pub chained : Chains → ℕ
chained c = length c.nexts.items

-- how many buckets there are
abbrev pub buckets : Chains → ℕ
buckets c = length c.heads.items

-- the first of these nodes are in the chains of their buckets
abbrev pub IsChained : List Entry → Chains → Type 0
IsChained nodes c = AreLinked (bucket_at (buckets c) nodes) c.heads.items c.nexts.items
