-- The bucket in which a node is looked for.
use Rattle.std.specs.Prelude.{ℕ, ◌+◌, ◌*◌, ◌%◌, ◌^◌, Option, Some, None}
use Rattle.cv_pool.specs.declared.bucket.TheConstants.{TAG_WEIGHT, A_WEIGHT, B_WEIGHT, FIRST_WEIGHT, SECOND_WEIGHT}
use Rattle.cv_pool.specs.declared.node.Entry.{Entry}
use Rattle.cv_pool.specs.declared.node.NodeId.{NodeId}

-- how many nodes there are up to a child, or 0
abbrev pub past : Option NodeId → ℕ
past None = 0
past (Some n) = n.0 + 1

-- a number that mostly tells a node from others
abbrev pub spread : Entry → ℕ
spread e =
    e.kind.tag * TAG_WEIGHT + e.kind.a * A_WEIGHT + e.kind.b * B_WEIGHT + past e.first * FIRST_WEIGHT + past e.second * SECOND_WEIGHT

-- the bucket of a node, out of so many
abbrev pub bucket : ℕ → Entry → ℕ
bucket buckets e = spread e % 2 ^ 32 % buckets
