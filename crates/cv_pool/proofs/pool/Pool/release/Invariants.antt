use Rattle.std.proofs.Common.{◌≡◌, ◌≤◌, length, take}
use Rattle.cv_pool.proofs.pool.Pool.release.Given as goal

abbrev pub invariant-newest : goal.invariant-newest
invariant-newest l = record {
  kept : take l.m.0 l.self.trees ≡ take l.m.0 l.fn.self.trees;
  there : l.m.0 ≤ length l.self.trees;
  limit : l.self.limit ≡ l.fn.self.limit;
  spare : l.fn.self.spare ≤ l.self.spare;
}

abbrev pub decreases-newest : goal.decreases-newest
decreases-newest l = length l.self.trees
