use Rattle.std.proofs.Common.{◌≡◌, ◌++◌, ℕ, List, drop, map}
use Rattle.std.specs.List.{All}
use Rattle.cv_pool.specs.KindTree.{KindTree}
use Rattle.cv_context.specs.nodes.Calls.{IsLive}
use Rattle.cv_context.specs.Roles.{IsLiveCall, reads_at, reads_of}
use Rattle.cv_context.proofs.calls.calls_of.Given as goal

abbrev pub invariant-sites : goal.invariant-sites
invariant-sites l = record {
  same : (trees : List KindTree) → map (reads_at trees) l.calls.items ++ map (reads_of trees) (drop l.k l.sites) ≡ map (reads_of trees) l.sites;
  live : (n : ℕ) → All (IsLiveCall n) l.sites → All (IsLive n) l.calls.items;
}
