use Rattle.std.proofs.Common.{◌≡◌, ◌+◌, ◌<◌, ◌^◌, None, Some, length}
use Rattle.cv_pool.specs.Nodes.{ChildBelow}
use Rattle.cv_syntax_trees.specs.Tree.{size}
use Rattle.cv_syntax.specs.PoolTrees.{tree_at}
use Rattle.cv_syntax.specs.Walks.{above}
use Rattle.cv_query_certificates.specs.Pairs as pairs
use Rattle.cv_query.specs.pairs.Made.{parted}
use Rattle.cv_query.proofs.pairs.ends.parting.Given as goal

abbrev pub invariant-down : goal.invariant-down
invariant-down l = record {
  live : ChildBelow (length l.pool.trees) l.here.at;
  fits : l.here.place + size (tree_at l.pool.trees l.here.at) < 2 ^ 32;
  same : parted l.pool.trees l.here l.p l.q ≡ pairs.parting None 0 (tree_at l.pool.trees (Some l.fn.game)) l.p l.q;
}

abbrev pub decreases-down : goal.decreases-down
decreases-down l = above l.here.at
