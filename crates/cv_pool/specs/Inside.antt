-- What is true of the parts of each pool.
use Rattle.std.specs.Prelude.{[], ◌≡◌, ◌+◌, ◌≤◌, length, vec_capacity}
use Rattle.cv_pool.specs.Chain.{IsChained, buckets, chained}
use Rattle.cv_pool.specs.Nodes.{built, AreDistinct, IsClosed}
use Rattle.cv_pool.specs.declared.pool.Pool.TheInside.{Inside}

-- Each child comes before its node, each tree has one node, each node is in the chain of its bucket,
-- and there is room for the spare nodes, with a bucket for each node.
pub record IsInterned (p : Inside) : Type 0 where
  pub closed : IsClosed 0 p.nodes.items
  pub distinct : AreDistinct (built [] p.nodes.items)
  pub linked : IsChained p.nodes.items p.chains
  pub all : chained p.chains ≡ length p.nodes.items
  pub few : length p.nodes.items + p.spare ≤ p.limit
  pub room : length p.nodes.items + p.spare ≤ vec_capacity p.nodes
  pub links : length p.nodes.items + p.spare ≤ vec_capacity p.chains.nexts
  pub wide : length p.nodes.items + p.spare ≤ buckets p.chains
