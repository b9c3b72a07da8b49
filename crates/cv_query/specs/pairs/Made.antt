-- The way down to two places, and the lists that were made to test a pair.
use Rattle.std.specs.Prelude.{ℕ, List, Option}
use Rattle.cv_pool.specs.KindTree.{KindTree}
use Rattle.cv_pool.specs.Nodes.{ChildBelow}
use Rattle.cv_syntax.specs.PoolTrees.{tree_at}
use Rattle.cv_query_certificates.specs.Pairs.{parting}
use Rattle.cv_query.specs.declared.pairs.ends.Descent.{Descent}
use Rattle.cv_query.specs.declared.pairs.ends.Made.{Made}

-- where the places part
abbrev pub parted : List KindTree → Descent → (p q : ℕ) → Option ℕ
parted trees d p q = parting d.construct d.place (tree_at trees d.at) p q

-- the nodes of the lists are below a number
pub record IsMadeBelow (n : ℕ) (m : Made) : Type 0 where
  pub given : ChildBelow n m.given
  pub raised : ChildBelow n m.raised
  pub same : ChildBelow n m.same
  pub others : ChildBelow n m.others
  pub by : ChildBelow n m.by
