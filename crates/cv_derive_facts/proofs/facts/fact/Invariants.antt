use Rattle.std.proofs.Common.{◌≡◌, ◌+◌, ◌≤◌, ◌++◌, List, Some, length}
use Rattle.std.specs.Prelude.{option_map}
use Rattle.cv_pool.specs.Nodes.{ChildBelow}
use Rattle.cv_syntax_trees.specs.Tree.{size}
use Rattle.cv_syntax.specs.PoolTrees.{tree_at}
use Rattle.cv_syntax.specs.Walks.{above}
use Rattle.cv_scope_rules.specs.Context.{Context}
use Rattle.cv_derive_facts.specs.Facts.{FactAt, facts_at, facts_from}
use Rattle.cv_derive_facts.specs.Walks.{Counts, IsLive, Tests}
use Rattle.cv_derive_facts.proofs.facts.fact.Given as goal

abbrev pub invariant-down : goal.invariant-down
invariant-down l = record {
  live : ChildBelow (l.fn.game.root.0 + 1) l.walk.at;
  tested : ChildBelow (length l.work.pool.trees) l.walk.tested;
  within : l.walk.above + size (tree_at l.work.pool.trees l.walk.at) ≤ size (tree_at l.work.pool.trees (Some l.fn.game.root));
  context : Context;
  tests : Tests l.work.pool.trees context l.walk.tested l.walk.above;
  passed : List FactAt;
  counts : Counts l.work.pool.trees l.fn.k passed l.count;
  kept : IsLive (length l.work.pool.trees) l.count.fact;
  same : option_map (λ fs. passed ++ fs) (facts_from l.walk.position context (tree_at l.work.pool.trees l.walk.at) l.walk.left) ≡ facts_at (tree_at l.work.pool.trees (Some l.fn.game.root)) l.fn.place;
}

abbrev pub decreases-down : goal.decreases-down
decreases-down l = above l.walk.at
