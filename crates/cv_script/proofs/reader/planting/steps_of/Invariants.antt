use Rattle.std.proofs.Common.{◌≡◌, ◌++◌, ◌<◌, length}
use Rattle.std.specs.Prelude.{All}
use Rattle.cv_pool.specs.Nodes.{ChildBelow}
use Rattle.cv_syntax.specs.PoolTrees.{tree_at}
use Rattle.cv_syntax.specs.Walks.{above}
use Rattle.cv_script.specs.reader.Scripts.{items, trees_of}
use Rattle.cv_script.proofs.reader.planting.steps_of.Given as goal

abbrev pub invariant-items : goal.invariant-items
invariant-items l = record {
  live : ChildBelow (length l.pool.trees) l.at;
  below : All (λ s. s.0.0 < length l.pool.trees) l.steps.items;
  trees : trees_of l.pool.trees l.steps.items ++ items (tree_at l.pool.trees l.at) ≡ items (tree_at l.pool.trees l.fn.list);
}

abbrev pub decreases-items : goal.decreases-items
decreases-items l = above l.at
