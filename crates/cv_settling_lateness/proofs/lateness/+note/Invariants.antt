use Rattle.std.proofs.Common.{◌≡◌, ◌+◌, ◌≤◌, ◌++◌, Some}
use Rattle.cv_syntax.specs.PoolTrees.{tree_at}
use Rattle.cv_syntax.specs.Walks.{above}
use Rattle.cv_syntax_trees.specs.Tree.{size}
use Rattle.cv_settling_lateness.specs.Defining.{definitions}
use Rattle.cv_settling_lateness.specs.Standing.{AreSizes}
use Rattle.cv_settling_lateness.proofs.lateness.+note.Given as goal

abbrev pub decreases-note : goal.decreases-note
decreases-note l = l.start.0

abbrev pub invariant-chain : goal.invariant-chain
invariant-chain l = record {
  below : above l.at ≤ l.fn.start.0 + 1;
  begun : l.place ≤ l.here;
  total : l.here + size (tree_at l.pool.trees l.at) ≡ l.place + size (tree_at l.pool.trees (Some l.fn.start));
  definitions : l.definitions.list.items ++ definitions l.here (tree_at l.pool.trees l.at) ≡ l.fn.definitions.list.items ++ definitions l.place (tree_at l.pool.trees (Some l.fn.start));
  sizes : AreSizes l.pool.trees l.sizes;
}

abbrev pub decreases-chain : goal.decreases-chain
decreases-chain l = above l.at
