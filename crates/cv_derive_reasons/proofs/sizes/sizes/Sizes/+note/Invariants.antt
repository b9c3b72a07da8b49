use Rattle.std.proofs.Common.{◌≡◌, ◌+◌, Some}
use Rattle.cv_pool.specs.Nodes.{ChildBelow}
use Rattle.cv_syntax_trees.specs.Tree as tree
use Rattle.cv_syntax.specs.PoolTrees.{tree_at}
use Rattle.cv_syntax.specs.Walks.{above}
use Rattle.cv_derive_reasons.specs.sizes.Sizes.{AreSizes}
use Rattle.cv_derive_reasons.proofs.sizes.sizes.Sizes.+note.Given as goal

abbrev pub decreases-note : goal.decreases-note
decreases-note l = l.n.0

abbrev pub decreases-chain : goal.decreases-chain
decreases-chain l = above l.at

abbrev pub invariant-chain : goal.invariant-chain
invariant-chain l = record {
  below : ChildBelow (l.fn.n.0 + 1) l.at;
  total : l.total + tree.size (tree_at l.pool.trees l.at) ≡ tree.size (tree_at l.pool.trees (Some l.fn.n));
  sizes : AreSizes l.pool.trees l.self;
}
