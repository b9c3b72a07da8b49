use Rattle.std.proofs.Common.{◌≡◌, ◌≤◌, length}
use Rattle.cv_pool.specs.Nodes.{ChildBelow}
use Rattle.cv_syntax.specs.PoolTrees.{tree_at}
use Rattle.cv_syntax.specs.Walks.{above}
use Rattle.cv_group_rules.specs.Rules as rule
use Rattle.cv_group.proofs.shapes.shapes.+have_one_index.Given as goal

abbrev pub decreases-have_one_index : goal.decreases-have_one_index
decreases-have_one_index l = above l.part

abbrev pub invariant-chain : goal.invariant-chain
invariant-chain l = record {
  live : ChildBelow (length l.pool.trees) l.at;
  same : rule.have_one_index (tree_at l.pool.trees l.at) ≡ rule.have_one_index (tree_at l.pool.trees l.fn.part);
  less : above l.at ≤ above l.fn.part;
}

abbrev pub decreases-chain : goal.decreases-chain
decreases-chain l = above l.at
