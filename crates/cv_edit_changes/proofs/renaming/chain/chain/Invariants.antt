use Rattle.std.proofs.Common.{length}
use Rattle.cv_pool.specs.Nodes.{ChildBelow}
use Rattle.cv_syntax.specs.Walks.{above}
use Rattle.cv_edit_changes.specs.renaming.Chains.{IsChain}
use Rattle.cv_edit_changes.proofs.renaming.chain.chain.Given as goal

abbrev pub decreases-chain : goal.decreases-chain
decreases-chain l = above l.at

abbrev pub invariant-chain : goal.invariant-chain
invariant-chain l = record {
  live : ChildBelow (length l.pool.trees) l.at;
  chain : IsChain l.pool.trees l.fn.start l.links.items l.at;
}
