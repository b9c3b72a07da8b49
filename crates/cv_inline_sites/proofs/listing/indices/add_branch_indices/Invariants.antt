use Rattle.std.proofs.Common.{◌≡◌, ◌+◌, ◌≤◌, ◌++◌, length, map}
use Rattle.cv_pool.specs.Nodes.{ChildBelow}
use Rattle.cv_syntax_trees.specs.Tree.{size}
use Rattle.cv_syntax.specs.PoolTrees.{tree_at}
use Rattle.cv_syntax.specs.Walks.{above}
use Rattle.cv_inline.specs.Draws.{index_draws}
use Rattle.cv_inline.specs.terms.Callers.{caller_in}
use Rattle.cv_inline_sites.specs.listing.Listed.{draw_in}
use Rattle.cv_inline_sites.proofs.listing.indices.add_branch_indices.Given as goal

abbrev pub decreases-branches : goal.decreases-branches
decreases-branches l = above l.at

abbrev pub invariant-branches : goal.invariant-branches
invariant-branches l = record {
  live : ChildBelow (length l.pool.trees) l.at;
  few : l.branch + size (tree_at l.pool.trees l.at) ≤ size (tree_at l.pool.trees l.fn.branches);
  draws : map draw_in l.draws.items ++ index_draws l.site l.place (caller_in l.pool.trees l.other) l.branch (tree_at l.pool.trees l.at) ≡ map draw_in l.fn.draws.items ++ index_draws l.site l.place (caller_in l.pool.trees l.other) 0 (tree_at l.pool.trees l.fn.branches);
}
