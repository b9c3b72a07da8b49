use Rattle.std.proofs.Common.{◌≡◌, ◌++◌, length, map}
use Rattle.cv_pool.specs.Nodes.{ChildBelow}
use Rattle.cv_syntax.specs.PoolTrees.{tree_at}
use Rattle.cv_syntax.specs.Walks.{above}
use Rattle.cv_meaning.specs.Correspondences.{typed_names}
use Rattle.cv_inline.specs.Draws.{argument_draws}
use Rattle.cv_inline_sites.specs.listing.Listed.{draw_in}
use Rattle.cv_inline_sites.proofs.listing.draws.add_arguments.Given as goal

abbrev pub decreases-binders : goal.decreases-binders
decreases-binders l = above l.at

abbrev pub invariant-binders : goal.invariant-binders
invariant-binders l = record {
  live : ChildBelow (length l.pool.trees) l.at;
  draws : map draw_in l.draws.items ++ argument_draws l.site (typed_names (tree_at l.pool.trees l.at)) ≡ map draw_in l.fn.draws.items ++ argument_draws l.site (typed_names (tree_at l.pool.trees l.fn.binders));
}
