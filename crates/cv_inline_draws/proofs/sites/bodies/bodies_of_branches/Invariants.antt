use Rattle.std.proofs.Common.{◌≡◌, ◌≤◌, ◌++◌, ℕ, List, All}
use Rattle.std.specs.Prelude.{flat_map}
use Rattle.cv_syntax.specs.PoolTrees.{tree_at}
use Rattle.cv_syntax.specs.Walks.{above}
use Rattle.cv_meaning.specs.contexts.Inlined.{Caller}
use Rattle.cv_inline.specs.Draws.{branches_draws}
use Rattle.cv_inline_draws.specs.sites.Parts.{draws_at}
use Rattle.cv_inline_sites.specs.listing.Subtrees.{IsBelow, IsWithin}
use Rattle.cv_inline_draws.proofs.sites.bodies.bodies_of_branches.Given as goal

abbrev pub decreases-branches : goal.decreases-branches
decreases-branches l = above l.at.root

abbrev pub invariant-branches : goal.invariant-branches
invariant-branches l = record {
  within : IsWithin l.pool.trees l.at;
  less : above l.at.root ≤ above l.fn.list.root;
  draws : (ss : List Caller) (c : ℕ) → flat_map (draws_at l.pool.trees ss c) l.bodies.items ++ branches_draws ss c l.at.place (tree_at l.pool.trees l.at.root) ≡ branches_draws ss c l.fn.list.place (tree_at l.pool.trees l.fn.list.root);
  below : All (IsBelow l.pool.trees (above l.fn.list.root)) l.bodies.items;
}
