use Rattle.std.proofs.Common.{◌≡◌, ◌≤◌, ◌++◌}
use Rattle.cv_syntax.specs.Walks.{above}
use Rattle.cv_inline_sites.specs.listing.Subtrees.{IsWithin}
use Rattle.cv_inline_draws.proofs.sites.FindLists.{finds_at}
use Rattle.cv_inline_draws.proofs.sites.finds.+add_finds.Given as goal

abbrev pub decreases-add_finds : goal.decreases-add_finds
decreases-add_finds l = above l.part.root

abbrev pub decreases-part : goal.decreases-part
decreases-part l = above l.at.root

abbrev pub invariant-part : goal.invariant-part
invariant-part l = record {
  within : IsWithin l.pool.trees l.at;
  less : above l.at.root ≤ above l.fn.part.root;
  finds : l.finds.items ++ finds_at l.site l.pool.trees l.at ≡ l.fn.finds.items ++ finds_at l.site l.pool.trees l.fn.part;
}
