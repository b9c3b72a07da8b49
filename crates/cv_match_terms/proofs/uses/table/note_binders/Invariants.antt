use Rattle.std.proofs.Common.{◌≡◌, ℕ, length}
use Rattle.cv_pool.specs.Nodes.{ChildBelow}
use Rattle.cv_syntax.specs.PoolTrees.{tree_at}
use Rattle.cv_syntax.specs.Walks.{above}
use Rattle.cv_match_terms.specs.uses.Tallies.{bound_here, plus, tally_at}
use Rattle.cv_match_terms.proofs.uses.table.note_binders.Given as goal

abbrev pub invariant-list : goal.invariant-list
invariant-list l = record {
  live : ChildBelow (length l.pool.trees) l.at;
  same : (y : ℕ) → plus (tally_at l.entries.items y) (bound_here y (tree_at l.pool.trees l.at)) ≡ plus (tally_at l.fn.entries.items y) (bound_here y (tree_at l.pool.trees l.fn.list));
}

abbrev pub decreases-list : goal.decreases-list
decreases-list l = above l.at
