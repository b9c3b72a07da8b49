use Rattle.std.proofs.Common.{◌≡◌, ◌≤◌, ◌++◌, length}
use Rattle.cv_pool.specs.Nodes.{ChildBelow}
use Rattle.cv_syntax.specs.PoolTrees.{tree_at}
use Rattle.cv_syntax.specs.Walks.{above}
use Rattle.cv_inline.specs.NextGame.{names_assigned}
use Rattle.cv_inline_draws.proofs.callings.names.+add_assigned.Given as goal

abbrev pub decreases-add_assigned : goal.decreases-add_assigned
decreases-add_assigned l = above l.body

abbrev pub invariant-body : goal.invariant-body
invariant-body l = record {
  live : ChildBelow (length l.pool.trees) l.at;
  less : above l.at ≤ above l.fn.body;
  names : l.names.items ++ names_assigned (tree_at l.pool.trees l.at) ≡ l.fn.names.items ++ names_assigned (tree_at l.pool.trees l.fn.body);
}

abbrev pub decreases-body : goal.decreases-body
decreases-body l = above l.at
