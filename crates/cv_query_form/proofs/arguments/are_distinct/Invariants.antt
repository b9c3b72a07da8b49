use Rattle.std.proofs.Common.{◌≡◌, length}
use Rattle.cv_pool.specs.Nodes.{ChildBelow}
use Rattle.cv_syntax.specs.PoolTrees.{tree_at}
use Rattle.cv_syntax.specs.Walks.{above}
use Rattle.cv_syntax.specs.NameSets.{is_in}
use Rattle.cv_query_form.specs.Tests.{are_distinct}
use Rattle.cv_query_form.proofs.arguments.are_distinct.Given as goal

abbrev pub invariant-list : goal.invariant-list
invariant-list l = record {
  live : ChildBelow (length l.pool.trees) l.at;
  same : are_distinct (is_in l.free) (tree_at l.pool.trees l.at) ≡ are_distinct (is_in l.fn.free) (tree_at l.pool.trees l.fn.terms);
}

abbrev pub decreases-list : goal.decreases-list
decreases-list l = above l.at
