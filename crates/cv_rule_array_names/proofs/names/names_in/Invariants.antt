use Rattle.std.proofs.Common.{◌≡◌, ◌++◌, length}
use Rattle.cv_pool.specs.Nodes.{ChildBelow}
use Rattle.cv_syntax.specs.PoolTrees.{tree_at}
use Rattle.cv_syntax.specs.Walks.{above}
use Rattle.cv_rule_array_names.specs.Sites.{listed_names}
use Rattle.cv_rule_array_names.proofs.names.names_in.Given as goal

abbrev pub invariant-items : goal.invariant-items
invariant-items l = record {
  live : ChildBelow (length l.pool.trees) l.at;
  listed : l.names.items ++ listed_names (tree_at l.pool.trees l.at) ≡ listed_names (tree_at l.pool.trees l.fn.list);
}

abbrev pub decreases-items : goal.decreases-items
decreases-items l = above l.at
