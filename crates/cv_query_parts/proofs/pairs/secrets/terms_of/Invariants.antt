use Rattle.std.proofs.Common.{◌≡◌, ◌++◌, All, length, map}
use Rattle.cv_pool.specs.Nodes.{ChildBelow}
use Rattle.cv_syntax.specs.PoolTrees.{tree_at}
use Rattle.cv_syntax.specs.Walks.{above}
use Rattle.cv_scope_rules.specs.Context.{items}
use Rattle.cv_query_parts.specs.pairs.Routes.{IsIndexBelow, index_tree}
use Rattle.cv_query_parts.proofs.pairs.secrets.terms_of.Given as goal

abbrev pub invariant-terms : goal.invariant-terms
invariant-terms l = record {
  live : ChildBelow (length l.pool.trees) l.at;
  found : All (IsIndexBelow (length l.pool.trees)) l.found.items;
  same : map (index_tree l.pool.trees) l.found.items ++ items (tree_at l.pool.trees l.at) ≡ items (tree_at l.pool.trees l.fn.terms);
}

abbrev pub decreases-terms : goal.decreases-terms
decreases-terms l = above l.at
