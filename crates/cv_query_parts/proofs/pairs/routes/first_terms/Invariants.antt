use Rattle.std.proofs.Common.{◌≡◌, ◌-◌, ◌++◌, All, length, map, take}
use Rattle.cv_pool.specs.Nodes.{ChildBelow}
use Rattle.cv_syntax.specs.PoolTrees.{tree_at}
use Rattle.cv_scope_rules.specs.Context.{items}
use Rattle.cv_query_parts.specs.pairs.Routes.{IsIndexBelow, index_tree}
use Rattle.cv_query_parts.proofs.pairs.routes.first_terms.Given as goal

abbrev pub invariant-terms : goal.invariant-terms
invariant-terms l = record {
  live : ChildBelow (length l.pool.trees) l.at;
  found : All (IsIndexBelow (length l.pool.trees)) l.found.items;
  same : map (index_tree l.pool.trees) l.found.items ++ take (l.count - l._k) (items (tree_at l.pool.trees l.at)) ≡ take l.count (items (tree_at l.pool.trees l.fn.terms));
}
