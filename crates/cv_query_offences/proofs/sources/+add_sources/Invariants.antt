use Rattle.std.proofs.Common.{◌≡◌, ◌++◌, ◌≤◌, length}
use Rattle.std.specs.Prelude.{Some}
use Rattle.std.specs.List.{filter}
use Rattle.cv_pool.specs.Nodes.{ChildBelow}
use Rattle.cv_syntax.specs.PoolTrees.{tree_at}
use Rattle.cv_syntax.specs.Walks.{above}
use Rattle.cv_query_certificates.specs.Secrets.{has_definition, sources}
use Rattle.cv_query_offences.proofs.sources.+add_sources.Given as goal

abbrev pub decreases-add_sources : goal.decreases-add_sources
decreases-add_sources l = above l.tree

abbrev pub invariant-tree : goal.invariant-tree
invariant-tree l = record {
  live : ChildBelow (length l.pool.trees) l.at;
  less : above l.at ≤ above l.fn.tree;
  same : l.found.items ++ filter (has_definition (tree_at l.pool.trees (Some l.game))) (sources l.x (tree_at l.pool.trees l.at)) ≡ l.fn.found.items ++ filter (has_definition (tree_at l.pool.trees (Some l.game))) (sources l.x (tree_at l.pool.trees l.fn.tree));
}

abbrev pub decreases-tree : goal.decreases-tree
decreases-tree l = above l.at
