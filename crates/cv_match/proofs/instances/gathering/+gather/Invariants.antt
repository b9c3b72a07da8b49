use Rattle.std.proofs.Common.{◌≡◌, ◌+◌, ◌++◌, ◌≤◌, length, map, take, false}
use Rattle.std.specs.List.{All}
use Rattle.cv_pool.specs.Nodes.{ChildBelow}
use Rattle.cv_syntax_trees.specs.Tree.{size}
use Rattle.cv_syntax.specs.PoolTrees.{tree_at}
use Rattle.cv_syntax.specs.Walks.{above}
use Rattle.cv_match.specs.instances.Matchings.{matching_by}
use Rattle.cv_match_terms.specs.patterns.Sites.{HasInstance, IsLiveSite, site_in}
use Rattle.cv_match.specs.instances.Walks.{sites_unless}
use Rattle.cv_match.proofs.instances.gathering.+gather.Given as goal

abbrev pub decreases-gather : goal.decreases-gather
decreases-gather l = above l.tree

abbrev pub invariant-tree : goal.invariant-tree
invariant-tree l = record {
  live : ChildBelow (length l.work.pool.trees) l.at;
  less : above l.at ≤ above l.fn.tree;
  sum : l.place + size (tree_at l.work.pool.trees l.at) ≡ l.fn.from + size (tree_at l.work.pool.trees l.fn.tree);
  sites : All (IsLiveSite (length l.work.pool.trees)) l.sites.items;
  instances : All (HasInstance l.work.pool.trees (matching_by l.work.pool l.work.decls l.search)) l.sites.items;
  front : take l.outside l.passed.items ≡ l.fn.passed.items;
  same : map (site_in l.work.pool.trees (matching_by l.work.pool l.work.decls l.search)) l.sites.items ++ sites_unless false (matching_by l.work.pool l.work.decls l.search) l.here l.passed.items l.place (tree_at l.work.pool.trees l.at) ≡ map (site_in l.work.pool.trees (matching_by l.work.pool l.work.decls l.search)) l.fn.sites.items ++ sites_unless false (matching_by l.work.pool l.work.decls l.search) l.fn.position l.fn.passed.items l.fn.from (tree_at l.work.pool.trees l.fn.tree);
}

abbrev pub decreases-tree : goal.decreases-tree
decreases-tree l = above l.at
