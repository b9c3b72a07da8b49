use Rattle.std.proofs.Common.{◌≡◌, ◌≤◌, ◌+◌, length}
use Rattle.cv_pool.specs.Nodes.{ChildBelow}
use Rattle.cv_syntax_trees.specs.Tree.{size}
use Rattle.cv_syntax.specs.PoolTrees.{tree_at}
use Rattle.cv_syntax.specs.Walks.{above as rank}
use Rattle.cv_scope.specs.Held.{AreListed, HasLiveBinders, Keeps, last_held, names_held, state_held}
use Rattle.cv_scope_rules.specs.Ranges.{EndBy}
use Rattle.cv_scope.specs.Seen.{found, with_sites}
use Rattle.cv_scope_rules.specs.Sites.{sites_from}
use Rattle.cv_scope.proofs.walk.+walk.Given as goal

abbrev pub decreases-walk : goal.decreases-walk
decreases-walk l = rank l.tree

abbrev pub invariant-tree : goal.invariant-tree
invariant-tree l = record {
  live : ChildBelow (length l.pool.trees) l.at;
  listed : AreListed l.pool.trees l.state.listed;
  binders : HasLiveBinders (length l.pool.trees) l.state.last;
  passed : EndBy l.place l.state.passed;
  same : found (names_held l.names) (state_held l.pool.trees l.state) l.here l.place (tree_at l.pool.trees l.at) ≡ found (names_held l.names) (state_held l.pool.trees l.fn.state) l.fn.position l.fn.from (tree_at l.pool.trees l.fn.tree);
  sites : with_sites (last_held l.pool.trees l.state.last) (sites_from l.state.replications.items l.place (tree_at l.pool.trees l.at)) ≡ with_sites (last_held l.pool.trees l.fn.state.last) (sites_from l.fn.state.replications.items l.fn.from (tree_at l.pool.trees l.fn.tree));
  keeps : Keeps l.marks l.fn.state l.state;
  sum : l.place + size (tree_at l.pool.trees l.at) ≡ l.fn.from + size (tree_at l.pool.trees l.fn.tree);
  less : rank l.at ≤ rank l.fn.tree;
}

abbrev pub decreases-tree : goal.decreases-tree
decreases-tree l = rank l.at
