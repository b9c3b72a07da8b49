use Rattle.std.proofs.Common.{◌≡◌, ◌++◌, ◌≤◌, length, take}
use Rattle.cv_pool.specs.Nodes.{ChildBelow}
use Rattle.cv_syntax.specs.PoolTrees.{tree_at}
use Rattle.cv_syntax.specs.Walks.{above}
use Rattle.cv_scope_rules.specs.Context.{items}
use Rattle.cv_scope.specs.Held.{AreListed, cells_held}
use Rattle.cv_scope.proofs.state.State.list_all.Given as goal

abbrev pub invariant-cells : goal.invariant-cells
invariant-cells l = record {
  list : ChildBelow (length l.pool.trees) l.at;
  replications : l.self.replications.items ≡ l.fn.self.replications.items;
  defined : l.self.defined ≡ l.fn.self.defined;
  passed : l.self.passed ≡ l.fn.self.passed;
  last : l.self.last ≡ l.fn.self.last;
  live : AreListed l.pool.trees l.self.listed;
  front : take (length l.fn.self.listed) l.self.listed ≡ l.fn.self.listed;
  long : length l.fn.self.listed ≤ length l.self.listed;
  same : cells_held l.pool.trees l.self.listed ++ items (tree_at l.pool.trees l.at) ≡ cells_held l.pool.trees l.fn.self.listed ++ items (tree_at l.pool.trees l.fn.list);
}

abbrev pub decreases-cells : goal.decreases-cells
decreases-cells l = above l.at
