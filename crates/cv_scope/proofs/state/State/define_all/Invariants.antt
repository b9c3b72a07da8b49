use Rattle.std.proofs.Common.{◌≡◌, length}
use Rattle.cv_pool.specs.Nodes.{ChildBelow}
use Rattle.cv_syntax.specs.PoolTrees.{tree_at}
use Rattle.cv_syntax.specs.Walks.{above}
use Rattle.cv_meaning.specs.Binders.{bound_names}
use Rattle.cv_scope.specs.Held.{DefinesOnly}
use Rattle.cv_scope.specs.Seen.{with_definitions}
use Rattle.cv_scope.proofs.state.State.define_all.Given as goal

abbrev pub invariant-binders : goal.invariant-binders
invariant-binders l = record {
  list : ChildBelow (length l.pool.trees) l.at;
  only : DefinesOnly l.fn.self l.self l.self.defined;
  same : with_definitions l.self.defined (length l.fn.self.replications.items) (bound_names (tree_at l.pool.trees l.at)) ≡ with_definitions l.fn.self.defined (length l.fn.self.replications.items) (bound_names (tree_at l.pool.trees l.fn.list));
}

abbrev pub decreases-binders : goal.decreases-binders
decreases-binders l = above l.at
