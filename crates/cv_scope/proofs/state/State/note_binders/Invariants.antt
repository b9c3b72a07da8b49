use Rattle.std.proofs.Common.{◌≡◌, length}
use Rattle.cv_pool.specs.Nodes.{ChildBelow}
use Rattle.cv_syntax.specs.PoolTrees.{tree_at}
use Rattle.cv_syntax.specs.Walks.{above as rank}
use Rattle.cv_scope.specs.Held.{HasLiveBinders, SameAbove, last_held}
use Rattle.cv_scope.specs.Seen.{may_stand_last, with_sites}
use Rattle.cv_scope_rules.specs.Sites.{variable_sites}
use Rattle.cv_scope.proofs.state.State.note_binders.Given as goal

abbrev pub invariant-binders : goal.invariant-binders
invariant-binders l = record {
  list : ChildBelow (length l.pool.trees) l.at;
  live : HasLiveBinders (length l.pool.trees) l.self.last;
  above : SameAbove l.fn.self l.self;
  may : may_stand_last l.fn.self.passed (last_held l.pool.trees l.self.last) (variable_sites l.fn.self.replications.items l.place (tree_at l.pool.trees l.at)) ≡ may_stand_last l.fn.self.passed (last_held l.pool.trees l.fn.self.last) (variable_sites l.fn.self.replications.items l.place (tree_at l.pool.trees l.fn.list));
  noted : with_sites (last_held l.pool.trees l.self.last) (variable_sites l.fn.self.replications.items l.place (tree_at l.pool.trees l.at)) ≡ with_sites (last_held l.pool.trees l.fn.self.last) (variable_sites l.fn.self.replications.items l.place (tree_at l.pool.trees l.fn.list));
}

abbrev pub decreases-binders : goal.decreases-binders
decreases-binders l = rank l.at
