use Rattle.std.proofs.Common.{◌≡◌, length}
use Rattle.cv_pool.specs.Nodes.{ChildBelow}
use Rattle.cv_syntax.specs.PoolTrees.{tree_at}
use Rattle.cv_syntax.specs.Walks.{above}
use Rattle.cv_typing.specs.Tables.{locals_of, with_functions}
use Rattle.cv_typing.proofs.locals.Locals.note_functions.Given as goal

abbrev pub invariant-list : goal.invariant-list
invariant-list l = record {
  live : ChildBelow (length l.pool.trees) l.at;
  same : with_functions (locals_of l.self) (tree_at l.pool.trees l.at) ≡ with_functions (locals_of l.fn.self) (tree_at l.pool.trees l.fn.list);
}

abbrev pub decreases-list : goal.decreases-list
decreases-list l = above l.at
