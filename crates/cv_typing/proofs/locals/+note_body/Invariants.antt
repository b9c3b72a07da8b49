use Rattle.std.proofs.Common.{◌≡◌, ◌≤◌, length}
use Rattle.cv_pool.specs.Nodes.{ChildBelow}
use Rattle.cv_syntax.specs.PoolTrees.{tree_at}
use Rattle.cv_syntax.specs.Walks.{above}
use Rattle.cv_typing.specs.Tables.{above_of, with_body}
use Rattle.cv_typing.proofs.locals.+note_body.Given as goal

abbrev pub decreases-note_body : goal.decreases-note_body
decreases-note_body l = above l.body

abbrev pub invariant-body : goal.invariant-body
invariant-body l = record {
  live : ChildBelow (length l.pool.trees) l.at;
  same : with_body (above_of l.sorts) (tree_at l.pool.trees l.at) ≡ with_body (above_of l.fn.sorts) (tree_at l.pool.trees l.fn.body);
  less : above l.at ≤ above l.fn.body;
}

abbrev pub decreases-body : goal.decreases-body
decreases-body l = above l.at
