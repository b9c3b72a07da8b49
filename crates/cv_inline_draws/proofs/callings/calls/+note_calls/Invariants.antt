use Rattle.std.proofs.Common.{◌≡◌, ◌+◌, ◌<◌, ◌≤◌, ◌^◌, length, take}
use Rattle.cv_pool.specs.Nodes.{ChildBelow}
use Rattle.cv_syntax_trees.specs.Tree.{size}
use Rattle.cv_syntax.specs.PoolTrees.{tree_at}
use Rattle.cv_syntax.specs.Walks.{above}
use Rattle.cv_inline_draws.specs.callings.FirstCalls.{AreLiveCalls, calls_in, with_calls}
use Rattle.cv_inline_draws.proofs.callings.calls.+note_calls.Given as goal

abbrev pub decreases-note_calls : goal.decreases-note_calls
decreases-note_calls l = above l.part

abbrev pub invariant-part : goal.invariant-part
invariant-part l = record {
  live : ChildBelow (length l.pool.trees) l.at;
  less : above l.at ≤ above l.fn.part;
  few : length l.replications.items + size (tree_at l.pool.trees l.at) < 2 ^ 32;
  front : take l.outside l.replications.items ≡ l.fn.replications.items;
  found : AreLiveCalls l.pool.trees l.calls;
  calls : with_calls (calls_in l.pool.trees l.calls) l.replications.items (tree_at l.pool.trees l.at) ≡ with_calls (calls_in l.pool.trees l.fn.calls) l.fn.replications.items (tree_at l.pool.trees l.fn.part);
}

abbrev pub decreases-part : goal.decreases-part
decreases-part l = above l.at
