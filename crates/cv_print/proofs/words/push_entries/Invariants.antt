use Rattle.std.proofs.Common.{◌≡◌, ◌++◌, [], length}
use Rattle.cv_pool.specs.Nodes.{ChildBelow}
use Rattle.cv_syntax.specs.PoolTrees.{tree_at}
use Rattle.cv_print.specs.Terms.{entries_text}
use Rattle.cv_print.specs.Numbers.{above}
use Rattle.cv_print.proofs.words.push_entries.Given as goal

abbrev pub invariant-entries : goal.invariant-entries
invariant-entries l = record {
  below : ChildBelow (length l.pool.trees) l.at;
  text : l.out.items ++ entries_text l.names l.mark l.before (tree_at l.pool.trees l.at) ≡ l.fn.out.items ++ entries_text l.names l.mark [] (tree_at l.pool.trees l.fn.list);
}

abbrev pub decreases-entries : goal.decreases-entries
decreases-entries l = above l.at
