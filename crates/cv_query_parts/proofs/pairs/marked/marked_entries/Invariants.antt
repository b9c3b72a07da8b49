use Rattle.std.proofs.Common.{◌≡◌, ◌++◌, All, length}
use Rattle.cv_pool.specs.Nodes.{ChildBelow}
use Rattle.cv_syntax.specs.PoolTrees.{tree_at}
use Rattle.cv_syntax.specs.Walks.{above}
use Rattle.cv_scene.specs.Scenes.{Scene}
use Rattle.cv_query_certificates.specs.Pairs.{ends_in}
use Rattle.cv_query_parts.specs.Views.{asked_of}
use Rattle.cv_query_parts.specs.pairs.Marked.{IsEntryBelow, entries_seen}
use Rattle.cv_query_parts.proofs.pairs.marked.marked_entries.Given as goal

abbrev pub invariant-parts : goal.invariant-parts
invariant-parts l = record {
  live : ChildBelow (length l.pool.trees) l.at;
  below : All (IsEntryBelow (length l.pool.trees)) l.found.items;
  same : (s : Scene) → entries_seen s l.pool.trees l.found.items ++ ends_in s (asked_of l.pool.trees l.asked) (tree_at l.pool.trees l.at) ≡ ends_in s (asked_of l.pool.trees l.asked) (tree_at l.pool.trees l.fn.parts);
}

abbrev pub decreases-parts : goal.decreases-parts
decreases-parts l = above l.at
