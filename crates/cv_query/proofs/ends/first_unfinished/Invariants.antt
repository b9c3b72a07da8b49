use Rattle.std.proofs.Common.{◌≡◌, None, drop, length}
use Rattle.cv_pool.specs.Nodes.{ChildBelow}
use Rattle.cv_syntax.specs.PoolTrees.{tree_at}
use Rattle.cv_query_certificates.specs.Failures.{first_failing, first_unformed, has_end}
use Rattle.cv_query_parts.specs.Views.{asked_of, scene_of, trees_of}
use Rattle.cv_query.proofs.ends.first_unfinished.Given as goal

abbrev pub invariant-places : goal.invariant-places
invariant-places l = record {
  live : ChildBelow (length (trees_of l.view)) l.at;
  formed : first_unformed (scene_of l.view) (asked_of (trees_of l.view) l.asked) (drop l.k l.places) (tree_at (trees_of l.view) l.at) ≡ None;
  same : first_failing has_end (scene_of l.view) (asked_of (trees_of l.view) l.asked) (drop l.k l.places) (tree_at (trees_of l.view) l.at) ≡ first_failing has_end (scene_of l.view) (asked_of (trees_of l.view) l.asked) l.places (tree_at (trees_of l.view) l.fn.parts);
}
