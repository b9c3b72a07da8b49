use Rattle.std.proofs.Common.{◌≡◌, drop, length}
use Rattle.cv_pool.specs.Nodes.{ChildBelow}
use Rattle.cv_syntax.specs.PoolTrees.{tree_at}
use Rattle.cv_query_certificates.specs.Failures.{first_failing, is_right}
use Rattle.cv_query_parts.specs.Views.{asked_of, scene_of, trees_of}
use Rattle.cv_query_parts.specs.Countable.{AreCountableParts}
use Rattle.cv_query.proofs.right.first_wrong.Given as goal

abbrev pub invariant-places : goal.invariant-places
invariant-places l = record {
  live : ChildBelow (length (trees_of l.view)) l.at;
  few : AreCountableParts (tree_at (trees_of l.view) l.at);
  same : first_failing is_right (scene_of l.view) (asked_of (trees_of l.view) l.asked) (drop l.k l.places) (tree_at (trees_of l.view) l.at) ≡ first_failing is_right (scene_of l.view) (asked_of (trees_of l.view) l.asked) l.places (tree_at (trees_of l.view) l.fn.parts);
}
