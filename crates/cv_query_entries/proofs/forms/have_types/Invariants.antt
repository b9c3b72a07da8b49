use Rattle.std.proofs.Common.{◌≡◌, drop, length}
use Rattle.cv_pool.specs.Nodes.{ChildBelow}
use Rattle.cv_syntax.specs.PoolTrees.{tree_at}
use Rattle.cv_scene.specs.Sights.{sight_at}
use Rattle.cv_query_certificates.specs.Forms.{have_types}
use Rattle.cv_query_parts.specs.Views.{scene_of, trees_of}
use Rattle.cv_query_entries.proofs.forms.have_types.Given as goal

abbrev pub invariant-variables : goal.invariant-variables
invariant-variables l = record {
  live : ChildBelow (length (trees_of l.view)) l.at;
  same : have_types (sight_at (scene_of l.view) l.place) (drop l.k l.others) (tree_at (trees_of l.view) l.at) ≡ have_types (sight_at (scene_of l.view) l.place) l.others (tree_at (trees_of l.view) l.fn.witnesses);
}
