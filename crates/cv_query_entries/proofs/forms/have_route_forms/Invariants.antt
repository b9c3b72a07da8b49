use Rattle.std.proofs.Common.{◌≡◌, drop, length}
use Rattle.cv_pool.specs.Nodes.{ChildBelow}
use Rattle.cv_syntax.specs.PoolTrees.{tree_at}
use Rattle.cv_query_certificates.specs.Forms.{have_route_forms}
use Rattle.cv_query_parts.specs.Alternatives.{atoms_seen}
use Rattle.cv_query_parts.specs.Views.{scene_of, trees_of}
use Rattle.cv_query_entries.proofs.forms.have_route_forms.Given as goal

abbrev pub invariant-atoms : goal.invariant-atoms
invariant-atoms l = record {
  live : ChildBelow (length (trees_of l.view)) l.at;
  same : have_route_forms (scene_of l.view) l.place (atoms_seen (trees_of l.view) (drop l.k l.atoms)) (tree_at (trees_of l.view) l.at) ≡ have_route_forms (scene_of l.view) l.place (atoms_seen (trees_of l.view) l.atoms) (tree_at (trees_of l.view) l.fn.routes);
}
