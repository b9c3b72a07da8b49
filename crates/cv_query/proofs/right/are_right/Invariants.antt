use Rattle.std.proofs.Common.{◌≡◌, drop, length}
use Rattle.std.specs.List.{list_all}
use Rattle.cv_pool.specs.Nodes.{ChildBelow}
use Rattle.cv_syntax_trees.specs.Tree.{Tree}
use Rattle.cv_syntax.specs.PoolTrees.{tree_at}
use Rattle.cv_query_certificates.specs.Claims.{claims_of}
use Rattle.cv_query_certificates.specs.Failures.{is_right}
use Rattle.cv_query_parts.specs.Alternatives.{atoms_seen}
use Rattle.cv_query_parts.specs.Countable.{AreCountable}
use Rattle.cv_query_parts.specs.Views.{scene_of, trees_of}
use Rattle.cv_query.proofs.right.are_right.Given as goal

abbrev pub invariant-atoms : goal.invariant-atoms
invariant-atoms l = record {
  live : ChildBelow (length (trees_of l.view)) l.at;
  few : AreCountable (tree_at (trees_of l.view) l.at);
  same : (put : Tree → Tree) → list_all (is_right (scene_of l.view) l.place) (claims_of (scene_of l.view) put (atoms_seen (trees_of l.view) (drop l.k l.atoms)) (tree_at (trees_of l.view) l.at)) ≡ list_all (is_right (scene_of l.view) l.place) (claims_of (scene_of l.view) put (atoms_seen (trees_of l.view) l.atoms) (tree_at (trees_of l.view) l.fn.routes));
}
