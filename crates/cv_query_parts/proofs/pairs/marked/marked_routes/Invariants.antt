use Rattle.std.proofs.Common.{◌≡◌, ◌++◌, All, drop, length}
use Rattle.cv_pool.specs.Nodes.{ChildBelow}
use Rattle.cv_syntax.specs.PoolTrees.{tree_at}
use Rattle.cv_scene.specs.Scenes.{Scene}
use Rattle.cv_query_certificates.specs.Pairs.{injective_ends}
use Rattle.cv_query_parts.specs.Alternatives.{atoms_seen}
use Rattle.cv_query_parts.specs.pairs.Marked.{IsMarkedBelow, ends_seen}
use Rattle.cv_query_parts.proofs.pairs.marked.marked_routes.Given as goal

abbrev pub invariant-atoms : goal.invariant-atoms
invariant-atoms l = record {
  live : ChildBelow (length l.pool.trees) l.at;
  below : All (IsMarkedBelow (length l.pool.trees)) l.found.items;
  same : (s : Scene) → ends_seen s l.pool.trees l.found.items ++ injective_ends s (atoms_seen l.pool.trees (drop l.k l.atoms)) (tree_at l.pool.trees l.at) ≡ injective_ends s (atoms_seen l.pool.trees l.atoms) (tree_at l.pool.trees l.fn.routes);
}
