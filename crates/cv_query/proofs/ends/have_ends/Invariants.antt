use Rattle.std.proofs.Common.{◌≡◌, ℕ, drop, length}
use Rattle.std.specs.List.{list_all}
use Rattle.cv_pool.specs.Nodes.{ChildBelow}
use Rattle.cv_syntax.specs.PoolTrees.{tree_at}
use Rattle.cv_query_certificates.specs.Claims.{claims_of}
use Rattle.cv_query_certificates.specs.Failures.{has_end}
use Rattle.cv_query_entries.specs.terms.Given.{put}
use Rattle.cv_query_entries.specs.terms.Parts.{terms_of}
use Rattle.cv_query_parts.specs.Alternatives.{atoms_seen}
use Rattle.cv_query_parts.specs.Views.{scene_of, trees_of}
use Rattle.cv_query.proofs.ends.have_ends.Given as goal

abbrev pub invariant-atoms : goal.invariant-atoms
invariant-atoms l = record {
  live : ChildBelow (length (trees_of l.view)) l.at;
  same : (p : ℕ) → list_all (has_end (scene_of l.view) p) (claims_of (scene_of l.view) (put (terms_of (trees_of l.view) l.given)) (atoms_seen (trees_of l.view) (drop l.k l.atoms)) (tree_at (trees_of l.view) l.at)) ≡ list_all (has_end (scene_of l.view) p) (claims_of (scene_of l.view) (put (terms_of (trees_of l.view) l.given)) (atoms_seen (trees_of l.view) l.atoms) (tree_at (trees_of l.view) l.fn.routes));
}
