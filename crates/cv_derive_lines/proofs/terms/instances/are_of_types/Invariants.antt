use Rattle.std.proofs.Common.{◌≡◌, length}
use Rattle.cv_pool.specs.Nodes.{ChildBelow}
use Rattle.cv_syntax.specs.PoolTrees.{tree_at}
use Rattle.cv_syntax.specs.Walks.{above as rank}
use Rattle.cv_scene.specs.Reasons.{are_of_types}
use Rattle.cv_scene.specs.Sights.{Sight}
use Rattle.cv_derive_lines.specs.terms.Typed.{IsSightOf}
use Rattle.cv_derive_lines.proofs.terms.instances.are_of_types.Given as goal

abbrev pub invariant-binders : goal.invariant-binders
invariant-binders l = record {
  live : ChildBelow (length l.work.pool.trees) l.at;
  terms : ChildBelow (length l.work.pool.trees) l.behind;
  same : (s : Sight) → IsSightOf l.work.pool.trees l.work.decls.list l.arrays l.above s → are_of_types s (tree_at l.work.pool.trees l.at) (tree_at l.work.pool.trees l.behind) ≡ are_of_types s (tree_at l.work.pool.trees l.fn.binders) (tree_at l.work.pool.trees l.fn.terms);
}

abbrev pub decreases-binders : goal.decreases-binders
decreases-binders l = rank l.at
