use Rattle.std.proofs.Common.{◌≡◌, ◌++◌, ℕ, All, List, drop, map}
use Rattle.cv_pool.specs.KindTree.{KindTree}
use Rattle.cv_scene.specs.Late.{index_term}
use Rattle.cv_query_parts.specs.pairs.Routes.{IsIndexBelow, index_tree}
use Rattle.cv_query_parts.proofs.pairs.routes.own_indices.Given as goal

abbrev pub invariant-rows : goal.invariant-rows
invariant-rows l = record {
  found : (n : ℕ) → All (IsIndexBelow n) l.found.items;
  same : (trees : List KindTree) → map (index_tree trees) l.found.items ++ map index_term (drop l.k l.rows) ≡ map index_term l.rows;
}
