use Rattle.std.proofs.Common.{◌≡◌, ◌++◌, drop, map}
use Rattle.std.specs.Prelude.{flat_map}
use Rattle.cv_syntax.specs.Postorder.{postorder}
use Rattle.cv_scene.specs.Late.{index_term}
use Rattle.cv_query_parts.proofs.pairs.lists.push_indices.Given as goal

abbrev pub invariant-rows : goal.invariant-rows
invariant-rows l = l.makes.items ++ flat_map postorder (drop l.k (map index_term l.rows)) ≡ l.fn.makes.items ++ flat_map postorder (map index_term l.rows)
