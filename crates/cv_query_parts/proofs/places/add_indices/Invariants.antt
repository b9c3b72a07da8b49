use Rattle.std.proofs.Common.{◌≡◌, drop}
use Rattle.cv_typing.specs.Tables.{above_of}
use Rattle.cv_scene.specs.Terms.{indices_above}
use Rattle.cv_query_parts.proofs.places.add_indices.Given as goal

abbrev pub invariant-rows : goal.invariant-rows
invariant-rows l = indices_above (above_of l.above) (drop l.k l.rows) ≡ indices_above (above_of l.fn.above) l.rows
