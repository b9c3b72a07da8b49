use Rattle.std.proofs.Common.{◌≡◌, ◌++◌, drop}
use Rattle.cv_scene.specs.Pairs.{second_indices}
use Rattle.cv_query_parts.proofs.pairs.marks.raised_rows.Given as goal

abbrev pub invariant-rows : goal.invariant-rows
invariant-rows l = l.seconds.items ++ second_indices l.k (drop l.n l.rows) ≡ second_indices l.k l.rows
