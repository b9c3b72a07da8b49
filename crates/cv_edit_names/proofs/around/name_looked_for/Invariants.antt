use Rattle.std.proofs.Common.{◌≡◌, drop}
use Rattle.cv_syntax.specs.PoolTrees.{tree_at}
use Rattle.cv_edit_names.specs.Cells.{name_of}
use Rattle.cv_edit_names.specs.Kept.{looked_in}
use Rattle.cv_edit_names.proofs.around.name_looked_for.Given as goal

abbrev pub invariant-looked : goal.invariant-looked
invariant-looked l = name_of (looked_in l.pool.trees (drop l.looked-index l.looked_for)) (tree_at l.pool.trees l.term) ≡ name_of (looked_in l.pool.trees l.looked_for) (tree_at l.pool.trees l.term)
