use Rattle.std.proofs.Common.{◌≡◌, ◌≤◌, drop, length}
use Rattle.cv_inline.specs.terms.Drawings.{drawn_in}
use Rattle.cv_inline_draws.specs.drawing.Tables.{with_names}
use Rattle.cv_inline_draws.proofs.drawing.filling.put_names.Given as goal

abbrev pub decreases-draws : goal.decreases-draws
decreases-draws l = l.left

abbrev pub invariant-draws : goal.invariant-draws
invariant-draws l = record {
  draws : l.left ≤ length l.draws;
  names : l.left ≤ length l.names;
  same : drawn_in l.drawing ≡ with_names (drop l.left l.draws) (drop l.left l.names) (drawn_in l.fn.drawing);
}
