use Rattle.std.proofs.Common.{◌≡◌, ◌≤◌, drop, length}
use Rattle.cv_inline.specs.terms.Drawings.{drawn_in}
use Rattle.cv_inline_draws.specs.drawing.Tables.{with_labels}
use Rattle.cv_inline_draws.proofs.drawing.filling.put_labels.Given as goal

abbrev pub decreases-finds : goal.decreases-finds
decreases-finds l = l.left

abbrev pub invariant-finds : goal.invariant-finds
invariant-finds l = record {
  finds : l.left ≤ length l.finds;
  labels : l.left ≤ length l.labels;
  same : drawn_in l.drawing ≡ with_labels (drop l.left l.finds) (drop l.left l.labels) (drawn_in l.fn.drawing);
}
