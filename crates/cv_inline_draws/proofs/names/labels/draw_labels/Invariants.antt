use Rattle.std.proofs.Common.{◌≡◌, ◌+◌, ◌*◌, ◌≤◌, ◌++◌, ℕ, List, length, drop}
use Rattle.cv_inline.specs.Draws.{labels_from}
use Rattle.cv_inline_draws.proofs.names.labels.draw_labels.Given as goal

abbrev pub invariant-draws : goal.invariant-draws
invariant-draws l = record {
  near : l.from ≤ 1 + l.counter * (length l.taken + 1);
  labels : (finds : List (ℕ × ℕ)) → length finds ≡ l.count → l.labels.items ++ labels_from l.taken l.from (drop l.counter finds) ≡ labels_from l.taken 1 finds;
}
