use Rattle.std.proofs.Common.{◌≡◌, ◌+◌, ◌-◌, nat_eq}
use Rattle.std.specs.HashSet.{contains}
use Rattle.cv_inline.specs.Draws.{least_free}
use Rattle.cv_inline_draws.proofs.names.labels.free_label.Given as goal

abbrev pub invariant-tries : goal.invariant-tries
invariant-tries l = record {
  label : l.label ≡ l.from + l.counter;
  least : least_free (contains nat_eq l.taken) (l.tries - l.counter) l.label ≡ least_free (contains nat_eq l.taken) l.tries l.from;
}
