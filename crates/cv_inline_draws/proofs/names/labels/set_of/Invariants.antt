use Rattle.std.proofs.Common.{◌≡◌, ℕ, take, nat_eq}
use Rattle.std.specs.HashSet.{contains}
use Rattle.cv_inline_draws.specs.names.Texts.{is_listed}
use Rattle.cv_inline_draws.proofs.names.labels.set_of.Given as goal

abbrev pub invariant-loop-label : goal.invariant-loop-label
invariant-loop-label l = (y : ℕ) → contains nat_eq l.set y ≡ is_listed (take l.label-index l.labels) y
