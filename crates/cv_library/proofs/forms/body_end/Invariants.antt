use Rattle.std.proofs.Common.{◌≡◌, ◌+◌, ◌-◌, ◌≤◌, drop, length}
use Rattle.cv_library.specs.Libraries.{body_at, body_from}
use Rattle.cv_library.proofs.forms.body_end.Given as goal

abbrev pub invariant-body : goal.invariant-body
invariant-body l = record { read : body_from l.depth l.k (drop l.k l.tokens) ≡ body_at l.tokens l.from; depth : l.depth + l.from ≤ l.k }

abbrev pub decreases-body : goal.decreases-body
decreases-body l = length l.tokens - l.k
