use Rattle.std.proofs.Common.{◌≡◌, ℕ, map, take}
use Rattle.cv_rule_fresh.proofs.planning.parameters_of.Given as goal

abbrev pub invariant-replications : goal.invariant-replications
invariant-replications l = l.made.items ≡ map (λ (r : ℕ × ℕ). r.1) (take l.k l.replications)
