use Rattle.std.proofs.Common.{◌≡◌, ◌++◌, take, flat_map, codes}
use Rattle.cv_bound.specs.Texts.{power_text}
use Rattle.cv_report.proofs.contexts.contexts.push_powers.Given as goal

abbrev pub invariant-factors : goal.invariant-factors
invariant-factors l = l.out.items ≡ l.fn.out.items ++ flat_map (λ f. codes "*" ++ power_text l.names f) (take l.k l.factors)
