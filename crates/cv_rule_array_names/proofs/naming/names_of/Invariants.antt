use Rattle.std.proofs.Common.{◌≡◌, map, take}
use Rattle.cv_pool.specs.declared.names.names.NameId.{NameId}
use Rattle.cv_rule_array_names.proofs.naming.names_of.Given as goal

abbrev pub invariant-numbers : goal.invariant-numbers
invariant-numbers l = map (λ (y : NameId). y.0) l.names.items ≡ take l.number-index l.numbers
