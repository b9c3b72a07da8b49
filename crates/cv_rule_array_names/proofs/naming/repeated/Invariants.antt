use Rattle.std.proofs.Common.{◌≡◌, map, take}
use Rattle.cv_pool.specs.declared.names.names.NameId.{NameId}
use Rattle.cv_rule_array_names.proofs.naming.repeated.Given as goal

abbrev pub invariant-places : goal.invariant-places
invariant-places l = l.numbers.items ≡ map (λ (p : NameId). l.x) (take l.index l.places)
