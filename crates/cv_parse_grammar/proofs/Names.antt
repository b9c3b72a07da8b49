-- The first fault of names, computed, is the one that is meant.
use Rattle.std.proofs.Common.{◌≡◌, Option, Some, None, option_map, refl, ap, sym, ◌∙◌}
use Rattle.cv_parse_notation.specs.Spells.{Use}
use Rattle.cv_parse_grammar.specs.declared.role.Role.{Role}
use Rattle.cv_parse_grammar.specs.InOrder.{first_broken}
use Rattle.cv_parse_grammar.specs.Names.{NameFault, Uses, name_rule, fault_of, AreNamed, IsNameFault, name_fault}
use Rattle.cv_parse_grammar.proofs.InOrder.{none_broken, all_obeyed, one_broken, first_is_found}

none_there : (o : Option (Use Role)) → option_map fault_of o ≡ None → o ≡ None
none_there None e = refl
none_there (Some u) e = absurd (cc)

some_there : (o : Option (Use Role)) (f : NameFault) → option_map fault_of o ≡ Some f → (u : Use Role) × (o ≡ Some u) × (f ≡ fault_of u)
some_there None f e = absurd (cc)
some_there (Some u) f e = (u, refl, cc)

pub no_fault : (us : Uses) → name_fault us ≡ None → AreNamed us
no_fault us e = none_broken name_rule us (none_there (first_broken name_rule us) e)

pub named_has_none : (us : Uses) → AreNamed us → name_fault us ≡ None
named_has_none us w = ap (option_map fault_of) (all_obeyed name_rule us w)

pub fault_is_first : (us : Uses) (f : NameFault) → name_fault us ≡ Some f → IsNameFault us f
fault_is_first us f e = let w = some_there (first_broken name_rule us) f e in (w.0, one_broken name_rule us w.0 w.1, w.2)

pub first_is_fault : (us : Uses) (f : NameFault) → IsNameFault us f → name_fault us ≡ Some f
first_is_fault us f w = ap (option_map fault_of) (first_is_found name_rule us w.0 w.1) ∙ ap Some (sym w.2)
