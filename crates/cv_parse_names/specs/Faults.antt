-- A fault of names as the rules state it.
use Rattle.cv_parse_grammar.specs.Names.{NameFault as Fault, NameTwice, NameUnknown}
use Rattle.cv_parse_names.specs.declared.fault.NameFault.{NameFault}
use Rattle.cv_parse_names.specs.declared.fault.NameFault.TheVariants.{Twice, Unknown}

abbrev pub fault_in : NameFault → Fault
fault_in (Twice left) = NameTwice left
fault_in (Unknown left) = NameUnknown left
