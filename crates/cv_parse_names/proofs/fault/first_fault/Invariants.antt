use Rattle.cv_parse_names.proofs.Reading.{IsReadTo}
use Rattle.cv_parse_names.proofs.fault.first_fault.Given as goal

abbrev pub invariant-uses : goal.invariant-uses
invariant-uses l = IsReadTo l.uses l.at l.table.items l.scope
