use Rattle.cv_parse_names.specs.Table.{IsSurvey}
use Rattle.cv_parse_names.proofs.table.survey.Given as goal

abbrev pub invariant-uses : goal.invariant-uses
invariant-uses l = IsSurvey l.uses l.at l.table.items
