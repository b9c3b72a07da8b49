use Rattle.cv_rule_array_names.proofs.Leads.{alike}
use Rattle.cv_rule_array_names.proofs.laws.split_definitions_serve_alike.Goals as goal

pub returns : goal.returns
returns c = alike
