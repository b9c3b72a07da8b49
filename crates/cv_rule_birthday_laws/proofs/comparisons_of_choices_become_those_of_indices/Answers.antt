use Rattle.cv_rule_birthday_laws.proofs.Keeping.{costs}
use Rattle.cv_rule_birthday_laws.proofs.comparisons_of_choices_become_those_of_indices.Goals as goal

pub returns : goal.returns
returns c = λ ds game x type places large v well typed compares first sort chosen i y a. costs ds game x type places large v well typed compares first sort chosen i y a
