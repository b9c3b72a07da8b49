use Rattle.cv_meaning_laws.proofs.Declared.{file_satisfied, constant_refused, equation_refused}
use Rattle.cv_meaning_laws.proofs.worked_declarations.Goals as goal

pub returns-clause-satisfied : goal.returns-clause-satisfied
returns-clause-satisfied c = file_satisfied

pub returns-clause-not_injective : goal.returns-clause-not_injective
returns-clause-not_injective c = constant_refused

pub returns-clause-equation_false : goal.returns-clause-equation_false
returns-clause-equation_false c = equation_refused
