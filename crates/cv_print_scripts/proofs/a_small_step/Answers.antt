use Rattle.cv_print_scripts.proofs.Small.{are, known, made_so, signs, text}
use Rattle.cv_print_scripts.proofs.a_small_step.Goals as goal

pub returns-clause-names : goal.returns-clause-names
returns-clause-names c = are

pub returns-clause-known : goal.returns-clause-known
returns-clause-known c = known

pub returns-clause-tree : goal.returns-clause-tree
returns-clause-tree c = made_so

pub returns-clause-text : goal.returns-clause-text
returns-clause-text c = text

pub returns-clause-signs : goal.returns-clause-signs
returns-clause-signs c = signs
