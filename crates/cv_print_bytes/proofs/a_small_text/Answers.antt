use Rattle.cv_print_bytes.proofs.Small.{are, named, text, signs}
use Rattle.cv_print_bytes.proofs.a_small_text.Goals as goal

pub returns-clause-names : goal.returns-clause-names
returns-clause-names c = are

pub returns-clause-named : goal.returns-clause-named
returns-clause-named c = named

pub returns-clause-text : goal.returns-clause-text
returns-clause-text c = text

pub returns-clause-signs : goal.returns-clause-signs
returns-clause-signs c = signs
