use Rattle.cv_parse_grammar.proofs.Names.{no_fault, named_has_none, fault_is_first, first_is_fault}
use Rattle.cv_parse_grammar.proofs.laws.names_are_decided.Goals as goal

pub returns-clause-none : goal.returns-clause-none
returns-clause-none c = λ us. (no_fault us, named_has_none us)

pub returns-clause-first : goal.returns-clause-first
returns-clause-first c = λ us f. (fault_is_first us f, first_is_fault us f)
