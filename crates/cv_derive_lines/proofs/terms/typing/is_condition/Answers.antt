use Rattle.cv_derive_lines.proofs.terms.typing.is_condition.Goals as goal

pub returns : goal.returns
returns c = λ s e. c.is_term_of.ensures s e
