use Rattle.cv_inline_names_laws.proofs.drawn.OneSender.{is_of_the_grammar}
use Rattle.cv_inline_names_laws.proofs.drawn.one_sender_is_of_the_grammar.Goals as goal

pub returns : goal.returns
returns c = is_of_the_grammar
