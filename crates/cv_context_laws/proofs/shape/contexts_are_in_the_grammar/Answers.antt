use Rattle.cv_context_laws.proofs.shape.Games.{context_part}
use Rattle.cv_context_laws.proofs.shape.contexts_are_in_the_grammar.Goals as goal

pub returns : goal.returns
returns c = context_part
