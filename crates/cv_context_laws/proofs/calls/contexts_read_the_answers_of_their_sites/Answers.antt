use Rattle.cv_context_laws.proofs.calls.Alike.{alike_contexts}
use Rattle.cv_context_laws.proofs.calls.contexts_read_the_answers_of_their_sites.Goals as goal

pub returns : goal.returns
returns c = alike_contexts
