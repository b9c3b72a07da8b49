use Rattle.cv_context_files.proofs.counts.Runs.{runs}
use Rattle.cv_context_files.proofs.counts.runs_of_contexts_are_within_their_shapes.Goals as goal

pub returns : goal.returns
returns c = λ r g m a t h e. runs r h g m a t e
