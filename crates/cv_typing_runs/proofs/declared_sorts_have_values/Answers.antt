use Rattle.cv_typing_runs.proofs.Models.{is_model}
use Rattle.cv_typing_runs.proofs.declared_sorts_have_values.Goals as goal

pub returns : goal.returns
returns c = is_model
