use Rattle.cv_context_laws.proofs.types.Whole.{context_laid}
use Rattle.cv_context_laws.proofs.types.contexts_are_laid_out.Goals as goal

pub returns : goal.returns
returns c = context_laid
