use Rattle.cv_steps_derivations.proofs.rewriting.Keeping.{rewrites}
use Rattle.cv_steps_derivations.proofs.rewriting.rewriting_keeps_chances.Goals as goal

pub returns : goal.returns
returns c = rewrites
