use Rattle.cv_inline_names_laws.proofs.drawn.Laid.{chances_of_named, laid_out}
use Rattle.cv_inline_names_laws.proofs.drawn.contexts_with_drawn_names_are_laid_out.Goals as goal

pub returns-clause-laid_out : goal.returns-clause-laid_out
returns-clause-laid_out c n game side right text = laid_out n right game side text

pub returns-clause-chances : goal.returns-clause-chances
returns-clause-chances c = chances_of_named
