use Rattle.cv_meaning_chances.proofs.Covers.{reordered, chance_reordered}
use Rattle.cv_meaning_chances.proofs.reordered_cells.Goals as goal

pub returns-clause-counts : goal.returns-clause-counts
returns-clause-counts c = λ cs ds p t x h. (reordered cs ds x h).counts p t

pub returns-clause-totals : goal.returns-clause-totals
returns-clause-totals c = λ cs ds x h. (reordered cs ds x h).totals

pub returns-clause-chances : goal.returns-clause-chances
returns-clause-chances c = chance_reordered
