use Rattle.cv_meaning_chances.proofs.Renaming.{count_renamed, total_renamed, chance_renamed, distinct_renamed}
use Rattle.cv_meaning_chances.proofs.renamed_cells.Goals as goal

pub returns-clause-distinct : goal.returns-clause-distinct
returns-clause-distinct c = distinct_renamed

pub returns-clause-counts : goal.returns-clause-counts
returns-clause-counts c = count_renamed

pub returns-clause-totals : goal.returns-clause-totals
returns-clause-totals c = total_renamed

pub returns-clause-chances : goal.returns-clause-chances
returns-clause-chances c = chance_renamed
