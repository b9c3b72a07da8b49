use Rattle.cv_meaning_chances.proofs.UnreadCells.{ignores_other, ignores_written, count_ignored, total_more, chance_ignored}
use Rattle.cv_meaning_chances.proofs.unread_cells.Goals as goal

pub returns-clause-other_cell : goal.returns-clause-other_cell
returns-clause-other_cell c = ignores_other

pub returns-clause-overwritten : goal.returns-clause-overwritten
returns-clause-overwritten c = ignores_written

pub returns-clause-counts : goal.returns-clause-counts
returns-clause-counts c = count_ignored

pub returns-clause-totals : goal.returns-clause-totals
returns-clause-totals c = total_more

pub returns-clause-chances : goal.returns-clause-chances
returns-clause-chances c = chance_ignored
