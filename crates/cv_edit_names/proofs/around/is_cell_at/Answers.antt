use Rattle.std.proofs.Common.{◌∙◌}
use Rattle.cv_edit_names.proofs.ListedCells.{same_turned}
use Rattle.cv_edit_names.proofs.around.is_cell_at.Goals as goal

pub returns : goal.returns
returns c = c.is_cell.ensures ∙ same_turned _ _
