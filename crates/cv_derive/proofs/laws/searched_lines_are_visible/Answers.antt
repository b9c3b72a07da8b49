use Rattle.cv_derive.proofs.Seeing.{seen_from_first}
use Rattle.cv_derive.proofs.laws.searched_lines_are_visible.Goals as goal

pub returns : goal.returns
returns c = seen_from_first
