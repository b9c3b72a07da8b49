use Rattle.cv_meaning_chances.proofs.Hits.{chance_some_equal}
use Rattle.cv_meaning_chances.proofs.equal_cells.Goals as goal

pub returns : goal.returns
returns c = chance_some_equal
