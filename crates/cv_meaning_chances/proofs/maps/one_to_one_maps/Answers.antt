use Rattle.cv_meaning_chances.proofs.maps.Maps.{unchanged, composed, undone}
use Rattle.cv_meaning_chances.proofs.maps.one_to_one_maps.Goals as goal

pub returns-clause-unchanged : goal.returns-clause-unchanged
returns-clause-unchanged c = unchanged

pub returns-clause-composed : goal.returns-clause-composed
returns-clause-composed c = composed

pub returns-clause-undone : goal.returns-clause-undone
returns-clause-undone c = undone
