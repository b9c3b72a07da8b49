use Rattle.cv_meaning_chances.proofs.unread.Chances.{split_serves, split_holds, split_chance}
use Rattle.cv_meaning_chances.proofs.unread.equal_bodies_serve_as_one.Goals as goal

pub returns-clause-served : goal.returns-clause-served
returns-clause-served c = split_serves

pub returns-clause-tests : goal.returns-clause-tests
returns-clause-tests c = split_holds

pub returns-clause-chances : goal.returns-clause-chances
returns-clause-chances c = split_chance
