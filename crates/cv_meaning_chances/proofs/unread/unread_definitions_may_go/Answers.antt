use Rattle.cv_meaning_runs.specs.Replacement.{Process}
use Rattle.cv_meaning_chances.proofs.unread.Alike.{runs_alike, holds_without}
use Rattle.cv_meaning_chances.proofs.unread.Chances.{chance_without}
use Rattle.cv_meaning_chances.proofs.unread.PutIn.{put_in}
use Rattle.cv_meaning_chances.proofs.unread.unread_definitions_may_go.Goals as goal

pub returns-clause-runs : goal.returns-clause-runs
returns-clause-runs c = runs_alike

pub returns-clause-tests : goal.returns-clause-tests
returns-clause-tests c = holds_without

pub returns-clause-chances : goal.returns-clause-chances
returns-clause-chances c xs g x a game next l u n d z e = chance_without g x a xs game next l u n d z e

pub returns-clause-local : goal.returns-clause-local
returns-clause-local c xs h a old game next place d s o r z = put_in xs h a old place Process 0 game next d s o r z
