use Rattle.std.proofs.Common.{◌≤◌, arith}
use Rattle.cv_match_laws.proofs.answers.Many.{are_answers}
use Rattle.cv_match_laws.proofs.answers.answers_above_are_answers.Goals as goal

pub returns : goal.returns
returns c ds own game sites = are_answers ds own own game sites (let l : own ≤ own = omega arith in l)
