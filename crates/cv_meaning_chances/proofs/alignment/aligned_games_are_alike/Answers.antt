use Rattle.cv_meaning_chances.proofs.alignment.Aligned.{services, simulates}
use Rattle.cv_meaning_chances.proofs.alignment.aligned_games_are_alike.Goals as goal

pub returns-clause-services : goal.returns-clause-services
returns-clause-services r c g h t u fine p q x y a w = services (r.R.Alignment.memories t) (r.R.Alignment.inputs t) (r.R.Alignment.points t) (r.R.Alignment.expected t) g h t u fine p q x y a w

pub returns-clause-runs : goal.returns-clause-runs
returns-clause-runs r c g h m n t u fine b = simulates (r.R.Alignment.memories t) (r.R.Alignment.inputs t) (r.R.Alignment.points t) (r.R.Alignment.expected t) g h t u fine m n b
