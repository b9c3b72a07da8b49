use Rattle.cv_rule_codef.proofs.kept.Keeping.{game_keeps}
use Rattle.cv_rule_codef.proofs.kept.kept_facts_hold_at_visits.Goals as goal

pub returns-clause-visits : goal.returns-clause-visits
returns-clause-visits r c = λ g m a game t k. (game_keeps g t game (r.R.Kept.memories t) (r.R.Kept.inputs t) (r.R.Kept.points t) k m a).0

pub returns-clause-last : goal.returns-clause-last
returns-clause-last r c = λ g m a game t k. (game_keeps g t game (r.R.Kept.memories t) (r.R.Kept.inputs t) (r.R.Kept.points t) k m a).1
