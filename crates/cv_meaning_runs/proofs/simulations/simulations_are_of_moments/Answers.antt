use Rattle.cv_meaning_runs.proofs.simulations.Simulations.{steps_of_moments, games_of_moments}
use Rattle.cv_meaning_runs.proofs.simulations.simulations_are_of_moments.Goals as goal

pub returns-clause-steps : goal.returns-clause-steps
returns-clause-steps r c g h m n t u = let all = r.R.RunRelation in steps_of_moments (all.memories t) (all.inputs t) (all.expected t) g h m n t u

pub returns-clause-games : goal.returns-clause-games
returns-clause-games r c a g h m n x y t u = let all = r.R.RunRelation in games_of_moments (all.memories t) (all.inputs t) (all.expected t) a g h m n x y t u
