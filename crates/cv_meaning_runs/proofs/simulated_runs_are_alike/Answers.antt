use Rattle.cv_meaning.specs.Experiments.{mode_of}
use Rattle.cv_meaning_runs.proofs.Simulation.{run_alike, games_alike}
use Rattle.cv_meaning_runs.proofs.Ends.{guesses_alike, experiments_alike, holds_alike, chances_alike}
use Rattle.cv_meaning_runs.proofs.simulated_runs_are_alike.Goals as goal

pub returns-clause-moves : goal.returns-clause-moves
returns-clause-moves r c g h m n t u s = run_alike (r.R.RunRelation.memories t) (r.R.RunRelation.inputs t) (r.R.RunRelation.expected t) g h m n t u s

pub returns-clause-games : goal.returns-clause-games
returns-clause-games r c a g h m n x y t u = games_alike (r.R.RunRelation.memories t) (r.R.RunRelation.inputs t) (r.R.RunRelation.expected t) a g h m n x y t u

pub returns-clause-guesses : goal.returns-clause-guesses
returns-clause-guesses r c t = guesses_alike (r.R.RunRelation.memories t) (r.R.RunRelation.inputs t)

pub returns-clause-experiments : goal.returns-clause-experiments
returns-clause-experiments r c t = experiments_alike (r.R.RunRelation.memories t) (r.R.RunRelation.inputs t)

pub returns-clause-chances : goal.returns-clause-chances
returns-clause-chances r c a g h x y p q e s =
    let all = r.R.RunRelation in
    chances_alike g h x y a p q (λ t. holds_alike (all.memories t) (all.inputs t) g h x y a p q t t (e t) (games_alike (all.memories t) (all.inputs t) (all.expected t) a g h (mode_of x) (mode_of y) p q t t (s t)))
