use Rattle.cv_meaning.specs.Experiments.{mode_of}
use Rattle.cv_meaning_runs.proofs.Ends.{guesses_alike, holds_alike}
use Rattle.cv_meaning_runs.proofs.simulations.Together.{moves_alike, tests_of_moves_alike, moments_of_moves_alike, games_alike, tests_alike, moments_alike}
use Rattle.cv_meaning_runs.proofs.simulations.simulated_moments_are_alike.Goals as goal

pub returns-clause-moves : goal.returns-clause-moves
returns-clause-moves r c g h m n t u = let all = r.R.MomentRelation in moves_alike (all.memories t) (all.inputs t) (all.visits t) (all.expected t) g h m n t u

pub returns-clause-tests_of_moves : goal.returns-clause-tests_of_moves
returns-clause-tests_of_moves r c g h m n t u = let all = r.R.MomentRelation in tests_of_moves_alike (all.memories t) (all.inputs t) (all.visits t) (all.expected t) g h m n t u

pub returns-clause-moments_of_moves : goal.returns-clause-moments_of_moves
returns-clause-moments_of_moves r c g h m n t u = let all = r.R.MomentRelation in moments_of_moves_alike (all.memories t) (all.inputs t) (all.visits t) (all.expected t) g h m n t u

pub returns-clause-games : goal.returns-clause-games
returns-clause-games r c a g h m n x y t u = let all = r.R.MomentRelation in games_alike (all.memories t) (all.inputs t) (all.visits t) (all.expected t) a g h m n x y t u

pub returns-clause-tests : goal.returns-clause-tests
returns-clause-tests r c a g h m n x y t u = let all = r.R.MomentRelation in tests_alike (all.memories t) (all.inputs t) (all.visits t) (all.expected t) a g h m n x y t u

pub returns-clause-moments : goal.returns-clause-moments
returns-clause-moments r c a g h m n x y t u = let all = r.R.MomentRelation in moments_alike (all.memories t) (all.inputs t) (all.visits t) (all.expected t) a g h m n x y t u

pub returns-clause-guesses : goal.returns-clause-guesses
returns-clause-guesses r c t = guesses_alike (r.R.MomentRelation.memories t) (r.R.MomentRelation.inputs t)

pub returns-clause-experiments : goal.returns-clause-experiments
returns-clause-experiments r c a g h x y p q t u e s =
    let all = r.R.MomentRelation in
    holds_alike (all.memories t) (all.inputs t) g h x y a p q t u e (games_alike (all.memories t) (all.inputs t) (all.visits t) (all.expected t) a g h (mode_of x) (mode_of y) p q t u s)
