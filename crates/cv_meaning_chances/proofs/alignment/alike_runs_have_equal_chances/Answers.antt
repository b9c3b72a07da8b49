use Rattle.cv_meaning.specs.Experiments.{mode_of}
use Rattle.cv_meaning_runs.proofs.Simulation.{games_alike}
use Rattle.cv_meaning_runs.proofs.Ends.{holds_alike}
use Rattle.cv_meaning_chances.proofs.alignment.Closing.{equal_under_names}
use Rattle.cv_meaning_chances.proofs.alignment.alike_runs_have_equal_chances.Goals as goal

pub returns-clause-tests : goal.returns-clause-tests
returns-clause-tests r c g h x y a name p q t e s =
    let all = r.R.RunRelation in
    holds_alike (all.memories t) (all.inputs t) g h x y a p q (λ d. t (name d)) t e (games_alike (all.memories t) (all.inputs t) (all.expected t) a g h (mode_of x) (mode_of y) p q (λ d. t (name d)) t s)

pub returns-clause-chances : goal.returns-clause-chances
returns-clause-chances r c g h x y a name p q one e s =
    equal_under_names g h x y a name p q one (λ t. returns-clause-tests r c g h x y a name p q t (e t) (s t))
