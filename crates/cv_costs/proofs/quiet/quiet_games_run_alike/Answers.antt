use Rattle.cv_costs.proofs.quiet.Served.{guesses, visits_related}
use Rattle.cv_costs.proofs.quiet.quiet_games_run_alike.Goals as goal

pub returns-clause-visits : goal.returns-clause-visits
returns-clause-visits r c g m n a game t u h =
    let all = r.T.Twins in
    visits_related all.kind all.link h.twins.linked g t u all.expected h.twins.draws h.twins.copies h.twins.others h.twins.finds m n h.twins.tells a game h.quiet h.twins.none h.coins h.moments

pub returns-clause-guesses : goal.returns-clause-guesses
returns-clause-guesses r c g m n a game t u h =
    let all = r.T.Twins in
    guesses all.kind all.link h.twins.linked g t u all.expected h.twins.draws h.twins.copies h.twins.others h.twins.finds m n h.twins.tells a game h.quiet h.twins.none h.coins h.moments
