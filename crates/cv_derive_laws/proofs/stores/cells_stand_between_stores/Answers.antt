use Rattle.cv_meaning.specs.Experiments.{coins_on, visits_of_run}
use Rattle.cv_scope_rules.specs.Scope.{is_variable}
use Rattle.cv_scope_runs.proofs.FactsRuns.{well_game}
use Rattle.cv_scope_runs.proofs.ServeRuns.{game_holds}
use Rattle.cv_derive_laws.proofs.stores.Between.{all_between}
use Rattle.cv_derive_laws.proofs.stores.cells_stand_between_stores.Goals as goal

pub returns-clause-places : goal.returns-clause-places
unfolding visits_of_run
returns-clause-places c = λ ds g m a game t e w.
    let fine = well_game ds g game e w in
    (all_between g (is_variable game) game fine _ (game_holds g (is_variable game) game fine m (a.next (coins_on t 0 a.coins)) t a.moves).passes.visits).0

pub returns-clause-sites : goal.returns-clause-sites
unfolding visits_of_run
returns-clause-sites c = λ ds g m a game t e w.
    let fine = well_game ds g game e w in
    (all_between g (is_variable game) game fine _ (game_holds g (is_variable game) game fine m (a.next (coins_on t 0 a.coins)) t a.moves).passes.visits).1
