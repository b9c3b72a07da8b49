use Rattle.std.proofs.Common.{List}
use Rattle.cv_syntax_trees.specs.Declarations.{Declaration}
use Rattle.cv_syntax_trees.specs.Tree.{Tree}
use Rattle.cv_scope_rules.specs.Context.{nothing_known}
use Rattle.cv_scope_rules.specs.Phrases.{Inputs, IsWellFormedContext}
use Rattle.cv_meaning.specs.Experiments.{run, visits_of_run, coins_on}
use Rattle.cv_meaning_runs.proofs.Placed.{visits_have}
use Rattle.cv_scope_runs.proofs.FactsRuns.{all_candidates_hold, all_cells_hold, all_places_hold, last_cells_hold}
use Rattle.cv_derive_facts.proofs.Covering.{all_candidates_stand, places_stand}
use Rattle.cv_derive_facts.proofs.Placing.{StandsSomewhere, game_stands, somewhere_passed}
use Rattle.cv_derive_facts.proofs.SitesStanding.{sites_stand, visits_stand}
use Rattle.cv_derive_facts.proofs.laws.facts_hold_where_they_stand.Goals as goal

root : (ds : List Declaration) (game : Tree) → IsWellFormedContext ds game → StandsSomewhere game 0 game
root ds game w = (Inputs, nothing_known, game_stands game w.phrase)

pub returns-clause-places : goal.returns-clause-places
unfolding visits_of_run
returns-clause-places c = λ ds g m a game t e w. places_stand g game _ (visits_have (StandsSomewhere game) g m a game t (somewhere_passed game) (root ds game w)) (all_places_hold ds g m (a.next (coins_on t 0 a.coins)) t a.moves game e w)

pub returns-clause-candidates : goal.returns-clause-candidates
unfolding visits_of_run
returns-clause-candidates c = λ ds g m a game t e w.
    let next = a.next (coins_on t 0 a.coins) in
    all_candidates_stand g game _ (visits_have (StandsSomewhere game) g m a game t (somewhere_passed game) (root ds game w)) (all_places_hold ds g m next t a.moves game e w) (all_candidates_hold ds g m next t a.moves game e w)

pub returns-clause-sites : goal.returns-clause-sites
unfolding visits_of_run
returns-clause-sites c = λ ds g m a game t e w. visits_stand g game _ (all_cells_hold ds g m (a.next (coins_on t 0 a.coins)) t a.moves game e w)

pub returns-clause-last : goal.returns-clause-last
unfolding run
returns-clause-last c = λ ds g m a game t e w. sites_stand g game _ (last_cells_hold ds g m (a.next (coins_on t 0 a.coins)) t a.moves game e w)
