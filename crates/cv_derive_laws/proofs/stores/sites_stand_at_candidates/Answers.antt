use Rattle.cv_meaning.specs.Experiments.{visits_of_run}
use Rattle.cv_meaning_runs.proofs.Placed.{visits_subtrees}
use Rattle.cv_derive_laws.proofs.stores.Sites.{all_visit_sites}
use Rattle.cv_derive_laws.proofs.stores.sites_stand_at_candidates.Goals as goal

pub returns : goal.returns
returns c = λ ds g m a game t e w.
    all_visit_sites g game (visits_of_run g m a game t) (c.facts_hold_where_they_stand.ensures.candidates ds g m a game t e w) (c.cells_are_assigned_once.ensures.own ds g m a game t w)
    (c.facts_hold_where_they_stand.ensures.sites ds g m a game t e w) (visits_subtrees g m a game t)
