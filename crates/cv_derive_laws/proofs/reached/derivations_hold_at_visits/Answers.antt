use Rattle.std.proofs.Common.{refl}
use Rattle.std.specs.List.{AllByRecursion}
use Rattle.std.proofs.lemmas.List.Elements.{All-weaker}
use Rattle.cv_meaning.specs.Interpretation.{setting_of}
use Rattle.cv_meaning.specs.Experiments.{visits_of_run}
use Rattle.cv_meaning_runs.proofs.Placed.{visits_subtrees}
use Rattle.cv_derive_laws.specs.stores.Reached.{HasTypes}
use Rattle.cv_derive_laws.specs.stores.Holding.{HoldAtConditions, HoldAtFind, HoldAtVisit}
use Rattle.cv_derive_laws.proofs.reached.Reached.{all_tests_hold, finds_hold, visits_hold}
use Rattle.cv_derive_laws.proofs.reached.derivations_hold_at_visits.Goals as goal

pub returns-clause-places : goal.returns-clause-places
returns-clause-places c = λ s ready i model m a.
    let w = c.games_are_contexts.ensures.games s.declarations s.game ready.formed in
    All-weaker (λ t. AllByRecursion (HasTypes s.declarations s.game i) (visits_of_run (setting_of s.declarations i) m a s.game t)) (λ t. AllByRecursion (HoldAtVisit s i) (visits_of_run (setting_of s.declarations i) m a s.game t))
    (λ t h.
    visits_hold s i ready model (λ y. c.sites_stand_in_the_game.ensures.behind s.declarations s.game y w) (visits_of_run (setting_of s.declarations i) m a s.game t)
    (c.facts_hold_where_they_stand.ensures.places s.declarations (setting_of s.declarations i) m a s.game t refl w) (c.facts_hold_where_they_stand.ensures.sites s.declarations (setting_of s.declarations i) m a s.game t refl w) h
    (c.late_variables_are_unassigned.ensures.unassigned s.declarations (setting_of s.declarations i) m a s.game t w) (c.late_variables_are_unassigned.ensures.visited s.declarations (setting_of s.declarations i) m a s.game t refl w)) _
    (c.stores_are_typed_at_each_visit.ensures s.declarations s.game ready.arguments ready.formed ready.typed ready.names ready.sorts i model m a)

pub returns-clause-candidates : goal.returns-clause-candidates
returns-clause-candidates c = λ s ready i model m a.
    let w = c.games_are_contexts.ensures.games s.declarations s.game ready.formed in
    All-weaker (λ t. AllByRecursion (HasTypes s.declarations s.game i) (visits_of_run (setting_of s.declarations i) m a s.game t)) (λ t. AllByRecursion (HoldAtFind s i) (visits_of_run (setting_of s.declarations i) m a s.game t))
    (λ t h.
    finds_hold s i ready model (λ y. c.sites_stand_in_the_game.ensures.behind s.declarations s.game y w) (visits_of_run (setting_of s.declarations i) m a s.game t)
    (c.facts_hold_where_they_stand.ensures.places s.declarations (setting_of s.declarations i) m a s.game t refl w) (c.facts_hold_where_they_stand.ensures.candidates s.declarations (setting_of s.declarations i) m a s.game t refl w)
    (c.sites_stand_at_candidates.ensures s.declarations (setting_of s.declarations i) m a s.game t refl w) (visits_subtrees (setting_of s.declarations i) m a s.game t) h
    (c.late_variables_are_unassigned.ensures.unassigned s.declarations (setting_of s.declarations i) m a s.game t w) (c.late_variables_are_unassigned.ensures.visited s.declarations (setting_of s.declarations i) m a s.game t refl w)) _
    (c.stores_are_typed_at_each_visit.ensures s.declarations s.game ready.arguments ready.formed ready.typed ready.names ready.sorts i model m a)

pub returns-clause-conditions : goal.returns-clause-conditions
returns-clause-conditions c = λ s ready i model m a.
    let w = c.games_are_contexts.ensures.games s.declarations s.game ready.formed in
    All-weaker (λ t. AllByRecursion (HasTypes s.declarations s.game i) (visits_of_run (setting_of s.declarations i) m a s.game t)) (λ t. AllByRecursion (HoldAtConditions s i) (visits_of_run (setting_of s.declarations i) m a s.game t))
    (λ t h.
    all_tests_hold s i ready model (λ y. c.sites_stand_in_the_game.ensures.behind s.declarations s.game y w) (visits_of_run (setting_of s.declarations i) m a s.game t)
    (c.facts_hold_where_they_stand.ensures.places s.declarations (setting_of s.declarations i) m a s.game t refl w) (c.facts_hold_where_they_stand.ensures.candidates s.declarations (setting_of s.declarations i) m a s.game t refl w)
    (c.facts_hold_where_they_stand.ensures.sites s.declarations (setting_of s.declarations i) m a s.game t refl w) (c.cells_stand_between_stores.ensures.places s.declarations (setting_of s.declarations i) m a s.game t refl w)
    (c.cells_stand_between_stores.ensures.sites s.declarations (setting_of s.declarations i) m a s.game t refl w) (c.cells_are_assigned_once.ensures.own s.declarations (setting_of s.declarations i) m a s.game t w) (visits_subtrees (setting_of s.declarations i) m a s.game t) h
    (c.late_variables_are_unassigned.ensures.unassigned s.declarations (setting_of s.declarations i) m a s.game t w) (c.late_variables_are_unassigned.ensures.visited s.declarations (setting_of s.declarations i) m a s.game t refl w)) _
    (c.stores_are_typed_at_each_visit.ensures s.declarations s.game ready.arguments ready.formed ready.typed ready.names ready.sorts i model m a)
