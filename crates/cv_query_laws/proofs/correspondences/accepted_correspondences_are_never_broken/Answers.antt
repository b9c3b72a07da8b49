use Rattle.cv_meaning.specs.Chances.{zero_chance}
use Rattle.cv_meaning.specs.Correspondences.{correspondence_of}
use Rattle.cv_meaning.specs.Interpretation.{setting_of}
use Rattle.cv_meaning.specs.Runs.{Events}
use Rattle.cv_query_laws.proofs.correspondences.Closing.{as_advantage, never_broken, no_chance}
use Rattle.cv_query_laws.proofs.correspondences.accepted_correspondences_are_never_broken.Goals as goal

pub returns-clause-tapes : goal.returns-clause-tapes
returns-clause-tapes c = λ s query certificate p plain i model a.
    never_broken s query certificate p i model plain (λ es. c.broken_says_its_sentence.ensures.kept (setting_of s.declarations i) (correspondence_of query) es) a
    (c.stores_are_typed_at_each_visit.ensures s.declarations s.game p.ready.arguments p.ready.formed p.ready.typed p.ready.names p.ready.sorts i model Events a)

pub returns-clause-chance : goal.returns-clause-chance
returns-clause-chance c = λ s query certificate p plain i model a.
    no_chance s query certificate p i model plain (λ es. c.broken_says_its_sentence.ensures.kept (setting_of s.declarations i) (correspondence_of query) es) a
    (c.stores_are_typed_at_each_visit.ensures s.declarations s.game p.ready.arguments p.ready.formed p.ready.typed p.ready.names p.ready.sorts i model Events a)

pub returns-clause-query : goal.returns-clause-query
returns-clause-query c = λ s query certificate p plain i model a.
    as_advantage (setting_of s.declarations i) query a s.game zero_chance p.correspondence
    (no_chance s query certificate p i model plain (λ es. c.broken_says_its_sentence.ensures.kept (setting_of s.declarations i) (correspondence_of query) es) a
    (c.stores_are_typed_at_each_visit.ensures s.declarations s.game p.ready.arguments p.ready.formed p.ready.typed p.ready.names p.ready.sorts i model Events a))
