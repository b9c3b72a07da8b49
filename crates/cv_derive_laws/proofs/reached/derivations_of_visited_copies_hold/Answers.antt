use Rattle.std.proofs.lemmas.List.Elements.{All-weaker}
use Rattle.cv_meaning.specs.Interpretation.{setting_of}
use Rattle.cv_meaning.specs.Experiments.{run, visits_of_run}
use Rattle.cv_derive_laws.specs.reached.Copies.{AreReachedInPairs, HoldInPairs}
use Rattle.cv_derive_laws.proofs.reached.derivations_of_visited_copies_hold.Goals as goal

pub returns : goal.returns
returns c = λ s ready i model m a.
    let g = setting_of s.declarations i in
    All-weaker (λ t. AreReachedInPairs s i (run g m a s.game t).memory (visits_of_run g m a s.game t)) (λ t. HoldInPairs s i (run g m a s.game t).memory (visits_of_run g m a s.game t))
    (λ t reached j l v w e f p q k above.
    c.derivations_of_two_copies_hold.ensures s ready i model v.place w.place k v.before.indices w.before.indices (run g m a s.game t).memory (reached j l v w e f p q k above)) _
    (c.visited_copies_stay_reached.ensures s ready i model m a)
