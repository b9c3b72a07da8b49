use Rattle.std.proofs.Common.{refl}
use Rattle.cv_meaning.specs.Interpretation.{setting_of}
use Rattle.cv_derive_laws.proofs.stores.Stores.{typed_visits}
use Rattle.cv_derive_laws.proofs.stores.stores_are_typed_at_each_visit.Goals as goal

pub returns : goal.returns
returns c = λ ds game g w t k d i s m a.
    typed_visits ds game g w t k d i s m a (λ u. c.runs_only_grow.ensures.last ds (setting_of ds i) m a game u refl (c.games_are_contexts.ensures.games ds game w))
