use Rattle.cv_scene.specs.Terms.{replications_at}
use Rattle.cv_derive_laws.proofs.stores.Terms.{term_sorted}
use Rattle.cv_derive_laws.proofs.stores.terms_at_places_have_sorts.Goals as goal

pub returns : goal.returns
returns c s place = term_sorted s (replications_at s place)
