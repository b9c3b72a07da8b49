-- What is kept of a pool while steps are proposed.
use Rattle.cv_pool.proofs.Growth.{Grows_refl, Grows_trans}

pub ruleset growing = (Grows_refl, Grows_trans)
