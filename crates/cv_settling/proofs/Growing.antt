-- A pool that stays as it is, or only gets nodes.
use Rattle.cv_pool.proofs.Growth.{Grows_refl, Grows_same, Grows_trans}

pub ruleset growing = (Grows_same, Grows_refl, Grows_trans)
