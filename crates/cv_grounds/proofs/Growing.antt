-- A pool with the trees that it had has grown.
use Rattle.cv_pool.proofs.Growth.{ChildBelow_more, Grows_at, Grows_child, Grows_length, Grows_same, Grows_trans}

pub ruleset growing = (Grows_length, Grows_at, Grows_child, ChildBelow_more, Grows_trans, Grows_same)
