-- How a pool without room ends the making of a game.
use Rattle.cv_pool.specs.declared.pool.PoolError.{PoolError}
use Rattle.cv_pool.specs.declared.pool.PoolError.TheVariants as pool
use Rattle.cv_syntax.specs.declared.work.BuildError.TheVariants as build
use Rattle.cv_path.specs.declared.error.PathError.{PathError}
use Rattle.cv_path.specs.declared.error.PathError.TheVariants.{Build}
use Rattle.cv_path.specs.Refusals.{no_memory}

abbrev pub no_room : PoolError → PathError
no_room (pool.Full need) = Build (build.Full need)
no_room pool.OutOfMemory = no_memory
