-- Want of memory, as a walk to a place of a tree ends by it.
use Rattle.cv_syntax.specs.declared.work.BuildError.TheVariants as build
use Rattle.cv_path.specs.declared.error.PathError.{PathError}
use Rattle.cv_path.specs.declared.error.PathError.TheVariants.{Build}

abbrev pub no_memory : PathError
no_memory = Build build.OutOfMemory
