-- How the faults of the stages are answered.
use Rattle.cv_pool.specs.declared.pool.PoolError.{PoolError}
use Rattle.cv_pool.specs.declared.pool.PoolError.TheVariants as pool
use Rattle.cv_parse_terms.specs.declared.lookahead.ReadError.{ReadError}
use Rattle.cv_parse_terms.specs.declared.lookahead.ReadError.TheVariants as reading
use Rattle.cv_syntax.specs.declared.work.BuildError.TheVariants as build
use Rattle.cv_parse.specs.declared.error.ParseError.{ParseError}
use Rattle.cv_parse.specs.declared.error.ParseError.TheVariants.{Syntax, Nesting, Build}

abbrev pub of_read : ReadError → ParseError
of_read (reading.Syntax k) = Syntax k
of_read (reading.Nesting k) = Nesting k
of_read reading.OutOfMemory = Build build.OutOfMemory

abbrev pub of_pool : PoolError → ParseError
of_pool (pool.Full need) = Build (build.Full need)
of_pool pool.OutOfMemory = Build build.OutOfMemory
