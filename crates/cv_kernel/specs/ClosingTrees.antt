-- Steps that close a query, as nodes of a pool. This profile's own.
use Rattle.std.specs.Prelude.{List}
use Rattle.cv_pool.specs.KindTree.{KindTree}
use Rattle.cv_syntax.specs.PoolTrees.{tree_at}
use Rattle.cv_kernel.specs.declared.closing.Closing.{Closing as Code}
use Rattle.cv_kernel.specs.Closings.{Closing}

abbrev pub closing_tree : List KindTree → Code → Closing
closing_tree trees c = record { query = c.query; certificate = tree_at trees c.certificate }
