use Rattle.std.proofs.Common.{◌≡◌, Some, drop}
use Rattle.cv_syntax.specs.Declarations.{declarations}
use Rattle.cv_syntax.specs.PoolTrees.{tree_at}
use Rattle.cv_meaning.specs.Queries.{queries_in}
use Rattle.cv_steps_laws.specs.crypto.Secrets.{some_asks_without_values}
use Rattle.cv_kernel_crypto.proofs.testing.some_asks_without_values.Given as goal

abbrev pub invariant-decls : goal.invariant-decls
invariant-decls l = record {
  same : some_asks_without_values (tree_at l.work.pool.trees (Some l.game)) (queries_in (declarations l.work.pool.trees (drop l.k l.work.decls.list))) ≡ some_asks_without_values (tree_at l.work.pool.trees (Some l.game)) (queries_in (declarations l.work.pool.trees l.work.decls.list));
}
