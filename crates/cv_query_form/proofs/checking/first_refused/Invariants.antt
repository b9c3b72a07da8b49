use Rattle.std.proofs.Common.{◌≡◌, ◌≤◌, Some, drop}
use Rattle.cv_syntax.specs.Declarations.{declarations}
use Rattle.cv_syntax.specs.PoolTrees.{tree_at}
use Rattle.cv_meaning.specs.Queries.{queries_in}
use Rattle.cv_query_form.specs.Tests.{first_refused}
use Rattle.cv_query_form.proofs.Parts.{behind}
use Rattle.cv_query_form.proofs.checking.first_refused.Given as goal

abbrev pub invariant-decls : goal.invariant-decls
invariant-decls l = record {
  few : l.number ≤ l.k;
  same : behind l.number (first_refused (tree_at l.work.pool.trees (Some l.fn.game.root)) (queries_in (declarations l.work.pool.trees (drop l.k l.work.decls.list)))) ≡ first_refused (tree_at l.work.pool.trees (Some l.fn.game.root)) (queries_in (declarations l.work.pool.trees l.work.decls.list));
}
