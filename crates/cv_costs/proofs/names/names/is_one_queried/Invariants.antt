use Rattle.std.proofs.Common.{◌≡◌, drop}
use Rattle.std.specs.List.{list_any}
use Rattle.cv_syntax.specs.Declarations.{declarations}
use Rattle.cv_syntax.specs.NameSets.{is_in}
use Rattle.cv_meaning.specs.Queries.{queries_in}
use Rattle.cv_costs.specs.names.Naming.{asks_for_one}
use Rattle.cv_costs.proofs.names.names.is_one_queried.Given as goal

abbrev pub invariant-decls : goal.invariant-decls
invariant-decls l = record {
  same : list_any (asks_for_one (is_in l.fn.names)) (queries_in (declarations l.work.pool.trees (drop l.k l.work.decls.list))) ≡ list_any (asks_for_one (is_in l.fn.names)) (queries_in (declarations l.work.pool.trees l.work.decls.list));
}
