use Rattle.std.proofs.Common.{◌≡◌, ◌≤◌, drop}
use Rattle.cv_syntax.specs.Declarations.{declarations}
use Rattle.cv_group.specs.Tables.{symbols_in}
use Rattle.cv_group_rules.specs.Symbols.{symbols_of}
use Rattle.cv_group_rules.specs.Faults.{equivalences_in, first_group_fault}
use Rattle.cv_group.proofs.Lists.{behind}
use Rattle.cv_group.proofs.checking.check_all.Given as goal

abbrev pub invariant-decls : goal.invariant-decls
invariant-decls l = record {
  few : l.equiv ≤ l.k;
  symbols : symbols_in l.around.symbols ≡ symbols_of (declarations l.work.pool.trees l.work.decls.list);
  same : behind l.equiv (first_group_fault (symbols_of (declarations l.work.pool.trees l.work.decls.list)) (equivalences_in (declarations l.work.pool.trees (drop l.k l.work.decls.list)))) ≡ first_group_fault (symbols_of (declarations l.work.pool.trees l.work.decls.list)) (equivalences_in (declarations l.work.pool.trees l.work.decls.list));
}
