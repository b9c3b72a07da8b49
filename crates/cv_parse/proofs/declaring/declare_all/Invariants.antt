use Rattle.std.proofs.Common.{◌≡◌, ◌+◌, ◌++◌, length}
use Rattle.cv_parse.specs.Declaring.{all_decls}
use Rattle.cv_parse.proofs.Declarings.{Left}
use Rattle.cv_parse.proofs.declaring.declare_all.Given as goal

abbrev pub invariant-heard : goal.invariant-heard
invariant-heard l = record {
  few : length l.decls.list ≡ length l.fn.decls.list + l.k;
  left : Left l.decls.list l.heard l.roots l.k (l.fn.decls.list ++ all_decls l.heard l.roots);
  own : l.decls.own ≡ l.fn.decls.own;
}
