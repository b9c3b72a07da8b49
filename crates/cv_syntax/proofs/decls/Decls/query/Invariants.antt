use Rattle.std.proofs.Common.{◌≡◌, ◌<◌, drop}
use Rattle.cv_syntax.specs.Classes.{queries, from_one}
use Rattle.cv_syntax.proofs.decls.Decls.query.Given as goal

abbrev pub invariant-loop-decl : goal.invariant-loop-decl
invariant-loop-decl l = record {
  left : 0 < l.left;
  found : from_one (queries (drop l.decl-index l.self.list)) l.left ≡ from_one (queries l.self.list) l.k;
}
