use Rattle.std.proofs.Common.{◌≡◌, List, drop, max}
use Rattle.cv_pool.specs.KindTree.{KindTree}
use Rattle.cv_syntax.specs.Declarations.{declarations}
use Rattle.cv_query_certificates.specs.Marks as marks
use Rattle.cv_query_parts.proofs.pairs.marks.declared_end.Given as goal

abbrev pub invariant-decls : goal.invariant-decls
invariant-decls l = (trees : List KindTree) → max l.end (marks.declared_end (declarations trees (drop l.k l.decls.list))) ≡ marks.declared_end (declarations trees l.decls.list)
