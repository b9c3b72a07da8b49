use Rattle.std.proofs.Common.{◌≡◌, List, drop}
use Rattle.cv_pool.specs.KindTree.{KindTree}
use Rattle.cv_syntax.specs.Declarations.{declarations}
use Rattle.cv_meaning.specs.Queries.{queries_in}
use Rattle.cv_scene.specs.Sights.{from_one}
use Rattle.cv_query.proofs.kinds.numbers.query_numbered.Given as goal

abbrev pub invariant-decls : goal.invariant-decls
invariant-decls l = (trees : List KindTree) → from_one (queries_in (declarations trees (drop l.k l.decls.list))) l.left ≡ from_one (queries_in (declarations trees l.decls.list)) l.number
