use Rattle.std.proofs.Common.{◌≡◌, drop}
use Rattle.std.specs.List.{list_any}
use Rattle.cv_syntax.specs.Declarations.{declarations}
use Rattle.cv_meaning.specs.Queries.{queries_in}
use Rattle.cv_scene.specs.Scenes.{asks_for}
use Rattle.cv_scene_view.proofs.naming.is_queried.Given as goal

abbrev pub invariant-decls : goal.invariant-decls
invariant-decls l = record {
  same : list_any (asks_for l.x) (queries_in (declarations l.work.pool.trees (drop l.k l.work.decls.list))) ≡ list_any (asks_for l.x) (queries_in (declarations l.work.pool.trees l.work.decls.list));
}
