use Rattle.std.proofs.Common.{not, ◌&&◌, ap, sym, ◌∙◌}
use Rattle.cv_scene.specs.Scenes.{is_queried}
use Rattle.cv_scene_view.specs.Kept.{scene_of}
use Rattle.cv_query_offences.proofs.Walks.{not_source, source_by}
use Rattle.cv_query_offences.proofs.copies.is_source.Goals as goal

pub returns-then-is_some : goal.returns-then-is_some
returns-then-is_some c = not_source (scene_of c.args.work.now.pool c.args.work.now.decls c.args.game) c.args.t c.args.y c.first_definition_but-other.result c.first_definition_but-other.ensures c.is_some.result c.is_some.ensures c.if-is_some.true

pub returns-then-is_some-2 : goal.returns-then-is_some-2
returns-then-is_some-2 c =
    let s = scene_of c.args.work.now.pool c.args.work.now.decls c.args.game in
    source_by s c.args.t c.args.y c.first_definition_but-other.result c.first_definition_but-other.ensures c.is_some.result c.is_some.ensures c.first_definition_but-any.result c.is_some-2.result _ c.if-is_some.false c.first_definition_but-any.ensures c.is_some-2.ensures (ap not c.is_queried.ensures ∙ ap (λ b. b && not (is_queried s c.args.y)) (sym c.if-is_some-2.true))

pub returns-else-is_some-2 : goal.returns-else-is_some-2
returns-else-is_some-2 c =
    let s = scene_of c.args.work.now.pool c.args.work.now.decls c.args.game in
    source_by s c.args.t c.args.y c.first_definition_but-other.result c.first_definition_but-other.ensures c.is_some.result c.is_some.ensures c.first_definition_but-any.result c.is_some-2.result _ c.if-is_some.false c.first_definition_but-any.ensures c.is_some-2.ensures (c.if-is_some-2.false ∙ ap (λ b. b && not (is_queried s c.args.y)) (sym c.if-is_some-2.false))
