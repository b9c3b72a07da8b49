use Rattle.std.proofs.Common.{ap, map, sym, ◌∙◌}
use Rattle.cv_scene.specs.Late.{index_term}
use Rattle.cv_scene_view.specs.Kept.{scene_of}
use Rattle.cv_query_parts.specs.Said.{way_seen}
use Rattle.cv_query_parts.specs.pairs.Routes.{indices_by}
use Rattle.cv_query_parts.proofs.pairs.routes.indices_of.Goals as goal

pub returns-in_ok-found-in-Above-clause-trees : goal.returns-in_ok-found-in-Above-clause-trees
returns-in_ok-found-in-Above-clause-trees c =
    let trees = c.args.work.now.pool.trees in
    c.in_ok-found-in-Above.ensures.trees trees
    ∙ (ap (map index_term) (c.as_slice.ensures.value ∙ c.in_ok-rows-in-Above.ensures)
    ∙ ap (λ r. indices_by (scene_of c.args.work.now.pool c.args.work.now.decls c.args.game) (way_seen trees r)) (sym c.in-Above.is))
