use Rattle.std.proofs.Common.{ap, sym, ◌∙◌}
use Rattle.cv_scope_rules.specs.typing.Parts.{nothing_above}
use Rattle.cv_scene.specs.Terms.{indices_above, replications_at}
use Rattle.cv_scene_view.specs.Kept.{scene_of}
use Rattle.cv_query.proofs.pairs.Distinguishing.{both_above}
use Rattle.cv_query.proofs.pairs.sights.indices_of_pair.Goals as goal

pub returns : goal.returns
returns c =
    c.in_ok-add_indices.ensures
    ∙ (ap (λ f. indices_above f c.args.seconds.now) c.in_ok-above.ensures
    ∙ sym (both_above nothing_above (replications_at (scene_of c.args.work.now.pool c.args.work.now.decls c.args.game) c.args.place) c.args.seconds.now))
