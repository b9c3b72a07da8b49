use Rattle.std.proofs.Common.{ap, arith, sym, ◌∙◌}
use Rattle.cv_syntax.specs.PoolTrees.{tree_at}
use Rattle.cv_syntax.proofs.Trees.{empty_at}
use Rattle.cv_scene.specs.Scenes.{first_reading}
use Rattle.cv_rule_move.proofs.FirstPlaces.{reading_below, reading_from, reading_nowhere}
use Rattle.cv_rule_move.proofs.naming.reading.Goals as goal

pub returns-in_default : goal.returns-in_default
returns-in_default c = reading_nowhere c.args.x c.args.from (tree_at c.args.pool.now.trees c.args.part) (empty_at c.args.pool.now.trees c.args.part c.in_default.is)

pub overflow_add-result : goal.overflow_add-result
overflow_add-result c =
    let trees = c.args.pool.now.trees in
    omega (
      arith,
      c.requires.fits,
      reading_below c.args.x 0 c.in-Some-first_reading.place (tree_at trees c.args.part)
          (ap (λ o. first_reading c.args.x 0 (tree_at trees o)) c.in-Some.is ∙ sym c.in-Some-first_reading.ensures),
    )

pub returns-in-Some-first_reading : goal.returns-in-Some-first_reading
returns-in-Some-first_reading c =
    let trees = c.args.pool.now.trees in
    reading_from c.args.x c.args.from (tree_at trees c.args.part) _ (c.in-Some-first_reading.ensures ∙ sym (ap (λ o. first_reading c.args.x 0 (tree_at trees o)) c.in-Some.is))

pub returns-in-None : goal.returns-in-None
returns-in-None c =
    let trees = c.args.pool.now.trees in
    reading_from c.args.x c.args.from (tree_at trees c.args.part) _ (c.in-None.ensures ∙ sym (ap (λ o. first_reading c.args.x 0 (tree_at trees o)) c.in-Some.is))
