use Rattle.std.proofs.Common.{Some}
use Rattle.cv_syntax.specs.PoolTrees.{tree_at}
use Rattle.cv_scene.specs.Scenes.{has_place}
use Rattle.cv_scene.specs.Terms.{is_term_at}
use Rattle.cv_scene_view.specs.Kept.{scene_of}
use Rattle.cv_scene_view.proofs.Tests.{not_first, ok_same, then_second}
use Rattle.cv_rule.proofs.rules.stands_at.Goals as goal

pub returns-then-not-has_place : goal.returns-then-not-has_place
returns-then-not-has_place c = not_first (has_place (scene_of c.args.work.now.pool c.args.work.now.decls c.args.game) c.args.place) (is_term_at (scene_of c.args.work.now.pool c.args.work.now.decls c.args.game) c.args.place (tree_at c.args.work.now.pool.trees (Some c.args.term))) c.has_place.result c.has_place.ensures c.if-not-has_place.true

pub returns : goal.returns
returns c = ok_same c.is_term_at.result _ _ (then_second (has_place (scene_of c.args.work.now.pool c.args.work.now.decls c.args.game) c.args.place) (is_term_at (scene_of c.args.work.now.pool c.args.work.now.decls c.args.game) c.args.place (tree_at c.args.work.now.pool.trees (Some c.args.term))) c.has_place.result c.has_place.ensures c.if-not-has_place.false) c.is_term_at.ensures
