use Rattle.std.proofs.Common.{Some}
use Rattle.cv_syntax.specs.PoolTrees.{tree_at}
use Rattle.cv_scene.specs.Scenes.{has_place, is_type}
use Rattle.cv_scene.specs.Terms.{is_term_at}
use Rattle.cv_scene_view.specs.Kept.{scene_of}
use Rattle.cv_scene_view.proofs.Tests.{not_middle, ok_same, then_around}
use Rattle.cv_rule.proofs.rules.let_stands.Goals as goal

pub returns-then-not-is_type : goal.returns-then-not-is_type
returns-then-not-is_type c = not_middle (has_place (scene_of c.args.work.now.pool c.args.work.now.decls c.args.game) c.args.place) (is_type (scene_of c.args.work.now.pool c.args.work.now.decls c.args.game) c.args.of_type) (is_term_at (scene_of c.args.work.now.pool c.args.work.now.decls c.args.game) c.args.place (tree_at c.args.work.now.pool.trees (Some c.args.term))) c.is_type.result c.is_type.ensures c.if-not-is_type.true

pub returns : goal.returns
returns c = ok_same c.stands_at.result _ _ (then_around (has_place (scene_of c.args.work.now.pool c.args.work.now.decls c.args.game) c.args.place) (is_type (scene_of c.args.work.now.pool c.args.work.now.decls c.args.game) c.args.of_type) (is_term_at (scene_of c.args.work.now.pool c.args.work.now.decls c.args.game) c.args.place (tree_at c.args.work.now.pool.trees (Some c.args.term))) c.is_type.result c.is_type.ensures c.if-not-is_type.false) c.stands_at.ensures
