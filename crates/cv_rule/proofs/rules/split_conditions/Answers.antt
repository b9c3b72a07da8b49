use Rattle.std.proofs.Common.{Some, None, refl}
use Rattle.cv_syntax.specs.PoolTrees.{tree_at}
use Rattle.cv_steps.specs.Changes.{change_at, split_process}
use Rattle.cv_steps.specs.Rows.{unless}
use Rattle.cv_scene.specs.Scenes.{is_output_at}
use Rattle.cv_steps.specs.Steps.{Leads, Zero}
use Rattle.cv_scene.specs.Terms.{is_bool_at}
use Rattle.cv_scene_view.specs.Kept.{scene_of}
use Rattle.cv_rule.proofs.Rowed.{fails_here, goes_on}
use Rattle.cv_rule.proofs.rules.split_conditions.Goals as goal

pub returns-then-not-is_output_at : goal.returns-then-not-is_output_at
returns-then-not-is_output_at c = fails_here (is_output_at (scene_of c.args.work.now.pool c.args.work.now.decls c.args.game) c.args.place) (unless (is_bool_at (scene_of c.args.work.now.pool c.args.work.now.decls c.args.game) c.args.place (tree_at c.args.work.now.pool.trees (Some c.args.condition))) 2 0 (Leads (change_at ((scene_of c.args.work.now.pool c.args.work.now.decls c.args.game).game) c.args.place (split_process (tree_at c.args.work.now.pool.trees (Some c.args.condition)))) Zero)) 1 0 c.is_output_at.result c.is_output_at.ensures c.if-not-is_output_at.true

pub returns-then-not-branch : goal.returns-then-not-branch
returns-then-not-branch c = goes_on (is_output_at (scene_of c.args.work.now.pool c.args.work.now.decls c.args.game) c.args.place) (unless (is_bool_at (scene_of c.args.work.now.pool c.args.work.now.decls c.args.game) c.args.place (tree_at c.args.work.now.pool.trees (Some c.args.condition))) 2 0 (Leads (change_at ((scene_of c.args.work.now.pool c.args.work.now.decls c.args.game).game) c.args.place (split_process (tree_at c.args.work.now.pool.trees (Some c.args.condition)))) Zero)) 1 0 c.is_output_at.result _ c.is_output_at.ensures c.if-not-is_output_at.false (fails_here (is_bool_at (scene_of c.args.work.now.pool c.args.work.now.decls c.args.game) c.args.place (tree_at c.args.work.now.pool.trees (Some c.args.condition))) (Leads (change_at ((scene_of c.args.work.now.pool c.args.work.now.decls c.args.game).game) c.args.place (split_process (tree_at c.args.work.now.pool.trees (Some c.args.condition)))) Zero) 2 0 c.in_ok-is_bool_at.field-0 c.in_ok-is_bool_at.ensures c.if-not-branch.true)

pub returns : goal.returns
returns c = goes_on (is_output_at (scene_of c.args.work.now.pool c.args.work.now.decls c.args.game) c.args.place) (unless (is_bool_at (scene_of c.args.work.now.pool c.args.work.now.decls c.args.game) c.args.place (tree_at c.args.work.now.pool.trees (Some c.args.condition))) 2 0 (Leads (change_at ((scene_of c.args.work.now.pool c.args.work.now.decls c.args.game).game) c.args.place (split_process (tree_at c.args.work.now.pool.trees (Some c.args.condition)))) Zero)) 1 0 c.is_output_at.result _ c.is_output_at.ensures c.if-not-is_output_at.false (goes_on (is_bool_at (scene_of c.args.work.now.pool c.args.work.now.decls c.args.game) c.args.place (tree_at c.args.work.now.pool.trees (Some c.args.condition))) (Leads (change_at ((scene_of c.args.work.now.pool c.args.work.now.decls c.args.game).game) c.args.place (split_process (tree_at c.args.work.now.pool.trees (Some c.args.condition)))) Zero) 2 0 c.in_ok-is_bool_at.field-0 None c.in_ok-is_bool_at.ensures c.if-not-branch.false refl)
