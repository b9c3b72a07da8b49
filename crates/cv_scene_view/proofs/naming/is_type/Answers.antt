use Rattle.std.proofs.Common.{◌∙◌}
use Rattle.cv_scene_view.proofs.Tested.{type_same}
use Rattle.cv_scene_view.proofs.naming.is_type.Goals as goal

pub returns : goal.returns
returns c = c.is_type_name.ensures ∙ type_same c.args.work.now.pool.trees c.args.work.now.decls.list c.args.t _ c.class.ensures.class
