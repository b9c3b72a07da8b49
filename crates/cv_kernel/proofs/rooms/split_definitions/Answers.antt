use Rattle.std.proofs.Common.{◌<◌, length, subst, sym, ap, ◌∙◌}
use Rattle.std.specs.Prelude.{IfOk}
use Rattle.cv_syntax.specs.PoolTrees.{tree_at}
use Rattle.cv_scene_view.specs.Kept.{scene_of}
use Rattle.cv_edit_names.specs.Needs.{need_splitting}
use Rattle.cv_edit_names.specs.Splitting.{split_game}
use Rattle.cv_rule_array_names.specs.Planned.{AreNames}
use Rattle.cv_rule_array_names.specs.Sites.{listed_names}
use Rattle.cv_steps.specs.Steps.{Leads, Zero}
use Rattle.cv_kernel.proofs.rooms.split_definitions.Goals as goal

pub returns-in-Ok : goal.returns-in-Ok
returns-in-Ok c =
    let pool = c.args.work.now.pool in
    let s = scene_of pool c.args.work.now.decls c.args.game in
    let x = c.args.x in
    let ys = listed_names (tree_at pool.trees c.args.to) in
    let w = subst (λ r. IfOk r (λ v. AreNames s x ys v.items)) c.in-Ok.is c.in_ok-planned.ensures.names in
    let same = sym w.same in
    record {
      met = w.met;
      leads = w.leads ∙ ap (λ zs. Leads (split_game x zs s.game) Zero) same;
      need = ap (λ zs. need_splitting x zs s.game) same;
      can = subst (λ zs. 0 < length zs) same w.some;
    }
