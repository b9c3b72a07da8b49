use Rattle.std.proofs.Common.{◌∙◌, ap, arith, length, Some, sym}
use Rattle.cv_syntax_trees.specs.Tree.{size}
use Rattle.cv_syntax.specs.PoolTrees.{tree_at}
use Rattle.cv_scene.specs.Scenes.{part_at}
use Rattle.cv_scene_view.specs.Kept.{scene_of}
use Rattle.cv_edit_places.specs.Parts.{top_of}
use Rattle.cv_rule_codef.proofs.Planned.{built, change_small, leads_to, made_is, standing, there}
use Rattle.cv_rule_codef.proofs.planning.plan.Goals as goal

pub returns-in_ok-parts-in-Ok : goal.returns-in_ok-parts-in-Ok
returns-in_ok-parts-in-Ok c =
    let trees = c.args.work.now.pool.trees in
    let s = scene_of c.args.work.now.pool c.args.work.now.decls c.args.game in
    let p = c.args.place in
    let adds = c.args.adds in
    let above = c.args.above in
    let to = tree_at trees (Some c.args.to) in
    let from = tree_at trees (Some c.args.from) in
    let t = part_at s.game p in
    let m = c.in-Ok.site in
    let site = c.in-Ok.ensures.site in
    let r = c.in_ok-parts-in-Ok.ensures in
    let e = built trees t m site.branch adds to ∙ sym (ap top_of r.stack) in
    record {
      met = standing s p adds above to from c.in_ok-stands.field-0 c.in_ok-stands.ensures c.if-not-branch.false ∙ site.met;
      leads = leads_to s p adds above to from _ site.met e;
      made = r.made ∙ sym (made_is trees t m site.branch adds to);
      live = (r.live, omega (arith, ap length r.stack));
      fits = omega (arith, change_small adds to s.game p c.requires.small c.requires.short, ap size e);
      there = there s p adds above to from c.in_ok-stands.field-0 c.in_ok-stands.ensures c.if-not-branch.false;
    }
