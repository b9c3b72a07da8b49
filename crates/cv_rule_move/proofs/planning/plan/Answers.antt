use Rattle.std.proofs.Common.{◌∙◌, ap, arith, length, Some, sym}
use Rattle.cv_syntax_trees.specs.Tree.{size}
use Rattle.cv_syntax.specs.PoolTrees.{tree_at}
use Rattle.cv_meaning.specs.Replaced.{replaced}
use Rattle.cv_scene.specs.Scenes.{part_at}
use Rattle.cv_steps.specs.Steps.{Leads, Zero}
use Rattle.cv_edit_places.specs.Parts.{top_of}
use Rattle.cv_rule_move.specs.Moving.{moved}
use Rattle.cv_rule_move.specs.Steps.{made_of_moved}
use Rattle.cv_rule_move.proofs.Planned.{moved_size, part_within}
use Rattle.cv_rule_move.proofs.planning.plan.Goals as goal

pub returns-in_ok-parts-in-Ok : goal.returns-in_ok-parts-in-Ok
returns-in_ok-parts-in-Ok c =
    let game = tree_at c.args.work.now.pool.trees (Some c.args.game) in
    let part = part_at game c.args.place in
    let m = c.in-Ok.ensures.movable in
    let r = c.in_ok-parts-in-Ok.ensures in
    let e = ap moved m.stands ∙ sym (ap top_of r.stack) in
    let l = part_within game c.args.place m.there in
    record {
      met = m.met;
      leads = m.leads ∙ ap (λ t. Leads (replaced game c.args.place t) Zero) e;
      made = r.made ∙ sym (ap made_of_moved m.stands);
      live = (r.live, omega (arith, ap length r.stack));
      fits = omega (arith, c.requires.small, moved_size part (omega (arith, c.requires.small, l)), ap size e);
      there = m.there;
    }
