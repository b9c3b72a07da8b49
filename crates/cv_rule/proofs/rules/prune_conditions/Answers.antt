use Rattle.std.proofs.Common.{sym, ◌∙◌}
use Rattle.cv_syntax.specs.PoolTrees.{tree_at}
use Rattle.cv_edit_changes.specs.pruning.Bodies.{part_of}
use Rattle.cv_scene_view.specs.Kept.{scene_of}
use Rattle.cv_rule.proofs.Rowed.{no_body, no_falsity, no_pruning_line, prune_holds}
use Rattle.cv_rule.proofs.rules.prune_conditions.Goals as goal

pub returns-in_default : goal.returns-in_default
returns-in_default c =
    let pool = c.args.work.now.pool in
    let s = scene_of pool c.args.work.now.decls c.args.game in
    let by = tree_at pool.trees c.args.by in
    let part = part_of c.args.body in
    no_body s c.args.place part by (sym c.in_default.is ∙ c.place_to_prune.ensures)

pub returns-in-Some-2 : goal.returns-in-Some-2
returns-in-Some-2 c =
    let pool = c.args.work.now.pool in
    let s = scene_of pool c.args.work.now.decls c.args.game in
    let by = tree_at pool.trees c.args.by in
    let part = part_of c.args.body in
    let e = sym c.in-Some.is ∙ c.place_to_prune.ensures in
    no_pruning_line s c.args.place part by c.in-Some.at e c.in-Some-2.line (sym c.in-Some-2.is ∙ c.in_ok-line.ensures)

pub returns-then-not-ends_with_falsity : goal.returns-then-not-ends_with_falsity
returns-then-not-ends_with_falsity c =
    let pool = c.args.work.now.pool in
    let s = scene_of pool c.args.work.now.decls c.args.game in
    let by = tree_at pool.trees c.args.by in
    let part = part_of c.args.body in
    let e = sym c.in-Some.is ∙ c.place_to_prune.ensures in
    let k = sym c.in_default-2.is ∙ c.in_ok-line.ensures in
    no_falsity s c.args.place part by c.in-Some.at e k c.ends_with_falsity.result c.ends_with_falsity.ensures c.if-not-ends_with_falsity.true

pub returns : goal.returns
returns c =
    let pool = c.args.work.now.pool in
    let s = scene_of pool c.args.work.now.decls c.args.game in
    let by = tree_at pool.trees c.args.by in
    let part = part_of c.args.body in
    let e = sym c.in-Some.is ∙ c.place_to_prune.ensures in
    let k = sym c.in_default-2.is ∙ c.in_ok-line.ensures in
    prune_holds s c.args.place part by c.in-Some.at e k c.ends_with_falsity.result c.ends_with_falsity.ensures c.if-not-ends_with_falsity.false
