use Rattle.std.proofs.Common.{◌≡◌, ◌+◌, arith, ap, ap₂, refl, sym, Some}
use Rattle.cv_syntax_trees.specs.Tree.{Node}
use Rattle.cv_syntax.specs.PoolTrees.{tree_at}
use Rattle.cv_scene.specs.Scenes.{part_at}
use Rattle.cv_scene_view.specs.Kept.{scene_of}
use Rattle.cv_scene_view.proofs.Tests.{ok_same}
use Rattle.cv_rule_move.specs.declared.merge.naming.Skip.{Skip}
use Rattle.cv_rule_move.specs.merge.Looks.{first_besides, is_skipped}
use Rattle.cv_rule_move.specs.merge.Merging.{is_beside}
use Rattle.cv_rule_move.specs.merge.Site.{body_of}
use Rattle.cv_rule_move.proofs.merge.Planned.{body_within, part_small, skip_beside}
use Rattle.cv_rule_move.proofs.merge.planning.named_besides.Goals as goal

pub size-requires-clause-fits : goal.size-requires-clause-fits
size-requires-clause-fits c =
    let trees = c.args.work.now.pool.trees in
    let game = tree_at trees (Some c.args.game) in
    omega (arith, c.requires.small, c.requires.site.there, body_within c.args.place (part_at game c.args.place) (body_of trees c.args.site) c.requires.site.body, part_small game c.args.place)

pub overflow_add-skip : goal.overflow_add-skip
overflow_add-skip c =
    let trees = c.args.work.now.pool.trees in
    let game = tree_at trees (Some c.args.game) in
    omega (arith, c.requires.small, c.requires.site.there, c.size.ensures, body_within c.args.place (part_at game c.args.place) (body_of trees c.args.site) c.requires.site.body, part_small game c.args.place)

pub returns : goal.returns
returns c =
    let trees = c.args.work.now.pool.trees in
    let s = scene_of c.args.work.now.pool c.args.work.now.decls c.args.game in
    let part = part_at (tree_at trees (Some c.args.game)) c.args.place in
    let k = c.args.site.construct in
    let b = body_of trees c.args.site in
    let skip : Skip = record { from = c.args.place; body = c.args.site.body; behind_body = c.args.site.body + c.size.result; behind = c.args.site.behind } in
    let places : is_skipped skip ≡ is_beside c.args.place part b = skip_beside c.args.place part b skip refl refl (ap (λ n. c.args.site.body + n) c.size.ensures) c.requires.site.behind in
    ok_same c.first_besides.result (first_besides s (Node k.head (tree_at trees k.first) (tree_at trees k.second)) (is_skipped skip)) (first_besides s part (is_beside c.args.place part b))
    (ap₂ (first_besides s) (sym c.requires.site.stands) places) c.first_besides.ensures
