use Rattle.std.proofs.Common.{Some, ap, sym, subst, ◌∙◌}
use Rattle.cv_syntax_trees.specs.Tree.{Tree}
use Rattle.cv_syntax.specs.PoolTrees.{tree_at}
use Rattle.cv_syntax.proofs.limits.Counting.{one_made}
use Rattle.cv_scene.specs.Scenes.{Scene}
use Rattle.cv_scene_view.specs.Kept.{scene_of}
use Rattle.cv_query_parts.specs.Countable.{IsCountable}
use Rattle.cv_query_parts.specs.pairs.Lists.{lists_of}
use Rattle.cv_query.specs.pairs.Proved.{by_in, is_proved}
use Rattle.cv_query.proofs.pairs.Growing.{ready_grown, scene_grown}
use Rattle.cv_query.proofs.pairs.Tried.{plain_countable}
use Rattle.cv_query.proofs.pairs.proving.make_and_test.Goals as goal

pub is_proved-requires-clause-ready : goal.is_proved-requires-clause-ready
is_proved-requires-clause-ready c =
    ready_grown c.args.work.now.pool c.plant_tree.new.pool c.args.work.now.decls.list c.args.game c.args.arrays.now c.in-Ok.ensures.grows c.requires.ready

pub is_proved-requires-clause-few : goal.is_proved-requires-clause-few
is_proved-requires-clause-few c =
    let s : Scene = scene_of c.args.work.now.pool c.args.work.now.decls c.args.game in
    let trees = c.args.work.now.pool.trees in
    let lists = lists_of s c.args.names.now.raise c.args.names.now.rows.now c.args.ends.now.rows.items trees c.args.pairing in
    let planted = c.in-Ok.ensures.tree lists (one_made c.args.makes.now lists c.requires.makes) in
    subst (λ t. IsCountable (by_in t)) (sym planted) (plain_countable c.args.names.now.raise (tree_at trees c.args.pairing.by) c.requires.met.few)

pub returns-clause-proved : goal.returns-clause-proved
returns-clause-proved c =
    let s : Scene = scene_of c.args.work.now.pool c.args.work.now.decls c.args.game in
    let trees = c.args.work.now.pool.trees in
    let lists = lists_of s c.args.names.now.raise c.args.names.now.rows.now c.args.ends.now.rows.items trees c.args.pairing in
    let planted = c.in-Ok.ensures.tree lists (one_made c.args.makes.now lists c.requires.makes) in
    let is = λ (z : Scene) (t : Tree). is_proved z c.args.pairing.first c.args.pairing.second c.args.taken.now.raise c.args.taken.now.distinct.now c.args.ends.now t in
    c.in_ok-proved.ensures
    ∙ (ap (λ (z : Scene). is z (tree_at c.plant_tree.new.pool.trees (Some c.in-Ok.root))) (scene_grown c.args.work.now.pool c.plant_tree.new.pool c.in-Ok.ensures.grows c.args.work.now.decls c.args.game c.requires.ready.live c.requires.ready.declared)
    ∙ ap (is s) planted)
