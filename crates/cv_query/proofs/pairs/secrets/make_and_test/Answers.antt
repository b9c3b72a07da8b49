use Rattle.std.proofs.Common.{rules, ◌≡◌, ℕ, ap₂, sym, subst, ◌∙◌}
use Rattle.cv_syntax.specs.PoolTrees.{tree_at}
use Rattle.cv_syntax_trees.specs.Tree.{Tree}
use Rattle.cv_scene.specs.Scenes.{Scene}
use Rattle.cv_scene_view.specs.Kept.{scene_of}
use Rattle.cv_query_parts.specs.Countable.{IsCountable}
use Rattle.cv_query.specs.pairs.CopyPairs.{lists_of_both}
use Rattle.cv_query.specs.pairs.Proved.{by_in, is_proved}
use Rattle.cv_query.proofs.pairs.Growing.{ready_grown, scene_grown}
use Rattle.cv_query.proofs.pairs.Tried.{plain_countable}
use Rattle.cv_query.proofs.pairs.secrets.make_and_test.Goals as goal

pub is_proved-requires-clause-ready : goal.is_proved-requires-clause-ready
is_proved-requires-clause-ready c =
    let old = c.args.work.now in
    ready_grown old.pool c.plant_tree.new.pool old.decls.list c.args.game c.args.arrays.now c.in-Ok.ensures.grows c.requires.ready

pub is_proved-requires-clause-few : goal.is_proved-requires-clause-few
is_proved-requires-clause-few c =
    let old = c.args.work.now in
    let lists = lists_of_both (scene_of old.pool old.decls c.args.game) c.args.taken.now.raise old.pool.trees c.args.pair in
    subst (λ (t : Tree). IsCountable (by_in t)) (sym (c.in-Ok.ensures.back lists c.requires.makes)) (plain_countable c.args.taken.now.raise (tree_at old.pool.trees c.args.pair.by) c.requires.pair.few)

pub returns-clause-proved : goal.returns-clause-proved
returns-clause-proved c =
    let old = c.args.work.now in
    let pair = c.args.pair in
    let taken = c.args.taken.now in
    let lists = lists_of_both (scene_of old.pool old.decls c.args.game) taken.raise old.pool.trees pair in
    let first : c.from-first.result ≡ pair.one.place = search rules in
    let second : c.from-second.result ≡ pair.other.place = search rules in
    c.in_ok-proved.ensures
    ∙ (ap₂ (λ (s : Scene) (t : Tree). is_proved s c.from-first.result c.from-second.result taken.raise taken.distinct.now c.args.ends.now t)
    (scene_grown old.pool c.plant_tree.new.pool c.in-Ok.ensures.grows old.decls c.args.game c.requires.ready.live c.requires.ready.declared)
    (c.in-Ok.ensures.back lists c.requires.makes)
    ∙ ap₂ (λ (p q : ℕ). is_proved (scene_of old.pool old.decls c.args.game) p q taken.raise taken.distinct.now c.args.ends.now lists) first second)
