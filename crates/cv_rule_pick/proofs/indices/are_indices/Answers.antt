use Rattle.std.proofs.Common.{sym, ◌∙◌}
use Rattle.cv_syntax.specs.PoolTrees.{tree_at}
use Rattle.cv_syntax.proofs.Trees.{empty_at, node_at}
use Rattle.cv_scene_view.specs.Kept.{scene_of}
use Rattle.cv_rule_pick.proofs.Standing.{indices_end, indices_short}
use Rattle.cv_rule_pick.proofs.indices.are_indices.Goals as goal

pub returns-in_default-left : goal.returns-in_default-left
returns-in_default-left c =
    let trees = c.args.work.now.pool.trees in
    let s = scene_of c.args.work.now.pool c.args.work.now.decls c.args.game in
    let node = c.read_node-binder.result in
    let e = node_at trees c.binders.at c.in-Some.n node c.in-Some.is c.read_node-binder.ensures.tree in
    sym (indices_short s c.args.place (tree_at trees c.binders.at) (tree_at trees c.binders.left) node.head _ _ (tree_at trees node.first) (tree_at trees node.second) e c.in-Binder.is (empty_at trees c.binders.left c.in_default-left.is)) ∙ c.binders.invariant.same

pub returns : goal.returns
returns c =
    let trees = c.args.work.now.pool.trees in
    let s = scene_of c.args.work.now.pool c.args.work.now.decls c.args.game in
    indices_end s c.args.place (tree_at trees c.binders.at) (tree_at trees c.binders.left) c.is_empty.result (empty_at trees c.binders.at c.in_default.is) c.is_empty.ensures.test ∙ c.binders.invariant.same
