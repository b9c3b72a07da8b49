use Rattle.std.proofs.Common.{rules, ◌&&◌, ◌<◌, arith, length, sym, ◌∙◌}
use Rattle.cv_syntax.specs.PoolTrees.{tree_at}
use Rattle.cv_syntax.specs.Walks.{above}
use Rattle.cv_syntax.proofs.Trees.{child_above, child_live, empty_at, node_at}
use Rattle.cv_syntax.proofs.Walking.{above_child, above_some}
use Rattle.cv_scope_rules.specs.Sites.{Variable}
use Rattle.cv_scope_rules.specs.Made.{made_by}
use Rattle.cv_scene.specs.Scenes.{has_some_new, is_new_head}
use Rattle.cv_scene_view.proofs.Tested.{drawn_end, drawn_node, some_first, some_here, some_rest}
use Rattle.cv_scene_view.proofs.sites.+is_drawn.Goals as goal

pub is_draw_of-requires : goal.is_draw_of-requires
is_draw_of-requires t c = child_live (length c.args.pool.now.trees) c.tree.at c.in-Some.k c.read_node-node.result.first c.in-Some.is c.tree.invariant.live c.read_node-node.ensures.first

pub returns-then-is_draw_of : goal.returns-then-is_draw_of
returns-then-is_draw_of t c =
    let trees = c.args.pool.now.trees in
    let node = c.read_node-node.result in
    let e = drawn_node c.args.x (tree_at trees c.tree.at) node.head (tree_at trees node.first) (tree_at trees node.second) (node_at trees c.tree.at c.in-Some.k node c.in-Some.is c.read_node-node.ensures.tree) in
    sym (some_here (has_some_new c.args.x (tree_at trees c.tree.at)) (is_new_head node.head && made_by node.head (tree_at trees node.first) (Variable c.args.x)) (has_some_new c.args.x (tree_at trees node.first)) (has_some_new c.args.x (tree_at trees node.second)) c.is_draw_of.result e c.is_draw_of.ensures c.if-is_draw_of.true) ∙ c.tree.invariant.same

pub is_drawn-requires : goal.is_drawn-requires
is_drawn-requires t c =
    let k = above_some c.tree.at c.in-Some.k c.in-Some.is in
    let b = above_child c.in-Some.k.0 c.read_node-node.result.first c.read_node-node.ensures.first in
    let less : above c.read_node-node.result.first < above c.args.tree = omega (arith, k, b, c.tree.invariant.less) in
    (search rules, child_live (length c.args.pool.now.trees) c.tree.at c.in-Some.k c.read_node-node.result.first c.in-Some.is c.tree.invariant.live c.read_node-node.ensures.first)

pub returns-then-is_drawn : goal.returns-then-is_drawn
returns-then-is_drawn t c =
    let trees = c.args.pool.now.trees in
    let node = c.read_node-node.result in
    let e = drawn_node c.args.x (tree_at trees c.tree.at) node.head (tree_at trees node.first) (tree_at trees node.second) (node_at trees c.tree.at c.in-Some.k node c.in-Some.is c.read_node-node.ensures.tree) in
    sym (some_first (has_some_new c.args.x (tree_at trees c.tree.at)) (is_new_head node.head && made_by node.head (tree_at trees node.first) (Variable c.args.x)) (has_some_new c.args.x (tree_at trees node.first)) (has_some_new c.args.x (tree_at trees node.second)) c.is_drawn.result e c.is_drawn.ensures c.if-is_drawn.true) ∙ c.tree.invariant.same

pub tree-preserved : goal.tree-preserved
tree-preserved t c =
    let trees = c.args.pool.now.trees in
    let node = c.read_node-node.result in
    let e = drawn_node c.args.x (tree_at trees c.tree.at) node.head (tree_at trees node.first) (tree_at trees node.second) (node_at trees c.tree.at c.in-Some.k node c.in-Some.is c.read_node-node.ensures.tree) in
    record {
      live = child_live (length trees) c.tree.at c.in-Some.k node.second c.in-Some.is c.tree.invariant.live c.read_node-node.ensures.second;
      less = child_above _ c.tree.at c.in-Some.k node.second c.in-Some.is c.tree.invariant.less c.read_node-node.ensures.second;
      same = sym (some_rest (has_some_new c.args.x (tree_at trees c.tree.at)) (is_new_head node.head && made_by node.head (tree_at trees node.first) (Variable c.args.x)) (has_some_new c.args.x (tree_at trees node.first)) (has_some_new c.args.x (tree_at trees node.second)) c.is_draw_of.result c.is_drawn.result e c.is_draw_of.ensures c.if-is_draw_of.false c.is_drawn.ensures c.if-is_drawn.false) ∙ c.tree.invariant.same;
    }

pub returns : goal.returns
returns t c = sym (drawn_end c.args.x (tree_at c.args.pool.now.trees c.tree.at) (empty_at c.args.pool.now.trees c.tree.at c.in_default.is)) ∙ c.tree.invariant.same
