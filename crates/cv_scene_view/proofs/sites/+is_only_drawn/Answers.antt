use Rattle.std.proofs.Common.{rules, not, ◌<◌, arith, length, sym, ◌∙◌}
use Rattle.std.specs.Prelude.{◌||◌}
use Rattle.cv_syntax.specs.PoolTrees.{tree_at}
use Rattle.cv_syntax.specs.Walks.{above}
use Rattle.cv_syntax.proofs.Trees.{child_above, child_live, empty_at, node_at}
use Rattle.cv_syntax.proofs.Walking.{above_child, above_some}
use Rattle.cv_scope_rules.specs.Sites.{Variable}
use Rattle.cv_scope_rules.specs.Made.{made_by}
use Rattle.cv_scene.specs.Scenes.{has_news_alone, is_new_head}
use Rattle.cv_scene_view.proofs.Tested.{all_first, all_here, all_rest, only_end, only_node}
use Rattle.cv_scene_view.proofs.sites.+is_only_drawn.Goals as goal

pub may_define-requires : goal.may_define-requires
may_define-requires t c = child_live (length c.args.pool.now.trees) c.tree.at c.in-Some.k c.read_node-node.result.first c.in-Some.is c.tree.invariant.live c.read_node-node.ensures.first

pub returns-then-not-may_define : goal.returns-then-not-may_define
returns-then-not-may_define t c =
    let trees = c.args.pool.now.trees in
    let node = c.read_node-node.result in
    let e = only_node c.args.x (tree_at trees c.tree.at) node.head (tree_at trees node.first) (tree_at trees node.second) (node_at trees c.tree.at c.in-Some.k node c.in-Some.is c.read_node-node.ensures.tree) in
    sym (all_here (has_news_alone c.args.x (tree_at trees c.tree.at)) (is_new_head node.head || not (made_by node.head (tree_at trees node.first) (Variable c.args.x))) (has_news_alone c.args.x (tree_at trees node.first)) (has_news_alone c.args.x (tree_at trees node.second)) c.may_define.result e c.may_define.ensures c.if-not-may_define.true) ∙ c.tree.invariant.same

pub is_only_drawn-requires : goal.is_only_drawn-requires
is_only_drawn-requires t c =
    let k = above_some c.tree.at c.in-Some.k c.in-Some.is in
    let b = above_child c.in-Some.k.0 c.read_node-node.result.first c.read_node-node.ensures.first in
    let less : above c.read_node-node.result.first < above c.args.tree = omega (arith, k, b, c.tree.invariant.less) in
    (search rules, child_live (length c.args.pool.now.trees) c.tree.at c.in-Some.k c.read_node-node.result.first c.in-Some.is c.tree.invariant.live c.read_node-node.ensures.first)

pub returns-then-not-is_only_drawn : goal.returns-then-not-is_only_drawn
returns-then-not-is_only_drawn t c =
    let trees = c.args.pool.now.trees in
    let node = c.read_node-node.result in
    let e = only_node c.args.x (tree_at trees c.tree.at) node.head (tree_at trees node.first) (tree_at trees node.second) (node_at trees c.tree.at c.in-Some.k node c.in-Some.is c.read_node-node.ensures.tree) in
    sym (all_first (has_news_alone c.args.x (tree_at trees c.tree.at)) (is_new_head node.head || not (made_by node.head (tree_at trees node.first) (Variable c.args.x))) (has_news_alone c.args.x (tree_at trees node.first)) (has_news_alone c.args.x (tree_at trees node.second)) c.is_only_drawn.result e c.is_only_drawn.ensures c.if-not-is_only_drawn.true) ∙ c.tree.invariant.same

pub tree-preserved : goal.tree-preserved
tree-preserved t c =
    let trees = c.args.pool.now.trees in
    let node = c.read_node-node.result in
    let e = only_node c.args.x (tree_at trees c.tree.at) node.head (tree_at trees node.first) (tree_at trees node.second) (node_at trees c.tree.at c.in-Some.k node c.in-Some.is c.read_node-node.ensures.tree) in
    record {
      live = child_live (length trees) c.tree.at c.in-Some.k node.second c.in-Some.is c.tree.invariant.live c.read_node-node.ensures.second;
      less = child_above _ c.tree.at c.in-Some.k node.second c.in-Some.is c.tree.invariant.less c.read_node-node.ensures.second;
      same = sym (all_rest (has_news_alone c.args.x (tree_at trees c.tree.at)) (is_new_head node.head || not (made_by node.head (tree_at trees node.first) (Variable c.args.x))) (has_news_alone c.args.x (tree_at trees node.first)) (has_news_alone c.args.x (tree_at trees node.second)) c.may_define.result c.is_only_drawn.result e c.may_define.ensures c.if-not-may_define.false c.is_only_drawn.ensures c.if-not-is_only_drawn.false) ∙ c.tree.invariant.same;
    }

pub returns : goal.returns
returns t c = sym (only_end c.args.x (tree_at c.args.pool.now.trees c.tree.at) (empty_at c.args.pool.now.trees c.tree.at c.in_default.is)) ∙ c.tree.invariant.same
