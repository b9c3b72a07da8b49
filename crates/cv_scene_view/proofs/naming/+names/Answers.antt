use Rattle.std.proofs.Common.{rules, ◌<◌, arith, length, sym, ◌∙◌}
use Rattle.cv_syntax.specs.PoolTrees.{tree_at}
use Rattle.cv_syntax.specs.Walks.{above}
use Rattle.cv_syntax.proofs.Trees.{child_above, child_live, empty_at, node_at}
use Rattle.cv_syntax.proofs.Walking.{above_child, above_some}
use Rattle.cv_scene.specs.Scenes.{head_names, names}
use Rattle.cv_scene_view.proofs.Tested.{names_end, names_node, some_first, some_here, some_rest}
use Rattle.cv_scene_view.proofs.naming.+names.Goals as goal

pub returns-then-head_names : goal.returns-then-head_names
returns-then-head_names t c =
    let trees = c.args.pool.now.trees in
    let node = c.read_node-node.result in
    let e = names_node c.args.x (tree_at trees c.tree.at) node.head (tree_at trees node.first) (tree_at trees node.second) (node_at trees c.tree.at c.in-Some.k node c.in-Some.is c.read_node-node.ensures.tree) in
    sym (some_here (names c.args.x (tree_at trees c.tree.at)) (head_names c.args.x node.head) (names c.args.x (tree_at trees node.first)) (names c.args.x (tree_at trees node.second)) c.head_names.result e c.head_names.ensures c.if-head_names.true) ∙ c.tree.invariant.same

pub names-requires : goal.names-requires
names-requires t c =
    let k = above_some c.tree.at c.in-Some.k c.in-Some.is in
    let b = above_child c.in-Some.k.0 c.read_node-node.result.first c.read_node-node.ensures.first in
    let less : above c.read_node-node.result.first < above c.args.tree = omega (arith, k, b, c.tree.invariant.less) in
    (search rules, child_live (length c.args.pool.now.trees) c.tree.at c.in-Some.k c.read_node-node.result.first c.in-Some.is c.tree.invariant.live c.read_node-node.ensures.first)

pub returns-then-names : goal.returns-then-names
returns-then-names t c =
    let trees = c.args.pool.now.trees in
    let node = c.read_node-node.result in
    let e = names_node c.args.x (tree_at trees c.tree.at) node.head (tree_at trees node.first) (tree_at trees node.second) (node_at trees c.tree.at c.in-Some.k node c.in-Some.is c.read_node-node.ensures.tree) in
    sym (some_first (names c.args.x (tree_at trees c.tree.at)) (head_names c.args.x node.head) (names c.args.x (tree_at trees node.first)) (names c.args.x (tree_at trees node.second)) c.names.result e c.names.ensures c.if-names.true) ∙ c.tree.invariant.same

pub tree-preserved : goal.tree-preserved
tree-preserved t c =
    let trees = c.args.pool.now.trees in
    let node = c.read_node-node.result in
    let e = names_node c.args.x (tree_at trees c.tree.at) node.head (tree_at trees node.first) (tree_at trees node.second) (node_at trees c.tree.at c.in-Some.k node c.in-Some.is c.read_node-node.ensures.tree) in
    record {
      live = child_live (length trees) c.tree.at c.in-Some.k node.second c.in-Some.is c.tree.invariant.live c.read_node-node.ensures.second;
      less = child_above _ c.tree.at c.in-Some.k node.second c.in-Some.is c.tree.invariant.less c.read_node-node.ensures.second;
      same = sym (some_rest (names c.args.x (tree_at trees c.tree.at)) (head_names c.args.x node.head) (names c.args.x (tree_at trees node.first)) (names c.args.x (tree_at trees node.second)) c.head_names.result c.names.result e c.head_names.ensures c.if-head_names.false c.names.ensures c.if-names.false) ∙ c.tree.invariant.same;
    }

pub returns : goal.returns
returns t c = sym (names_end c.args.x (tree_at c.args.pool.now.trees c.tree.at) (empty_at c.args.pool.now.trees c.tree.at c.in_default.is)) ∙ c.tree.invariant.same
