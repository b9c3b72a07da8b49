use Rattle.std.proofs.Common.{rules, ◌<◌, arith, length, sym, ◌∙◌}
use Rattle.cv_syntax.specs.PoolTrees.{tree_at}
use Rattle.cv_syntax.specs.Walks.{above}
use Rattle.cv_syntax.proofs.Trees.{child_above, child_live, empty_at, node_at}
use Rattle.cv_syntax.proofs.Walking.{above_child, above_some}
use Rattle.cv_scope.specs.Held.{names_held}
use Rattle.cv_scope_rules.specs.Phrases.{binds_none, head_binds_none}
use Rattle.cv_scene_view.proofs.Tested.{all_first, all_here, all_rest, binds_end, binds_node}
use Rattle.cv_scene_view.proofs.games.+binds_none.Goals as goal

pub returns-then-not-head_binds_none : goal.returns-then-not-head_binds_none
returns-then-not-head_binds_none t c =
    let trees = c.args.pool.now.trees in
    let node = c.read_node-node.result in
    let e = binds_node (names_held c.args.names.now).constant (tree_at trees c.tree.at) node.head (tree_at trees node.first) (tree_at trees node.second) (node_at trees c.tree.at c.in-Some.k node c.in-Some.is c.read_node-node.ensures.tree) in
    sym (all_here (binds_none (names_held c.args.names.now).constant (tree_at trees c.tree.at)) (head_binds_none (names_held c.args.names.now).constant node.head) (binds_none (names_held c.args.names.now).constant (tree_at trees node.first)) (binds_none (names_held c.args.names.now).constant (tree_at trees node.second)) c.head_binds_none.result e c.head_binds_none.ensures c.if-not-head_binds_none.true) ∙ c.tree.invariant.same

pub binds_none-requires : goal.binds_none-requires
binds_none-requires t c =
    let k = above_some c.tree.at c.in-Some.k c.in-Some.is in
    let b = above_child c.in-Some.k.0 c.read_node-node.result.first c.read_node-node.ensures.first in
    let less : above c.read_node-node.result.first < above c.args.tree = omega (arith, k, b, c.tree.invariant.less) in
    (search rules, child_live (length c.args.pool.now.trees) c.tree.at c.in-Some.k c.read_node-node.result.first c.in-Some.is c.tree.invariant.live c.read_node-node.ensures.first)

pub returns-then-not-binds_none : goal.returns-then-not-binds_none
returns-then-not-binds_none t c =
    let trees = c.args.pool.now.trees in
    let node = c.read_node-node.result in
    let e = binds_node (names_held c.args.names.now).constant (tree_at trees c.tree.at) node.head (tree_at trees node.first) (tree_at trees node.second) (node_at trees c.tree.at c.in-Some.k node c.in-Some.is c.read_node-node.ensures.tree) in
    sym (all_first (binds_none (names_held c.args.names.now).constant (tree_at trees c.tree.at)) (head_binds_none (names_held c.args.names.now).constant node.head) (binds_none (names_held c.args.names.now).constant (tree_at trees node.first)) (binds_none (names_held c.args.names.now).constant (tree_at trees node.second)) c.binds_none.result e c.binds_none.ensures c.if-not-binds_none.true) ∙ c.tree.invariant.same

pub tree-preserved : goal.tree-preserved
tree-preserved t c =
    let trees = c.args.pool.now.trees in
    let node = c.read_node-node.result in
    let e = binds_node (names_held c.args.names.now).constant (tree_at trees c.tree.at) node.head (tree_at trees node.first) (tree_at trees node.second) (node_at trees c.tree.at c.in-Some.k node c.in-Some.is c.read_node-node.ensures.tree) in
    record {
      live = child_live (length trees) c.tree.at c.in-Some.k node.second c.in-Some.is c.tree.invariant.live c.read_node-node.ensures.second;
      less = child_above _ c.tree.at c.in-Some.k node.second c.in-Some.is c.tree.invariant.less c.read_node-node.ensures.second;
      same = sym (all_rest (binds_none (names_held c.args.names.now).constant (tree_at trees c.tree.at)) (head_binds_none (names_held c.args.names.now).constant node.head) (binds_none (names_held c.args.names.now).constant (tree_at trees node.first)) (binds_none (names_held c.args.names.now).constant (tree_at trees node.second)) c.head_binds_none.result c.binds_none.result e c.head_binds_none.ensures c.if-not-head_binds_none.false c.binds_none.ensures c.if-not-binds_none.false) ∙ c.tree.invariant.same;
    }

pub returns : goal.returns
returns t c = sym (binds_end (names_held c.args.names.now).constant (tree_at c.args.pool.now.trees c.tree.at) (empty_at c.args.pool.now.trees c.tree.at c.in_default.is)) ∙ c.tree.invariant.same
