use Rattle.std.proofs.Common.{rules, ◌<◌, arith, length, sym, ◌∙◌}
use Rattle.cv_syntax.specs.Declarations.{declarations}
use Rattle.cv_syntax.specs.PoolTrees.{tree_at}
use Rattle.cv_syntax.specs.Walks.{above}
use Rattle.cv_syntax.proofs.Trees.{child_above, child_live, empty_at, node_at}
use Rattle.cv_syntax.proofs.Walking.{above_child, above_some}
use Rattle.cv_scene_view.proofs.Tested.{all_first, all_here, all_rest}
use Rattle.cv_steps_laws.specs.crypto.Sorts.{has_declared_sorts, names_declared}
use Rattle.cv_kernel_crypto.proofs.Declared.{sorts_end, sorts_node}
use Rattle.cv_kernel_crypto.proofs.sorts.+has_declared_sorts.Goals as goal

pub names_declared-requires : goal.names_declared-requires
names_declared-requires t c = child_live (length c.args.pool.now.trees) c.tree.at c.in-Some.n c.read_node-node.result.first c.in-Some.is c.tree.invariant.live c.read_node-node.ensures.first

pub returns-then-not-names_declared : goal.returns-then-not-names_declared
returns-then-not-names_declared t c =
    let trees = c.args.pool.now.trees in
    let ds = declarations trees c.args.decls.now.list in
    let node = c.read_node-node.result in
    let e = sorts_node ds (tree_at trees c.tree.at) node.head (tree_at trees node.first) (tree_at trees node.second) (node_at trees c.tree.at c.in-Some.n node c.in-Some.is c.read_node-node.ensures.tree) in
    sym (all_here (has_declared_sorts ds (tree_at trees c.tree.at)) (names_declared ds node.head (tree_at trees node.first)) (has_declared_sorts ds (tree_at trees node.first)) (has_declared_sorts ds (tree_at trees node.second)) c.names_declared.result e c.names_declared.ensures c.if-not-names_declared.true) ∙ c.tree.invariant.same

pub has_declared_sorts-requires : goal.has_declared_sorts-requires
has_declared_sorts-requires t c =
    let k = above_some c.tree.at c.in-Some.n c.in-Some.is in
    let b = above_child c.in-Some.n.0 c.read_node-node.result.first c.read_node-node.ensures.first in
    let less : above c.read_node-node.result.first < above c.args.tree = omega (arith, k, b, c.tree.invariant.less) in
    (search rules, child_live (length c.args.pool.now.trees) c.tree.at c.in-Some.n c.read_node-node.result.first c.in-Some.is c.tree.invariant.live c.read_node-node.ensures.first)

pub returns-then-not-has_declared_sorts : goal.returns-then-not-has_declared_sorts
returns-then-not-has_declared_sorts t c =
    let trees = c.args.pool.now.trees in
    let ds = declarations trees c.args.decls.now.list in
    let node = c.read_node-node.result in
    let e = sorts_node ds (tree_at trees c.tree.at) node.head (tree_at trees node.first) (tree_at trees node.second) (node_at trees c.tree.at c.in-Some.n node c.in-Some.is c.read_node-node.ensures.tree) in
    sym (all_first (has_declared_sorts ds (tree_at trees c.tree.at)) (names_declared ds node.head (tree_at trees node.first)) (has_declared_sorts ds (tree_at trees node.first)) (has_declared_sorts ds (tree_at trees node.second)) c.has_declared_sorts.result e c.has_declared_sorts.ensures c.if-not-has_declared_sorts.true) ∙ c.tree.invariant.same

pub tree-preserved : goal.tree-preserved
tree-preserved t c =
    let trees = c.args.pool.now.trees in
    let ds = declarations trees c.args.decls.now.list in
    let node = c.read_node-node.result in
    let e = sorts_node ds (tree_at trees c.tree.at) node.head (tree_at trees node.first) (tree_at trees node.second) (node_at trees c.tree.at c.in-Some.n node c.in-Some.is c.read_node-node.ensures.tree) in
    record {
      live = child_live (length trees) c.tree.at c.in-Some.n node.second c.in-Some.is c.tree.invariant.live c.read_node-node.ensures.second;
      less = child_above _ c.tree.at c.in-Some.n node.second c.in-Some.is c.tree.invariant.less c.read_node-node.ensures.second;
      same = sym (all_rest (has_declared_sorts ds (tree_at trees c.tree.at)) (names_declared ds node.head (tree_at trees node.first)) (has_declared_sorts ds (tree_at trees node.first)) (has_declared_sorts ds (tree_at trees node.second)) c.names_declared.result c.has_declared_sorts.result e c.names_declared.ensures c.if-not-names_declared.false c.has_declared_sorts.ensures c.if-not-has_declared_sorts.false) ∙ c.tree.invariant.same;
    }

pub returns : goal.returns
returns t c = sym (sorts_end (declarations c.args.pool.now.trees c.args.decls.now.list) (tree_at c.args.pool.now.trees c.tree.at) (empty_at c.args.pool.now.trees c.tree.at c.in_default.is)) ∙ c.tree.invariant.same
