use Rattle.std.proofs.Common.{rules, ◌<◌, arith, length, sym, ◌∙◌}
use Rattle.cv_syntax.specs.NameSets.{is_in}
use Rattle.cv_syntax.specs.PoolTrees.{tree_at}
use Rattle.cv_syntax.specs.Walks.{above}
use Rattle.cv_syntax.proofs.Trees.{child_above, child_live, empty_at, node_at}
use Rattle.cv_syntax.proofs.Walking.{above_child, above_some}
use Rattle.cv_rule_array_names.specs.Sites.{has_some, head_has}
use Rattle.cv_rule_array_names.proofs.NewNames.{has_end, has_node, some_first, some_here, some_rest}
use Rattle.cv_rule_array_names.proofs.names.+has_some.Goals as goal

pub returns-then-head_has : goal.returns-then-head_has
returns-then-head_has t c =
    let trees = c.args.pool.now.trees in
    let q = is_in c.args.names.now in
    let node = c.read_node-node.result in
    let e = has_node q (tree_at trees c.tree.at) node.head (tree_at trees node.first) (tree_at trees node.second) (node_at trees c.tree.at c.in-Some.k node c.in-Some.is c.read_node-node.ensures.tree) in
    sym (some_here (has_some q (tree_at trees c.tree.at)) (head_has q node.head) (has_some q (tree_at trees node.first)) (has_some q (tree_at trees node.second)) c.head_has.result e c.head_has.ensures c.if-head_has.true) ∙ c.tree.invariant.same

pub has_some-requires : goal.has_some-requires
has_some-requires t c =
    let k = above_some c.tree.at c.in-Some.k c.in-Some.is in
    let b = above_child c.in-Some.k.0 c.read_node-node.result.first c.read_node-node.ensures.first in
    let less : above c.read_node-node.result.first < above c.args.tree = omega (arith, k, b, c.tree.invariant.less) in
    (search rules, child_live (length c.args.pool.now.trees) c.tree.at c.in-Some.k c.read_node-node.result.first c.in-Some.is c.tree.invariant.live c.read_node-node.ensures.first)

pub returns-then-has_some : goal.returns-then-has_some
returns-then-has_some t c =
    let trees = c.args.pool.now.trees in
    let q = is_in c.args.names.now in
    let node = c.read_node-node.result in
    let e = has_node q (tree_at trees c.tree.at) node.head (tree_at trees node.first) (tree_at trees node.second) (node_at trees c.tree.at c.in-Some.k node c.in-Some.is c.read_node-node.ensures.tree) in
    sym (some_first (has_some q (tree_at trees c.tree.at)) (head_has q node.head) (has_some q (tree_at trees node.first)) (has_some q (tree_at trees node.second)) c.has_some.result e c.has_some.ensures c.if-has_some.true) ∙ c.tree.invariant.same

pub tree-preserved : goal.tree-preserved
tree-preserved t c =
    let trees = c.args.pool.now.trees in
    let q = is_in c.args.names.now in
    let node = c.read_node-node.result in
    let e = has_node q (tree_at trees c.tree.at) node.head (tree_at trees node.first) (tree_at trees node.second) (node_at trees c.tree.at c.in-Some.k node c.in-Some.is c.read_node-node.ensures.tree) in
    record {
      live = child_live (length trees) c.tree.at c.in-Some.k node.second c.in-Some.is c.tree.invariant.live c.read_node-node.ensures.second;
      less = child_above _ c.tree.at c.in-Some.k node.second c.in-Some.is c.tree.invariant.less c.read_node-node.ensures.second;
      same = sym (some_rest (has_some q (tree_at trees c.tree.at)) (head_has q node.head) (has_some q (tree_at trees node.first)) (has_some q (tree_at trees node.second)) c.head_has.result c.has_some.result e c.head_has.ensures c.if-head_has.false c.has_some.ensures c.if-has_some.false) ∙ c.tree.invariant.same;
    }

pub returns : goal.returns
returns t c = sym (has_end (is_in c.args.names.now) (tree_at c.args.pool.now.trees c.tree.at) (empty_at c.args.pool.now.trees c.tree.at c.in_default.is)) ∙ c.tree.invariant.same
