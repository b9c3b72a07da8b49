use Rattle.std.proofs.Common.{length, sym, ◌∙◌}
use Rattle.cv_syntax.specs.PoolTrees.{tree_at}
use Rattle.cv_syntax.proofs.Trees.{child_above, child_live, empty_at, node_at}
use Rattle.cv_rule_codef.proofs.Looks.{above_empty, above_first, above_here, above_second}
use Rattle.cv_rule_codef.proofs.adjacent.+stands_above.Goals as goal

pub returns-then-is_defined_behind : goal.returns-then-is_defined_behind
returns-then-is_defined_behind t c =
    let trees = c.args.pool.now.trees in
    let node = c.read_node-node.result in
    let e = node_at trees c.tree.at c.in-Some.k node c.in-Some.is c.read_node-node.ensures.tree in
    sym (sym c.tree.invariant.same ∙ above_here c.args.x c.args.y (tree_at trees c.tree.at) node.head (tree_at trees node.first) (tree_at trees node.second) e (sym c.is_defined_behind.ensures ∙ c.if-is_defined_behind.true))

pub returns-then-stands_above : goal.returns-then-stands_above
returns-then-stands_above t c =
    let trees = c.args.pool.now.trees in
    let node = c.read_node-node.result in
    let e = node_at trees c.tree.at c.in-Some.k node c.in-Some.is c.read_node-node.ensures.tree in
    sym (sym c.tree.invariant.same ∙ above_first c.args.x c.args.y (tree_at trees c.tree.at) node.head (tree_at trees node.first) (tree_at trees node.second) e (sym c.is_defined_behind.ensures ∙ c.if-is_defined_behind.false) (sym c.stands_above.ensures ∙ c.if-stands_above.true))

pub tree-preserved : goal.tree-preserved
tree-preserved t c =
    let trees = c.args.pool.now.trees in
    let node = c.read_node-node.result in
    let e = node_at trees c.tree.at c.in-Some.k node c.in-Some.is c.read_node-node.ensures.tree in
    record {
      live = child_live (length trees) c.tree.at c.in-Some.k node.second c.in-Some.is c.tree.invariant.live c.read_node-node.ensures.second;
      less = child_above _ c.tree.at c.in-Some.k node.second c.in-Some.is c.tree.invariant.less c.read_node-node.ensures.second;
      same = sym (above_second c.args.x c.args.y (tree_at trees c.tree.at) node.head (tree_at trees node.first) (tree_at trees node.second) e (sym c.is_defined_behind.ensures ∙ c.if-is_defined_behind.false) (sym c.stands_above.ensures ∙ c.if-stands_above.false)) ∙ c.tree.invariant.same;
    }

pub returns : goal.returns
returns t c = sym (sym c.tree.invariant.same ∙ above_empty c.args.x c.args.y (tree_at c.args.pool.now.trees c.tree.at) (empty_at c.args.pool.now.trees c.tree.at c.in_default.is))
