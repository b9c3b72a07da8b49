use Rattle.std.proofs.Common.{length, sym, ◌∙◌}
use Rattle.cv_syntax.specs.PoolTrees.{tree_at}
use Rattle.cv_syntax.proofs.Trees.{child_above, child_live, empty_at, node_at}
use Rattle.cv_rule_codef.proofs.Looks.{joined_empty, joined_first, joined_here, joined_second}
use Rattle.cv_rule_codef.proofs.adjacent.+are_joined.Goals as goal

pub returns-then-defines_both : goal.returns-then-defines_both
returns-then-defines_both t c =
    let trees = c.args.pool.now.trees in
    let node = c.read_node-node.result in
    let e = node_at trees c.tree.at c.in-Some.k node c.in-Some.is c.read_node-node.ensures.tree in
    sym (sym c.tree.invariant.same ∙ joined_here c.args.x c.args.y (tree_at trees c.tree.at) node.head (tree_at trees node.first) (tree_at trees node.second) e (sym c.defines_both.ensures ∙ c.if-defines_both.true))

pub returns-then-are_joined : goal.returns-then-are_joined
returns-then-are_joined t c =
    let trees = c.args.pool.now.trees in
    let node = c.read_node-node.result in
    let e = node_at trees c.tree.at c.in-Some.k node c.in-Some.is c.read_node-node.ensures.tree in
    sym (sym c.tree.invariant.same ∙ joined_first c.args.x c.args.y (tree_at trees c.tree.at) node.head (tree_at trees node.first) (tree_at trees node.second) e (sym c.defines_both.ensures ∙ c.if-defines_both.false) (sym c.are_joined.ensures ∙ c.if-are_joined.true))

pub tree-preserved : goal.tree-preserved
tree-preserved t c =
    let trees = c.args.pool.now.trees in
    let node = c.read_node-node.result in
    let e = node_at trees c.tree.at c.in-Some.k node c.in-Some.is c.read_node-node.ensures.tree in
    record {
      live = child_live (length trees) c.tree.at c.in-Some.k node.second c.in-Some.is c.tree.invariant.live c.read_node-node.ensures.second;
      less = child_above _ c.tree.at c.in-Some.k node.second c.in-Some.is c.tree.invariant.less c.read_node-node.ensures.second;
      same = sym (joined_second c.args.x c.args.y (tree_at trees c.tree.at) node.head (tree_at trees node.first) (tree_at trees node.second) e (sym c.defines_both.ensures ∙ c.if-defines_both.false) (sym c.are_joined.ensures ∙ c.if-are_joined.false)) ∙ c.tree.invariant.same;
    }

pub returns : goal.returns
returns t c = sym (sym c.tree.invariant.same ∙ joined_empty c.args.x c.args.y (tree_at c.args.pool.now.trees c.tree.at) (empty_at c.args.pool.now.trees c.tree.at c.in_default.is))
