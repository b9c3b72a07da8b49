use Rattle.std.proofs.Common.{length, sym, ◌∙◌}
use Rattle.cv_syntax.specs.PoolTrees.{tree_at}
use Rattle.cv_syntax.proofs.Trees.{child_above, child_live, empty_at, node_at}
use Rattle.cv_rule_codef.proofs.Looks.{below_empty, below_first, below_here, below_none, below_second}
use Rattle.cv_rule_codef.proofs.adjacent.+is_defined_below.Goals as goal

pub returns-then-is_replication : goal.returns-then-is_replication
returns-then-is_replication t c =
    let trees = c.args.pool.now.trees in
    let node = c.read_node-node.result in
    let e = node_at trees c.tree.at c.in-Some.k node c.in-Some.is c.read_node-node.ensures.tree in
    sym (sym c.tree.invariant.same ∙ below_none c.args.x (tree_at trees c.tree.at) node.head (tree_at trees node.first) (tree_at trees node.second) e (sym c.is_replication.ensures ∙ c.if-is_replication.true))

pub returns-then-is_definition : goal.returns-then-is_definition
returns-then-is_definition t c =
    let trees = c.args.pool.now.trees in
    let node = c.read_node-node.result in
    let e = node_at trees c.tree.at c.in-Some.k node c.in-Some.is c.read_node-node.ensures.tree in
    sym (sym c.tree.invariant.same ∙ below_here c.args.x (tree_at trees c.tree.at) node.head (tree_at trees node.first) (tree_at trees node.second) e (sym c.is_replication.ensures ∙ c.if-is_replication.false) (sym c.is_definition.ensures ∙ c.if-is_definition.true))

pub returns-then-is_defined_below : goal.returns-then-is_defined_below
returns-then-is_defined_below t c =
    let trees = c.args.pool.now.trees in
    let node = c.read_node-node.result in
    let e = node_at trees c.tree.at c.in-Some.k node c.in-Some.is c.read_node-node.ensures.tree in
    sym (sym c.tree.invariant.same ∙ below_first c.args.x (tree_at trees c.tree.at) node.head (tree_at trees node.first) (tree_at trees node.second) e (sym c.is_replication.ensures ∙ c.if-is_replication.false) (sym c.is_definition.ensures ∙ c.if-is_definition.false) (sym c.is_defined_below.ensures ∙ c.if-is_defined_below.true))

pub tree-preserved : goal.tree-preserved
tree-preserved t c =
    let trees = c.args.pool.now.trees in
    let node = c.read_node-node.result in
    let e = node_at trees c.tree.at c.in-Some.k node c.in-Some.is c.read_node-node.ensures.tree in
    record {
      live = child_live (length trees) c.tree.at c.in-Some.k node.second c.in-Some.is c.tree.invariant.live c.read_node-node.ensures.second;
      less = child_above _ c.tree.at c.in-Some.k node.second c.in-Some.is c.tree.invariant.less c.read_node-node.ensures.second;
      same = sym (below_second c.args.x (tree_at trees c.tree.at) node.head (tree_at trees node.first) (tree_at trees node.second) e (sym c.is_replication.ensures ∙ c.if-is_replication.false) (sym c.is_definition.ensures ∙ c.if-is_definition.false) (sym c.is_defined_below.ensures ∙ c.if-is_defined_below.false)) ∙ c.tree.invariant.same;
    }

pub returns : goal.returns
returns t c = sym (sym c.tree.invariant.same ∙ below_empty c.args.x (tree_at c.args.pool.now.trees c.tree.at) (empty_at c.args.pool.now.trees c.tree.at c.in_default.is))
