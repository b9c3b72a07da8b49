use Rattle.std.proofs.Common.{rules, ◌<◌, arith, length, sym, ◌∙◌}
use Rattle.cv_syntax.specs.PoolTrees.{tree_at}
use Rattle.cv_syntax.specs.Walks.{above}
use Rattle.cv_syntax.proofs.Trees.{child_above, child_live, empty_at, node_at}
use Rattle.cv_syntax.proofs.Walking.{above_child, above_some}
use Rattle.cv_scene.specs.Late.{is_defined_in}
use Rattle.cv_scope_rules.specs.Made.{made_by}
use Rattle.cv_scope_rules.specs.Sites.{Variable}
use Rattle.cv_derive_reasons.proofs.late.Coming.{defined_end, defined_node, some_first, some_here, some_rest}
use Rattle.cv_derive_reasons.proofs.late.+is_defined_in.Goals as goal

pub returns-then-is_definition : goal.returns-then-is_definition
returns-then-is_definition t c =
    let trees = c.args.pool.now.trees in
    let node = c.read_node-node.result in
    let e = defined_node c.args.x (tree_at trees c.tree.at) node.head (tree_at trees node.first) (tree_at trees node.second) (node_at trees c.tree.at c.in-Some.k node c.in-Some.is c.read_node-node.ensures.tree) in
    sym (some_here (is_defined_in c.args.x (tree_at trees c.tree.at)) (made_by node.head (tree_at trees node.first) (Variable c.args.x)) (is_defined_in c.args.x (tree_at trees node.first)) (is_defined_in c.args.x (tree_at trees node.second)) c.is_definition.result e c.is_definition.ensures c.if-is_definition.true) ∙ c.tree.invariant.same

pub is_defined_in-requires : goal.is_defined_in-requires
is_defined_in-requires t c =
    let k = above_some c.tree.at c.in-Some.k c.in-Some.is in
    let b = above_child c.in-Some.k.0 c.read_node-node.result.first c.read_node-node.ensures.first in
    let less : above c.read_node-node.result.first < above c.args.tree = omega (arith, k, b, c.tree.invariant.less) in
    (search rules, child_live (length c.args.pool.now.trees) c.tree.at c.in-Some.k c.read_node-node.result.first c.in-Some.is c.tree.invariant.live c.read_node-node.ensures.first)

pub returns-then-is_defined_in : goal.returns-then-is_defined_in
returns-then-is_defined_in t c =
    let trees = c.args.pool.now.trees in
    let node = c.read_node-node.result in
    let e = defined_node c.args.x (tree_at trees c.tree.at) node.head (tree_at trees node.first) (tree_at trees node.second) (node_at trees c.tree.at c.in-Some.k node c.in-Some.is c.read_node-node.ensures.tree) in
    sym (some_first (is_defined_in c.args.x (tree_at trees c.tree.at)) (made_by node.head (tree_at trees node.first) (Variable c.args.x)) (is_defined_in c.args.x (tree_at trees node.first)) (is_defined_in c.args.x (tree_at trees node.second)) c.is_defined_in.result e c.is_defined_in.ensures c.if-is_defined_in.true) ∙ c.tree.invariant.same

pub tree-preserved : goal.tree-preserved
tree-preserved t c =
    let trees = c.args.pool.now.trees in
    let node = c.read_node-node.result in
    let e = defined_node c.args.x (tree_at trees c.tree.at) node.head (tree_at trees node.first) (tree_at trees node.second) (node_at trees c.tree.at c.in-Some.k node c.in-Some.is c.read_node-node.ensures.tree) in
    record {
      live = child_live (length trees) c.tree.at c.in-Some.k node.second c.in-Some.is c.tree.invariant.live c.read_node-node.ensures.second;
      less = child_above _ c.tree.at c.in-Some.k node.second c.in-Some.is c.tree.invariant.less c.read_node-node.ensures.second;
      same = sym (some_rest (is_defined_in c.args.x (tree_at trees c.tree.at)) (made_by node.head (tree_at trees node.first) (Variable c.args.x)) (is_defined_in c.args.x (tree_at trees node.first)) (is_defined_in c.args.x (tree_at trees node.second)) c.is_definition.result c.is_defined_in.result e c.is_definition.ensures c.if-is_definition.false c.is_defined_in.ensures c.if-is_defined_in.false) ∙ c.tree.invariant.same;
    }

pub returns : goal.returns
returns t c = sym (defined_end c.args.x (tree_at c.args.pool.now.trees c.tree.at) (empty_at c.args.pool.now.trees c.tree.at c.in_default.is)) ∙ c.tree.invariant.same
