use Rattle.std.proofs.Common.{rules, ◌<◌, arith, ap, length, ◌∙◌}
use Rattle.cv_syntax.specs.PoolTrees.{tree_at}
use Rattle.cv_syntax.specs.Walks.{above}
use Rattle.cv_syntax.proofs.Trees.{child_above, child_live, empty_at, node_at}
use Rattle.cv_syntax.proofs.Walking.{above_child, above_some}
use Rattle.cv_scene.specs.Instances.{standing_for}
use Rattle.cv_match_terms.proofs.patterns.Standing.{standing_end, standing_first, standing_here_law, standing_rest}
use Rattle.cv_match_terms.proofs.patterns.filling.+standing.Goals as goal

pub returns-then-is_leaf_of-clause-tree : goal.returns-then-is_leaf_of-clause-tree
returns-then-is_leaf_of-clause-tree t c =
    let trees = c.args.pool.now.trees in
    let node = c.read_node-node.result in
    let e = node_at trees c.body.at c.in-Some.n node c.in-Some.is c.read_node-node.ensures.tree in
    standing_here_law c.args.x (tree_at trees c.body.at) (tree_at trees c.body.there) node.head (tree_at trees node.first) (tree_at trees node.second) e c.is_leaf_of.result c.is_leaf_of.ensures c.if-is_leaf_of.true ∙ c.body.invariant.same

pub standing-requires : goal.standing-requires
standing-requires t c =
    let node = c.read_node-node.result in
    let k = above_some c.body.at c.in-Some.n c.in-Some.is in
    let b = above_child c.in-Some.n.0 node.first c.read_node-node.ensures.first in
    let less : above node.first < above c.args.body = omega (arith, k, b, c.body.invariant.less) in
    (search rules, (child_live (length c.args.pool.now.trees) c.body.at c.in-Some.n node.first c.in-Some.is c.body.invariant.live c.read_node-node.ensures.first, c.first_of.ensures.live))

pub returns-in-Some-standing-clause-tree : goal.returns-in-Some-standing-clause-tree
returns-in-Some-standing-clause-tree t c =
    let trees = c.args.pool.now.trees in
    let node = c.read_node-node.result in
    let e = node_at trees c.body.at c.in-Some.n node c.in-Some.is c.read_node-node.ensures.tree in
    let found = c.in-Some-standing.ensures.tree ∙ ap (standing_for c.args.x (tree_at trees node.first)) c.first_of.ensures.tree in
    standing_first c.args.x (tree_at trees c.body.at) (tree_at trees c.body.there) node.head (tree_at trees node.first) (tree_at trees node.second) e c.is_leaf_of.result c.is_leaf_of.ensures c.if-is_leaf_of.false (tree_at trees c.in-Some-standing.part.tree) found ∙ c.body.invariant.same

pub body-preserved : goal.body-preserved
body-preserved t c =
    let trees = c.args.pool.now.trees in
    let node = c.read_node-node.result in
    let e = node_at trees c.body.at c.in-Some.n node c.in-Some.is c.read_node-node.ensures.tree in
    let none = c.in_default-standing.ensures.tree ∙ ap (standing_for c.args.x (tree_at trees node.first)) c.first_of.ensures.tree in
    record {
      live = child_live (length trees) c.body.at c.in-Some.n node.second c.in-Some.is c.body.invariant.live c.read_node-node.ensures.second;
      there = c.second_of-there.ensures.live;
      less = child_above _ c.body.at c.in-Some.n node.second c.in-Some.is c.body.invariant.less c.read_node-node.ensures.second;
      same = ap (standing_for c.args.x (tree_at trees node.second)) c.second_of-there.ensures.tree ∙ (standing_rest c.args.x (tree_at trees c.body.at) (tree_at trees c.body.there) node.head (tree_at trees node.first) (tree_at trees node.second) e c.is_leaf_of.result c.is_leaf_of.ensures c.if-is_leaf_of.false none ∙ c.body.invariant.same);
    }

pub returns-clause-tree : goal.returns-clause-tree
returns-clause-tree t c =
    standing_end c.args.x (tree_at c.args.pool.now.trees c.body.at) (tree_at c.args.pool.now.trees c.body.there) (empty_at c.args.pool.now.trees c.body.at c.in_default.is) ∙ c.body.invariant.same
