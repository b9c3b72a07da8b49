use Rattle.std.proofs.Common.{rules, ◌<◌, arith, ap, length, ◌∙◌}
use Rattle.cv_syntax_trees.specs.Tree.{same_tree}
use Rattle.cv_syntax.specs.PoolTrees.{tree_at}
use Rattle.cv_syntax.specs.Walks.{above}
use Rattle.cv_syntax.proofs.Trees.{child_above, child_live, empty_at, node_at, tree_at_None}
use Rattle.cv_syntax.proofs.Walking.{above_child, above_some}
use Rattle.cv_meaning.specs.contexts.Groups.{function_of, group_of}
use Rattle.cv_match_terms.proofs.patterns.Parts.{filled_end, filled_first, filled_other, filled_put, filled_rest, filled_short}
use Rattle.cv_match_terms.proofs.patterns.whole.+is_filled.Goals as goal

pub returns-in-Some-put : goal.returns-in-Some-put
returns-in-Some-put t c =
    let trees = c.args.pool.now.trees in
    let g = group_of (tree_at trees c.args.side) in
    let f = function_of (tree_at trees c.args.f) in
    let node = c.read_node-node.result in
    let e = node_at trees c.body.at c.in-Some.n node c.in-Some.is c.read_node-node.ensures.tree in
    c.same.ensures ∙ (filled_put g f (tree_at trees c.args.whole) (tree_at trees c.body.at) (tree_at trees c.body.there) node.head (tree_at trees node.first) (tree_at trees node.second) e (tree_at trees c.in-Some-put.part.tree) c.in-Some-put.ensures.tree ∙ c.body.invariant.same)

pub returns-in_default-there : goal.returns-in_default-there
returns-in_default-there t c =
    let trees = c.args.pool.now.trees in
    let g = group_of (tree_at trees c.args.side) in
    let f = function_of (tree_at trees c.args.f) in
    let node = c.read_node-node.result in
    let e = node_at trees c.body.at c.in-Some.n node c.in-Some.is c.read_node-node.ensures.tree in
    filled_short g f (tree_at trees c.args.whole) (tree_at trees c.body.at) (tree_at trees c.body.there) node.head (tree_at trees node.first) (tree_at trees node.second) e c.in_default-put.ensures.tree (empty_at trees c.body.there c.in_default-there.is) ∙ c.body.invariant.same

pub returns-then-not-is_head : goal.returns-then-not-is_head
returns-then-not-is_head t c =
    let trees = c.args.pool.now.trees in
    let g = group_of (tree_at trees c.args.side) in
    let f = function_of (tree_at trees c.args.f) in
    let node = c.read_node-node.result in
    let other = c.read_node-other.result in
    let e = node_at trees c.body.at c.in-Some.n node c.in-Some.is c.read_node-node.ensures.tree in
    let o = node_at trees c.body.there c.in-Some-there.m other c.in-Some-there.is c.read_node-other.ensures.tree in
    filled_other g f (tree_at trees c.args.whole) (tree_at trees c.body.at) (tree_at trees c.body.there) node.head (tree_at trees node.first) (tree_at trees node.second) e c.in_default-put.ensures.tree other.head (tree_at trees other.first) (tree_at trees other.second) o c.is_head.result c.is_head.ensures c.if-not-is_head.true ∙ c.body.invariant.same

pub is_filled-requires : goal.is_filled-requires
is_filled-requires t c =
    let trees = c.args.pool.now.trees in
    let node = c.read_node-node.result in
    let other = c.read_node-other.result in
    let k = above_some c.body.at c.in-Some.n c.in-Some.is in
    let b = above_child c.in-Some.n.0 node.first c.read_node-node.ensures.first in
    let less : above node.first < above c.args.body = omega (arith, k, b, c.body.invariant.less) in
    (search rules, (c.requires.side, (c.requires.function, (c.requires.whole, (child_live (length trees) c.body.at c.in-Some.n node.first c.in-Some.is c.body.invariant.live c.read_node-node.ensures.first, child_live (length trees) c.body.there c.in-Some-there.m other.first c.in-Some-there.is c.body.invariant.there c.read_node-other.ensures.first)))))

pub returns-then-not-is_filled : goal.returns-then-not-is_filled
returns-then-not-is_filled t c =
    let trees = c.args.pool.now.trees in
    let g = group_of (tree_at trees c.args.side) in
    let f = function_of (tree_at trees c.args.f) in
    let node = c.read_node-node.result in
    let other = c.read_node-other.result in
    let e = node_at trees c.body.at c.in-Some.n node c.in-Some.is c.read_node-node.ensures.tree in
    let o = node_at trees c.body.there c.in-Some-there.m other c.in-Some-there.is c.read_node-other.ensures.tree in
    filled_first g f (tree_at trees c.args.whole) (tree_at trees c.body.at) (tree_at trees c.body.there) node.head (tree_at trees node.first) (tree_at trees node.second) e c.in_default-put.ensures.tree other.head (tree_at trees other.first) (tree_at trees other.second) o c.is_head.result c.is_head.ensures c.if-not-is_head.false c.is_filled.result c.is_filled.ensures c.if-not-is_filled.true ∙ c.body.invariant.same

pub body-preserved : goal.body-preserved
body-preserved t c =
    let trees = c.args.pool.now.trees in
    let g = group_of (tree_at trees c.args.side) in
    let f = function_of (tree_at trees c.args.f) in
    let node = c.read_node-node.result in
    let other = c.read_node-other.result in
    let e = node_at trees c.body.at c.in-Some.n node c.in-Some.is c.read_node-node.ensures.tree in
    let o = node_at trees c.body.there c.in-Some-there.m other c.in-Some-there.is c.read_node-other.ensures.tree in
    record {
      live = child_live (length trees) c.body.at c.in-Some.n node.second c.in-Some.is c.body.invariant.live c.read_node-node.ensures.second;
      there = child_live (length trees) c.body.there c.in-Some-there.m other.second c.in-Some-there.is c.body.invariant.there c.read_node-other.ensures.second;
      less = child_above _ c.body.at c.in-Some.n node.second c.in-Some.is c.body.invariant.less c.read_node-node.ensures.second;
      same = filled_rest g f (tree_at trees c.args.whole) (tree_at trees c.body.at) (tree_at trees c.body.there) node.head (tree_at trees node.first) (tree_at trees node.second) e c.in_default-put.ensures.tree other.head (tree_at trees other.first) (tree_at trees other.second) o c.is_head.result c.is_head.ensures c.if-not-is_head.false c.is_filled.result c.is_filled.ensures c.if-not-is_filled.false ∙ c.body.invariant.same;
    }

pub returns : goal.returns
returns t c =
    let trees = c.args.pool.now.trees in
    let g = group_of (tree_at trees c.args.side) in
    let f = function_of (tree_at trees c.args.f) in
    c.same-2.ensures ∙ (ap (λ u. same_tree u (tree_at trees c.body.there)) (tree_at_None trees) ∙ (filled_end g f (tree_at trees c.args.whole) (tree_at trees c.body.at) (tree_at trees c.body.there) (empty_at trees c.body.at c.in_default.is) ∙ c.body.invariant.same))
