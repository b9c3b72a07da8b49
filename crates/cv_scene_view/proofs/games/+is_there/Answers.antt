use Rattle.std.proofs.Common.{rules, ◌<◌, arith, length, sym, ◌∙◌}
use Rattle.cv_syntax.specs.PoolTrees.{tree_at}
use Rattle.cv_syntax.specs.Walks.{above}
use Rattle.cv_syntax.proofs.Trees.{child_above, child_live, empty_at, node_at}
use Rattle.cv_syntax.proofs.Walking.{above_child, above_some}
use Rattle.cv_syntax.specs.Declarations.{declarations}
use Rattle.cv_scene_view.specs.Kept.{names_there}
use Rattle.cv_scene_view.specs.phrases.Phrases.{phrase_of}
use Rattle.cv_scene_view.proofs.There.{there_end, there_first, there_none, there_not, there_rest}
use Rattle.cv_scene_view.proofs.games.+is_there.Goals as goal

pub returns-then-not-head_is_there : goal.returns-then-not-head_is_there
returns-then-not-head_is_there t c =
    let trees = c.args.pool.now.trees in
    let known = names_there (declarations trees c.args.decls.now.list) c.args.above.now c.args.arrays.now c.args.everywhere in
    let node = c.read_node-node.result in
    let e = node_at trees c.tree.at c.in-Some.k node c.in-Some.is c.read_node-node.ensures.tree in
    sym (there_not known (phrase_of c.tree.expected) (tree_at trees c.tree.at) node.head (tree_at trees node.first) (tree_at trees node.second) e c.head_is_there.result (c.head_is_there.ensures trees) c.if-not-head_is_there.true) ∙ c.tree.invariant.same

pub returns-in_default-parts : goal.returns-in_default-parts
returns-in_default-parts t c =
    let trees = c.args.pool.now.trees in
    let known = names_there (declarations trees c.args.decls.now.list) c.args.above.now c.args.arrays.now c.args.everywhere in
    let node = c.read_node-node.result in
    let e = node_at trees c.tree.at c.in-Some.k node c.in-Some.is c.read_node-node.ensures.tree in
    sym (there_none known (phrase_of c.tree.expected) (tree_at trees c.tree.at) node.head (tree_at trees node.first) (tree_at trees node.second) e c.head_is_there.result (c.head_is_there.ensures trees) c.if-not-head_is_there.false c.parts.result c.parts.ensures c.in_default-parts.is) ∙ c.tree.invariant.same

pub is_there-requires : goal.is_there-requires
is_there-requires t c =
    let k = above_some c.tree.at c.in-Some.k c.in-Some.is in
    let b = above_child c.in-Some.k.0 c.read_node-node.result.first c.read_node-node.ensures.first in
    let less : above c.read_node-node.result.first < above c.args.tree = omega (arith, k, b, c.tree.invariant.less) in
    (search rules, child_live (length c.args.pool.now.trees) c.tree.at c.in-Some.k c.read_node-node.result.first c.in-Some.is c.tree.invariant.live c.read_node-node.ensures.first)

pub returns-then-not-is_there : goal.returns-then-not-is_there
returns-then-not-is_there t c =
    let trees = c.args.pool.now.trees in
    let known = names_there (declarations trees c.args.decls.now.list) c.args.above.now c.args.arrays.now c.args.everywhere in
    let node = c.read_node-node.result in
    let e = node_at trees c.tree.at c.in-Some.k node c.in-Some.is c.read_node-node.ensures.tree in
    sym (there_first known (phrase_of c.tree.expected) (tree_at trees c.tree.at) node.head (tree_at trees node.first) (tree_at trees node.second) e c.head_is_there.result (c.head_is_there.ensures trees) c.if-not-head_is_there.false c.parts.result c.parts.ensures _ _ c.in-Some-parts.is c.is_there.ensures c.if-not-is_there.true) ∙ c.tree.invariant.same

pub tree-preserved : goal.tree-preserved
tree-preserved t c =
    let trees = c.args.pool.now.trees in
    let known = names_there (declarations trees c.args.decls.now.list) c.args.above.now c.args.arrays.now c.args.everywhere in
    let node = c.read_node-node.result in
    let e = node_at trees c.tree.at c.in-Some.k node c.in-Some.is c.read_node-node.ensures.tree in
    record {
      live = child_live (length trees) c.tree.at c.in-Some.k node.second c.in-Some.is c.tree.invariant.live c.read_node-node.ensures.second;
      less = child_above _ c.tree.at c.in-Some.k node.second c.in-Some.is c.tree.invariant.less c.read_node-node.ensures.second;
      same = sym (there_rest known (phrase_of c.tree.expected) (tree_at trees c.tree.at) node.head (tree_at trees node.first) (tree_at trees node.second) e c.head_is_there.result (c.head_is_there.ensures trees) c.if-not-head_is_there.false c.parts.result c.parts.ensures _ _ c.in-Some-parts.is c.is_there.ensures c.if-not-is_there.false) ∙ c.tree.invariant.same;
    }

pub returns : goal.returns
returns t c =
    let trees = c.args.pool.now.trees in
    sym (there_end (names_there (declarations trees c.args.decls.now.list) c.args.above.now c.args.arrays.now c.args.everywhere) (phrase_of c.tree.expected) (tree_at trees c.tree.at) (empty_at trees c.tree.at c.in_default.is)) ∙ c.tree.invariant.same
