use Rattle.std.proofs.Common.{rules, ◌<◌, arith, length, sym, ◌∙◌}
use Rattle.cv_syntax.specs.Declarations.{declarations}
use Rattle.cv_syntax.specs.PoolTrees.{tree_at}
use Rattle.cv_syntax.specs.Walks.{above as rank}
use Rattle.cv_syntax.proofs.Trees.{child_above, child_live, empty_at, node_at}
use Rattle.cv_syntax.proofs.Walking.{above_child, above_some}
use Rattle.cv_typing.specs.Lookups.{both_wants, signature_in, want_of}
use Rattle.cv_typing.specs.Tables.{above_of}
use Rattle.cv_derive_lines.specs.terms.Typed.{names_of}
use Rattle.cv_derive_lines.proofs.terms.Typed.{typed_end, typed_first, typed_not, typed_rest}
use Rattle.cv_derive_lines.proofs.terms.typing.+is_typed_tree.Goals as goal

pub returns-then-not-is_typed_node : goal.returns-then-not-is_typed_node
returns-then-not-is_typed_node t c =
    let trees = c.args.pool.now.trees in
    let known = names_of (declarations trees c.args.decls.now.list) c.args.arrays.now c.args.above.now in
    let e = signature_in trees c.args.decls.now.list c.args.arrays.now in
    let node = c.read_node-node.result in
    let i = node_at trees c.tree.at c.in-Some.k node c.in-Some.is c.read_node-node.ensures.tree in
    sym (typed_not known e (above_of c.args.above.now) (want_of trees c.args.arrays.now c.tree.asked) (tree_at trees c.tree.at) node.head (tree_at trees node.first) (tree_at trees node.second) i c.is_typed_node.result c.is_typed_node.ensures c.if-not-is_typed_node.true) ∙ c.tree.invariant.same

pub is_typed_tree-requires : goal.is_typed_tree-requires
is_typed_tree-requires t c =
    let k = above_some c.tree.at c.in-Some.k c.in-Some.is in
    let b = above_child c.in-Some.k.0 c.read_node-node.result.first c.read_node-node.ensures.first in
    let less : rank c.read_node-node.result.first < rank c.args.tree = omega (arith, k, b, c.tree.invariant.less) in
    (search rules, (child_live (length c.args.pool.now.trees) c.tree.at c.in-Some.k c.read_node-node.result.first c.in-Some.is c.tree.invariant.live c.read_node-node.ensures.first, (c.wants_below-below.ensures.live.0, c.requires.arguments)))

pub returns-then-not-is_typed_tree : goal.returns-then-not-is_typed_tree
returns-then-not-is_typed_tree t c =
    let trees = c.args.pool.now.trees in
    let known = names_of (declarations trees c.args.decls.now.list) c.args.arrays.now c.args.above.now in
    let e = signature_in trees c.args.decls.now.list c.args.arrays.now in
    let node = c.read_node-node.result in
    let i = node_at trees c.tree.at c.in-Some.k node c.in-Some.is c.read_node-node.ensures.tree in
    sym (typed_first known e (above_of c.args.above.now) (want_of trees c.args.arrays.now c.tree.asked) (tree_at trees c.tree.at) node.head (tree_at trees node.first) (tree_at trees node.second) i c.is_typed_node.result c.is_typed_node.ensures c.if-not-is_typed_node.false (both_wants trees c.args.arrays.now c.wants_below-below.result) c.wants_below-below.ensures.wants c.is_typed_tree.result c.is_typed_tree.ensures c.if-not-is_typed_tree.true) ∙ c.tree.invariant.same

pub tree-preserved : goal.tree-preserved
tree-preserved t c =
    let trees = c.args.pool.now.trees in
    let known = names_of (declarations trees c.args.decls.now.list) c.args.arrays.now c.args.above.now in
    let e = signature_in trees c.args.decls.now.list c.args.arrays.now in
    let node = c.read_node-node.result in
    let i = node_at trees c.tree.at c.in-Some.k node c.in-Some.is c.read_node-node.ensures.tree in
    record {
      live = child_live (length trees) c.tree.at c.in-Some.k node.second c.in-Some.is c.tree.invariant.live c.read_node-node.ensures.second;
      want = c.wants_below-below.ensures.live.1;
      less = child_above _ c.tree.at c.in-Some.k node.second c.in-Some.is c.tree.invariant.less c.read_node-node.ensures.second;
      same = sym (typed_rest known e (above_of c.args.above.now) (want_of trees c.args.arrays.now c.tree.asked) (tree_at trees c.tree.at) node.head (tree_at trees node.first) (tree_at trees node.second) i c.is_typed_node.result c.is_typed_node.ensures c.if-not-is_typed_node.false (both_wants trees c.args.arrays.now c.wants_below-below.result) c.wants_below-below.ensures.wants c.is_typed_tree.result c.is_typed_tree.ensures c.if-not-is_typed_tree.false) ∙ c.tree.invariant.same;
    }

pub returns : goal.returns
returns t c =
    let trees = c.args.pool.now.trees in
    sym (typed_end (names_of (declarations trees c.args.decls.now.list) c.args.arrays.now c.args.above.now) (signature_in trees c.args.decls.now.list c.args.arrays.now) (above_of c.args.above.now) (want_of trees c.args.arrays.now c.tree.asked) (tree_at trees c.tree.at) (empty_at trees c.tree.at c.in_default.is)) ∙ c.tree.invariant.same
