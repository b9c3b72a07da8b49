use Rattle.std.proofs.Common.{rules, ◌<◌, arith, length, sym, ◌∙◌}
use Rattle.cv_syntax.specs.PoolTrees.{tree_at}
use Rattle.cv_syntax.specs.Walks.{above}
use Rattle.cv_syntax.proofs.Trees.{child_above, child_live, empty_at, node_at}
use Rattle.cv_syntax.proofs.Walking.{above_child, above_some}
use Rattle.cv_scene_view.specs.phrases.Phrases.{phrase_of}
use Rattle.cv_scene_view.proofs.phrases.Grammar.{phrase_end, phrase_first, phrase_none, phrase_rest}
use Rattle.cv_scene_view.proofs.phrases.phrases.+is_phrase.Goals as goal

pub returns-in_default-parts : goal.returns-in_default-parts
returns-in_default-parts t c =
    let trees = c.args.pool.now.trees in
    let node = c.read_node-node.result in
    let e = node_at trees c.tree.at c.in-Some.k node c.in-Some.is c.read_node-node.ensures.tree in
    sym (phrase_none (phrase_of c.tree.expected) (tree_at trees c.tree.at) node.head (tree_at trees node.first) (tree_at trees node.second) e c.parts.result c.parts.ensures c.in_default-parts.is) ∙ c.tree.invariant.same

pub is_phrase-requires : goal.is_phrase-requires
is_phrase-requires t c =
    let k = above_some c.tree.at c.in-Some.k c.in-Some.is in
    let b = above_child c.in-Some.k.0 c.read_node-node.result.first c.read_node-node.ensures.first in
    let less : above c.read_node-node.result.first < above c.args.tree = omega (arith, k, b, c.tree.invariant.less) in
    (search rules, child_live (length c.args.pool.now.trees) c.tree.at c.in-Some.k c.read_node-node.result.first c.in-Some.is c.tree.invariant.live c.read_node-node.ensures.first)

pub returns-then-not-is_phrase : goal.returns-then-not-is_phrase
returns-then-not-is_phrase t c =
    let trees = c.args.pool.now.trees in
    let node = c.read_node-node.result in
    let e = node_at trees c.tree.at c.in-Some.k node c.in-Some.is c.read_node-node.ensures.tree in
    sym (phrase_first (phrase_of c.tree.expected) (tree_at trees c.tree.at) node.head (tree_at trees node.first) (tree_at trees node.second) e c.parts.result c.parts.ensures _ _ c.in-Some-parts.is c.is_phrase.ensures c.if-not-is_phrase.true) ∙ c.tree.invariant.same

pub tree-preserved : goal.tree-preserved
tree-preserved t c =
    let trees = c.args.pool.now.trees in
    let node = c.read_node-node.result in
    let e = node_at trees c.tree.at c.in-Some.k node c.in-Some.is c.read_node-node.ensures.tree in
    record {
      live = child_live (length trees) c.tree.at c.in-Some.k node.second c.in-Some.is c.tree.invariant.live c.read_node-node.ensures.second;
      less = child_above _ c.tree.at c.in-Some.k node.second c.in-Some.is c.tree.invariant.less c.read_node-node.ensures.second;
      same = sym (phrase_rest (phrase_of c.tree.expected) (tree_at trees c.tree.at) node.head (tree_at trees node.first) (tree_at trees node.second) e c.parts.result c.parts.ensures _ _ c.in-Some-parts.is c.is_phrase.ensures c.if-not-is_phrase.false) ∙ c.tree.invariant.same;
    }

pub returns : goal.returns
returns t c = c.may_end.ensures ∙ (sym (phrase_end (phrase_of c.tree.expected) (tree_at c.args.pool.now.trees c.tree.at) (empty_at c.args.pool.now.trees c.tree.at c.in_default.is)) ∙ c.tree.invariant.same)
