use Rattle.std.proofs.Common.{Some, ap, length, sym, ◌∙◌}
use Rattle.cv_syntax_trees.specs.Tree.{Tree, same_tree}
use Rattle.cv_syntax.specs.PoolTrees.{tree_at}
use Rattle.cv_syntax.proofs.Trees.{child_above, child_live, empty_at, node_at}
use Rattle.cv_rule_pick.specs.Picking.{term_of}
use Rattle.cv_rule_pick.specs.Wanted.{given_cells, put}
use Rattle.cv_rule_pick.proofs.Sides.{first_differs, first_same, other_head, same_empty}
use Rattle.cv_rule_pick.proofs.WithTerms.{put_end, put_here, put_later}
use Rattle.cv_rule_pick.proofs.targets.+is_with_terms.Goals as goal

pub returns-in-Some-put : goal.returns-in-Some-put
returns-in-Some-put t c =
    let trees = c.args.pool.now.trees in
    let cs = given_cells trees c.args.given in
    let ms = tree_at trees c.args.given.terms in
    let node = c.read_node-node.result in
    let e = node_at trees c.chain.at c.in-Some.k node c.in-Some.is c.read_node-node.ensures.tree in
    let f = ap (λ o. term_of cs ms (tree_at trees o)) c.in-Some.is ∙ sym c.in-Some-put.ensures.term in
    let here = put_here cs ms (tree_at trees c.chain.at) node.head (tree_at trees node.first) (tree_at trees node.second) e (tree_at trees c.in-Some-put.term) f in
    c.same.ensures ∙ (ap (same_tree (tree_at trees c.chain.other)) (sym here) ∙ c.chain.invariant.same)

pub returns-in_default-sides : goal.returns-in_default-sides
returns-in_default-sides t c =
    let trees = c.args.pool.now.trees in
    let cs = given_cells trees c.args.given in
    let ms = tree_at trees c.args.given.terms in
    let node = c.read_node-node.result in
    let a = tree_at trees node.first in
    let b = tree_at trees node.second in
    let e = node_at trees c.chain.at c.in-Some.k node c.in-Some.is c.read_node-node.ensures.tree in
    let f = ap (λ o. term_of cs ms (tree_at trees o)) c.in-Some.is ∙ sym c.in_default-put.ensures.term in
    let later = put_later cs ms (tree_at trees c.chain.at) node.head a b e f in
    sym (ap (same_tree (tree_at trees c.chain.other)) later ∙ other_head node.head (put trees c.args.given a) (put trees c.args.given b) (tree_at trees c.chain.other) c.in_default-sides.ensures.sides) ∙ c.chain.invariant.same

pub returns-then-not-is_with_terms : goal.returns-then-not-is_with_terms
returns-then-not-is_with_terms t c =
    let trees = c.args.pool.now.trees in
    let cs = given_cells trees c.args.given in
    let ms = tree_at trees c.args.given.terms in
    let node = c.read_node-node.result in
    let a = tree_at trees node.first in
    let b = tree_at trees node.second in
    let e = node_at trees c.chain.at c.in-Some.k node c.in-Some.is c.read_node-node.ensures.tree in
    let f = ap (λ o. term_of cs ms (tree_at trees o)) c.in-Some.is ∙ sym c.in_default-put.ensures.term in
    let later = put_later cs ms (tree_at trees c.chain.at) node.head a b e f in
    let sides : Tree × Tree = (tree_at trees c.in-Some-sides.first, tree_at trees c.in-Some-sides.second) in
    sym (ap (same_tree (tree_at trees c.chain.other)) later ∙ first_differs node.head (put trees c.args.given a) (put trees c.args.given b) (tree_at trees c.chain.other) sides c.in-Some-sides.ensures.sides c.is_with_terms.result c.is_with_terms.ensures c.if-not-is_with_terms.true) ∙ c.chain.invariant.same

pub chain-preserved : goal.chain-preserved
chain-preserved t c =
    let trees = c.args.pool.now.trees in
    let cs = given_cells trees c.args.given in
    let ms = tree_at trees c.args.given.terms in
    let node = c.read_node-node.result in
    let a = tree_at trees node.first in
    let b = tree_at trees node.second in
    let e = node_at trees c.chain.at c.in-Some.k node c.in-Some.is c.read_node-node.ensures.tree in
    let f = ap (λ o. term_of cs ms (tree_at trees o)) c.in-Some.is ∙ sym c.in_default-put.ensures.term in
    let later = put_later cs ms (tree_at trees c.chain.at) node.head a b e f in
    let sides : Tree × Tree = (tree_at trees c.in-Some-sides.first, tree_at trees c.in-Some-sides.second) in
    record {
      live = child_live (length trees) c.chain.at c.in-Some.k node.second c.in-Some.is c.chain.invariant.live c.read_node-node.ensures.second;
      less = child_above _ c.chain.at c.in-Some.k node.second c.in-Some.is c.chain.invariant.less c.read_node-node.ensures.second;
      other = c.in-Some-sides.ensures.live.1;
      same = first_same node.head (put trees c.args.given a) (put trees c.args.given b) (tree_at trees c.chain.other) sides c.in-Some-sides.ensures.sides c.is_with_terms.result c.is_with_terms.ensures c.if-not-is_with_terms.false ∙ (ap (same_tree (tree_at trees c.chain.other)) (sym later) ∙ c.chain.invariant.same);
    }

pub returns : goal.returns
returns t c =
    let trees = c.args.pool.now.trees in
    let end = put_end (given_cells trees c.args.given) (tree_at trees c.args.given.terms) (tree_at trees c.chain.at) (empty_at trees c.chain.at c.in_default.is) in
    c.is_empty.ensures.test ∙ (sym (same_empty (tree_at trees c.chain.other)) ∙ (ap (same_tree (tree_at trees c.chain.other)) (sym end) ∙ c.chain.invariant.same))
