use Rattle.std.proofs.Common.{rules, ◌+◌, ◌<◌, ◌&&◌, Some, arith, ap, length, not, sym, ◌∙◌}
use Rattle.cv_syntax_trees.specs.Tree.{first_place, second_place, size}
use Rattle.cv_syntax.specs.NameSets.{is_in}
use Rattle.cv_syntax.specs.PoolTrees.{tree_at}
use Rattle.cv_syntax.specs.Walks.{above}
use Rattle.cv_syntax.proofs.Trees.{child_above, child_live, empty_at, node_at}
use Rattle.cv_syntax.proofs.Walking.{above_child, above_some, size_at, size_end}
use Rattle.cv_syntax_trees.specs.sites.Sites.{first_of}
use Rattle.cv_scene_view.proofs.Tested.{reads_first, reads_here, reads_rest}
use Rattle.cv_costs.specs.names.Naming.{names_one}
use Rattle.cv_rule_pick.specs.Looks.{first_elsewhere, is_passed}
use Rattle.cv_rule_pick.proofs.Elsewhere.{elsewhere_end, elsewhere_node}
use Rattle.cv_rule_pick.proofs.others.+naming.Goals as goal

pub returns-then-is_other-clause-found : goal.returns-then-is_other-clause-found
returns-then-is_other-clause-found t c =
    let trees = c.args.pool.now.trees in
    let xs = is_in c.args.own.names.now in
    let skip = is_passed trees c.args.own in
    let node = c.read_node-node.result in
    let e = elsewhere_node xs skip c.tree.place (tree_at trees c.tree.at) node.head (tree_at trees node.first) (tree_at trees node.second) (node_at trees c.tree.at c.in-Some.k node c.in-Some.is c.read_node-node.ensures.tree) in
    let named = c.is_other.ensures ∙ ap (λ o. names_one xs node.head (tree_at trees node.first) && not (skip c.tree.place (tree_at trees o))) (sym c.in-Some.is) in
    sym c.tree.invariant.same ∙ reads_here (first_elsewhere xs skip c.tree.place (tree_at trees c.tree.at)) (first_of (first_elsewhere xs skip (first_place c.tree.place node.head) (tree_at trees node.first)) (first_elsewhere xs skip (second_place c.tree.place node.head (tree_at trees node.first)) (tree_at trees node.second))) c.tree.place c.is_other.result (names_one xs node.head (tree_at trees node.first) && not (skip c.tree.place (tree_at trees c.tree.at))) e named c.if-is_other.true

pub overflow_add-place : goal.overflow_add-place
overflow_add-place t c =
    let s = size_at c.args.pool.now.trees c.tree.at c.in-Some.k c.read_node-node.result c.in-Some.is c.read_node-node.ensures.tree in
    omega (arith, s, c.tree.invariant.sum, c.requires.fits, c.weight.ensures.weight)

pub naming-requires : goal.naming-requires
naming-requires t c =
    let s = size_at c.args.pool.now.trees c.tree.at c.in-Some.k c.read_node-node.result c.in-Some.is c.read_node-node.ensures.tree in
    let k = above_some c.tree.at c.in-Some.k c.in-Some.is in
    let b = above_child c.in-Some.k.0 c.read_node-node.result.first c.read_node-node.ensures.first in
    let less : above c.read_node-node.result.first < above c.args.tree = omega (arith, k, b, c.tree.invariant.less) in
    (search rules, (c.requires.binders, (child_live (length c.args.pool.now.trees) c.tree.at c.in-Some.k c.read_node-node.result.first c.in-Some.is c.tree.invariant.live c.read_node-node.ensures.first, omega (arith, s, c.tree.invariant.sum, c.requires.fits, c.weight.ensures.weight))))

pub returns-in-Err-clause-found : goal.returns-in-Err-clause-found
returns-in-Err-clause-found t c =
    let trees = c.args.pool.now.trees in
    let xs = is_in c.args.own.names.now in
    let skip = is_passed trees c.args.own in
    let node = c.read_node-node.result in
    let e = elsewhere_node xs skip c.tree.place (tree_at trees c.tree.at) node.head (tree_at trees node.first) (tree_at trees node.second) (node_at trees c.tree.at c.in-Some.k node c.in-Some.is c.read_node-node.ensures.tree) in
    let named = c.is_other.ensures ∙ ap (λ o. names_one xs node.head (tree_at trees node.first) && not (skip c.tree.place (tree_at trees o))) (sym c.in-Some.is) in
    let w = ap (λ n. first_elsewhere xs skip (c.tree.place + n) (tree_at trees node.first)) (sym c.weight.ensures.weight) in
    sym c.tree.invariant.same ∙ reads_first (first_elsewhere xs skip c.tree.place (tree_at trees c.tree.at)) (first_elsewhere xs skip (first_place c.tree.place node.head) (tree_at trees node.first)) (first_elsewhere xs skip (second_place c.tree.place node.head (tree_at trees node.first)) (tree_at trees node.second)) c.tree.place c.in-Err.found c.is_other.result (names_one xs node.head (tree_at trees node.first) && not (skip c.tree.place (tree_at trees c.tree.at))) e named c.if-is_other.false (w ∙ c.in-Err.ensures.found)

pub tree-preserved : goal.tree-preserved
tree-preserved t c =
    let trees = c.args.pool.now.trees in
    let xs = is_in c.args.own.names.now in
    let skip = is_passed trees c.args.own in
    let node = c.read_node-node.result in
    let e = elsewhere_node xs skip c.tree.place (tree_at trees c.tree.at) node.head (tree_at trees node.first) (tree_at trees node.second) (node_at trees c.tree.at c.in-Some.k node c.in-Some.is c.read_node-node.ensures.tree) in
    let named = c.is_other.ensures ∙ ap (λ o. names_one xs node.head (tree_at trees node.first) && not (skip c.tree.place (tree_at trees o))) (sym c.in-Some.is) in
    let w = ap (λ n. first_elsewhere xs skip (c.tree.place + n) (tree_at trees node.first)) (sym c.weight.ensures.weight) in
    let s = size_at trees c.tree.at c.in-Some.k node c.in-Some.is c.read_node-node.ensures.tree in
    let q = c.in-Ok.ensures.next ∙ ap (λ n. c.tree.place + n + size (tree_at trees node.first)) c.weight.ensures.weight in
    record {
      live = child_live (length trees) c.tree.at c.in-Some.k node.second c.in-Some.is c.tree.invariant.live c.read_node-node.ensures.second;
      less = child_above _ c.tree.at c.in-Some.k node.second c.in-Some.is c.tree.invariant.less c.read_node-node.ensures.second;
      sum = omega (arith, s, q, c.tree.invariant.sum);
      same = ap (λ n. first_elsewhere xs skip n (tree_at trees node.second)) q ∙ (sym (reads_rest (first_elsewhere xs skip c.tree.place (tree_at trees c.tree.at)) (first_elsewhere xs skip (first_place c.tree.place node.head) (tree_at trees node.first)) (first_elsewhere xs skip (second_place c.tree.place node.head (tree_at trees node.first)) (tree_at trees node.second)) c.tree.place c.is_other.result (names_one xs node.head (tree_at trees node.first) && not (skip c.tree.place (tree_at trees c.tree.at))) e named c.if-is_other.false (w ∙ c.in-Ok.ensures.none)) ∙ c.tree.invariant.same);
    }

pub returns-clause-none : goal.returns-clause-none
returns-clause-none t c = sym c.tree.invariant.same ∙ elsewhere_end (is_in c.args.own.names.now) (is_passed c.args.pool.now.trees c.args.own) c.tree.place (tree_at c.args.pool.now.trees c.tree.at) (empty_at c.args.pool.now.trees c.tree.at c.in_default.is)

pub returns-clause-next : goal.returns-clause-next
returns-clause-next t c = omega (arith, c.tree.invariant.sum, size_end c.args.pool.now.trees c.tree.at c.in_default.is)
