use Rattle.std.proofs.Common.{rules, false, not, ◌&&◌, ◌+◌, ◌<◌, arith, ap, length, refl, sym, ◌∙◌}
use Rattle.cv_syntax_trees.specs.lists.Options.{first_of}
use Rattle.cv_syntax_trees.specs.Tree.{first_place, second_place, size}
use Rattle.cv_syntax.specs.PoolTrees.{tree_at}
use Rattle.cv_syntax.specs.Walks.{above}
use Rattle.cv_syntax.proofs.Trees.{child_above, child_live, empty_at, node_at}
use Rattle.cv_syntax.proofs.Walking.{above_child, above_some, size_at, size_end}
use Rattle.std.specs.List.{list_any}
use Rattle.cv_scope_rules.specs.Context.{first_position, second_position}
use Rattle.cv_query_certificates.specs.Secrets.{first_other_read, is_let_of, reads_value}
use Rattle.cv_query_offences.proofs.Walks.{found_first, found_rest, read_end, read_node, read_same}
use Rattle.cv_query_offences.proofs.reads.+other_read.Goals as goal
use Rattle.cv_scene_view.proofs.Tested.{reads_here}

pub returns-then-offends-clause-found : goal.returns-then-offends-clause-found
returns-then-offends-clause-found t c =
    let trees = c.args.pool.now.trees in
    let node = c.read_node-node.result in
    let x = c.args.x in
    let ys = c.args.names.now in
    let first = first_other_read x ys (is_let_of x node.head) (first_position c.tree.here node.head) (first_place c.tree.place node.head) (tree_at trees node.first) in
    let rest = first_other_read x ys false (second_position c.tree.here node.head) (second_place c.tree.place node.head (tree_at trees node.first)) (tree_at trees node.second) in
    let e = read_node x ys c.tree.is_free c.tree.here c.tree.place (tree_at trees c.tree.at) node.head (tree_at trees node.first) (tree_at trees node.second) (node_at trees c.tree.at c.in-Some.k node c.in-Some.is c.read_node-node.ensures.tree) in
    sym c.tree.invariant.same ∙ reads_here (first_other_read x ys c.tree.is_free c.tree.here c.tree.place (tree_at trees c.tree.at)) (first_of first rest) c.tree.place c.offends.result (not c.tree.is_free && list_any (λ y. reads_value y c.tree.here node.head) ys) e c.offends.ensures c.if-offends.true

pub overflow_add-behind : goal.overflow_add-behind
overflow_add-behind t c =
    let s = size_at c.args.pool.now.trees c.tree.at c.in-Some.k c.read_node-node.result c.in-Some.is c.read_node-node.ensures.tree in
    omega (arith, s, c.tree.invariant.sum, c.requires.fits, c.weight.ensures.weight)

pub other_read-requires : goal.other_read-requires
other_read-requires t c =
    let trees = c.args.pool.now.trees in
    let s = size_at trees c.tree.at c.in-Some.k c.read_node-node.result c.in-Some.is c.read_node-node.ensures.tree in
    let k = above_some c.tree.at c.in-Some.k c.in-Some.is in
    let b = above_child c.in-Some.k.0 c.read_node-node.result.first c.read_node-node.ensures.first in
    let less : above c.read_node-node.result.first < above c.args.tree = omega (arith, k, b, c.tree.invariant.less) in
    (search rules, (child_live (length trees) c.tree.at c.in-Some.k c.read_node-node.result.first c.in-Some.is c.tree.invariant.live c.read_node-node.ensures.first, omega (arith, s, c.tree.invariant.sum, c.requires.fits, c.weight.ensures.weight)))

pub returns-in-Err-clause-found : goal.returns-in-Err-clause-found
returns-in-Err-clause-found t c =
    let trees = c.args.pool.now.trees in
    let node = c.read_node-node.result in
    let x = c.args.x in
    let ys = c.args.names.now in
    let first = first_other_read x ys (is_let_of x node.head) (first_position c.tree.here node.head) (first_place c.tree.place node.head) (tree_at trees node.first) in
    let rest = first_other_read x ys false (second_position c.tree.here node.head) (second_place c.tree.place node.head (tree_at trees node.first)) (tree_at trees node.second) in
    let e = read_node x ys c.tree.is_free c.tree.here c.tree.place (tree_at trees c.tree.at) node.head (tree_at trees node.first) (tree_at trees node.second) (node_at trees c.tree.at c.in-Some.k node c.in-Some.is c.read_node-node.ensures.tree) in
    let w = read_same x ys _ _ _ _ _ _ (tree_at trees node.first) (sym c.is_let_of-copied.ensures) (sym c.first.ensures) (ap (λ n. c.tree.place + n) (sym c.weight.ensures.weight)) in
    sym c.tree.invariant.same ∙ found_first (first_other_read x ys c.tree.is_free c.tree.here c.tree.place (tree_at trees c.tree.at)) first rest c.tree.place c.in-Err.found c.offends.result (not c.tree.is_free && list_any (λ y. reads_value y c.tree.here node.head) ys) e c.offends.ensures c.if-offends.false (w ∙ c.in-Err.ensures.found)

pub tree-preserved : goal.tree-preserved
tree-preserved t c =
    let trees = c.args.pool.now.trees in
    let node = c.read_node-node.result in
    let x = c.args.x in
    let ys = c.args.names.now in
    let first = first_other_read x ys (is_let_of x node.head) (first_position c.tree.here node.head) (first_place c.tree.place node.head) (tree_at trees node.first) in
    let rest = first_other_read x ys false (second_position c.tree.here node.head) (second_place c.tree.place node.head (tree_at trees node.first)) (tree_at trees node.second) in
    let e = read_node x ys c.tree.is_free c.tree.here c.tree.place (tree_at trees c.tree.at) node.head (tree_at trees node.first) (tree_at trees node.second) (node_at trees c.tree.at c.in-Some.k node c.in-Some.is c.read_node-node.ensures.tree) in
    let w = read_same x ys _ _ _ _ _ _ (tree_at trees node.first) (sym c.is_let_of-copied.ensures) (sym c.first.ensures) (ap (λ n. c.tree.place + n) (sym c.weight.ensures.weight)) in
    let s = size_at trees c.tree.at c.in-Some.k node c.in-Some.is c.read_node-node.ensures.tree in
    let q = c.in-Ok.ensures.next ∙ ap (λ n. c.tree.place + n + size (tree_at trees node.first)) c.weight.ensures.weight in
    record {
      live = child_live (length trees) c.tree.at c.in-Some.k node.second c.in-Some.is c.tree.invariant.live c.read_node-node.ensures.second;
      less = child_above _ c.tree.at c.in-Some.k node.second c.in-Some.is c.tree.invariant.less c.read_node-node.ensures.second;
      sum = omega (arith, s, q, c.tree.invariant.sum);
      same = read_same x ys _ _ _ _ _ _ (tree_at trees node.second) refl c.second-here.ensures q ∙ (sym (found_rest (first_other_read x ys c.tree.is_free c.tree.here c.tree.place (tree_at trees c.tree.at)) first rest c.tree.place c.offends.result (not c.tree.is_free && list_any (λ y. reads_value y c.tree.here node.head) ys) e c.offends.ensures c.if-offends.false (w ∙ c.in-Ok.ensures.none)) ∙ c.tree.invariant.same);
    }

pub returns-clause-none : goal.returns-clause-none
returns-clause-none t c = sym c.tree.invariant.same ∙ read_end c.args.x c.args.names.now c.tree.is_free c.tree.here c.tree.place (tree_at c.args.pool.now.trees c.tree.at) (empty_at c.args.pool.now.trees c.tree.at c.in_default.is)

pub returns-clause-next : goal.returns-clause-next
returns-clause-next t c = omega (arith, c.tree.invariant.sum, size_end c.args.pool.now.trees c.tree.at c.in_default.is)
