use Rattle.std.proofs.Common.{rules, not, ◌&&◌, ◌+◌, ◌<◌, arith, ap, length, sym, ◌∙◌}
use Rattle.cv_syntax_trees.specs.lists.Options.{first_of}
use Rattle.cv_syntax_trees.specs.Tree.{first_place, second_place, size}
use Rattle.cv_syntax.specs.PoolTrees.{tree_at}
use Rattle.cv_syntax.specs.Walks.{above}
use Rattle.cv_syntax.proofs.Trees.{child_above, child_live, empty_at, node_at}
use Rattle.cv_syntax.proofs.Walking.{above_child, above_some, size_at, size_end}
use Rattle.cv_scope_rules.specs.Made.{made_by}
use Rattle.cv_scope_rules.specs.Sites.{Variable}
use Rattle.cv_scene_view.specs.Kept.{scene_of}
use Rattle.cv_query_certificates.specs.Secrets.{first_definition_but, is_copy}
use Rattle.cv_query_offences.proofs.Walks.{definition_end, definition_node, found_first, found_rest}
use Rattle.cv_query_offences.proofs.copies.+uncopied.Goals as goal
use Rattle.cv_scene_view.proofs.Tested.{reads_here}

pub returns-then-is_other-clause-found : goal.returns-then-is_other-clause-found
returns-then-is_other-clause-found t c =
    let trees = c.args.work.now.pool.trees in
    let node = c.read_node-node.result in
    let f = is_copy (scene_of c.args.work.now.pool c.args.work.now.decls c.args.game) in
    let first = first_definition_but f c.args.x (first_place c.tree.place node.head) (tree_at trees node.first) in
    let rest = first_definition_but f c.args.x (second_place c.tree.place node.head (tree_at trees node.first)) (tree_at trees node.second) in
    let e = definition_node f c.args.x c.tree.place (tree_at trees c.tree.at) node.head (tree_at trees node.first) (tree_at trees node.second) (node_at trees c.tree.at c.in-Some.k node c.in-Some.is c.read_node-node.ensures.tree) in
    sym c.tree.invariant.same ∙ reads_here (first_definition_but f c.args.x c.tree.place (tree_at trees c.tree.at)) (first_of first rest) c.tree.place c.is_other.result (made_by node.head (tree_at trees node.first) (Variable c.args.x) && not (f node.head (tree_at trees node.first))) e c.is_other.ensures c.if-is_other.true

pub overflow_add-place : goal.overflow_add-place
overflow_add-place t c =
    let s = size_at c.args.work.now.pool.trees c.tree.at c.in-Some.k c.read_node-node.result c.in-Some.is c.read_node-node.ensures.tree in
    omega (arith, s, c.tree.invariant.sum, c.requires.fits, c.weight.ensures.weight)

pub uncopied-requires : goal.uncopied-requires
uncopied-requires t c =
    let trees = c.args.work.now.pool.trees in
    let s = size_at trees c.tree.at c.in-Some.k c.read_node-node.result c.in-Some.is c.read_node-node.ensures.tree in
    let k = above_some c.tree.at c.in-Some.k c.in-Some.is in
    let b = above_child c.in-Some.k.0 c.read_node-node.result.first c.read_node-node.ensures.first in
    let less : above c.read_node-node.result.first < above c.args.tree = omega (arith, k, b, c.tree.invariant.less) in
    (search rules, (c.requires.game, (c.requires.small, (c.requires.declared, (child_live (length trees) c.tree.at c.in-Some.k c.read_node-node.result.first c.in-Some.is c.tree.invariant.live c.read_node-node.ensures.first, omega (arith, s, c.tree.invariant.sum, c.requires.fits, c.weight.ensures.weight))))))

pub returns-in-Err-clause-found : goal.returns-in-Err-clause-found
returns-in-Err-clause-found t c =
    let trees = c.args.work.now.pool.trees in
    let node = c.read_node-node.result in
    let f = is_copy (scene_of c.args.work.now.pool c.args.work.now.decls c.args.game) in
    let first = first_definition_but f c.args.x (first_place c.tree.place node.head) (tree_at trees node.first) in
    let rest = first_definition_but f c.args.x (second_place c.tree.place node.head (tree_at trees node.first)) (tree_at trees node.second) in
    let e = definition_node f c.args.x c.tree.place (tree_at trees c.tree.at) node.head (tree_at trees node.first) (tree_at trees node.second) (node_at trees c.tree.at c.in-Some.k node c.in-Some.is c.read_node-node.ensures.tree) in
    let w = ap (λ n. first_definition_but f c.args.x (c.tree.place + n) (tree_at trees node.first)) (sym c.weight.ensures.weight) in
    sym c.tree.invariant.same ∙ found_first (first_definition_but f c.args.x c.tree.place (tree_at trees c.tree.at)) first rest c.tree.place c.in-Err.found c.is_other.result (made_by node.head (tree_at trees node.first) (Variable c.args.x) && not (f node.head (tree_at trees node.first))) e c.is_other.ensures c.if-is_other.false (w ∙ c.in-Err.ensures.found)

pub tree-preserved : goal.tree-preserved
tree-preserved t c =
    let trees = c.args.work.now.pool.trees in
    let node = c.read_node-node.result in
    let f = is_copy (scene_of c.args.work.now.pool c.args.work.now.decls c.args.game) in
    let first = first_definition_but f c.args.x (first_place c.tree.place node.head) (tree_at trees node.first) in
    let rest = first_definition_but f c.args.x (second_place c.tree.place node.head (tree_at trees node.first)) (tree_at trees node.second) in
    let e = definition_node f c.args.x c.tree.place (tree_at trees c.tree.at) node.head (tree_at trees node.first) (tree_at trees node.second) (node_at trees c.tree.at c.in-Some.k node c.in-Some.is c.read_node-node.ensures.tree) in
    let w = ap (λ n. first_definition_but f c.args.x (c.tree.place + n) (tree_at trees node.first)) (sym c.weight.ensures.weight) in
    let s = size_at trees c.tree.at c.in-Some.k node c.in-Some.is c.read_node-node.ensures.tree in
    let q = c.in-Ok.ensures.next ∙ ap (λ n. c.tree.place + n + size (tree_at trees node.first)) c.weight.ensures.weight in
    record {
      live = child_live (length trees) c.tree.at c.in-Some.k node.second c.in-Some.is c.tree.invariant.live c.read_node-node.ensures.second;
      less = child_above _ c.tree.at c.in-Some.k node.second c.in-Some.is c.tree.invariant.less c.read_node-node.ensures.second;
      sum = omega (arith, s, q, c.tree.invariant.sum);
      same = ap (λ n. first_definition_but f c.args.x n (tree_at trees node.second)) q ∙ (sym (found_rest (first_definition_but f c.args.x c.tree.place (tree_at trees c.tree.at)) first rest c.tree.place c.is_other.result (made_by node.head (tree_at trees node.first) (Variable c.args.x) && not (f node.head (tree_at trees node.first))) e c.is_other.ensures c.if-is_other.false (w ∙ c.in-Ok.ensures.none)) ∙ c.tree.invariant.same);
    }

pub returns-clause-none : goal.returns-clause-none
returns-clause-none t c = sym c.tree.invariant.same ∙ definition_end (is_copy (scene_of c.args.work.now.pool c.args.work.now.decls c.args.game)) c.args.x c.tree.place (tree_at c.args.work.now.pool.trees c.tree.at) (empty_at c.args.work.now.pool.trees c.tree.at c.in_default.is)

pub returns-clause-next : goal.returns-clause-next
returns-clause-next t c = omega (arith, c.tree.invariant.sum, size_end c.args.work.now.pool.trees c.tree.at c.in_default.is)
