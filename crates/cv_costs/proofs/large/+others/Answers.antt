use Rattle.std.proofs.Common.{rules, not, ◌&&◌, ◌+◌, ◌<◌, arith, ap, length, sym, ◌∙◌}
use Rattle.cv_syntax_trees.specs.Tree.{first_place, second_place, size}
use Rattle.cv_syntax.specs.PoolTrees.{tree_at}
use Rattle.cv_syntax.specs.Walks.{above}
use Rattle.cv_syntax.proofs.Trees.{child_above, child_live, empty_at, node_at}
use Rattle.cv_syntax.proofs.Walking.{above_child, above_some, size_at, size_end}
use Rattle.cv_syntax_trees.specs.sites.Sites.{first_of}
use Rattle.cv_scope_rules.specs.Made.{made_by}
use Rattle.cv_scope_rules.specs.Sites.{Variable}
use Rattle.cv_scene_view.specs.Kept.{scene_of}
use Rattle.cv_scene.specs.Large.{chooses, first_other_site, is_large}
use Rattle.cv_costs.proofs.OtherSites.{other_end, other_node}
use Rattle.cv_scene_view.proofs.Tested.{reads_first, reads_here, reads_rest}
use Rattle.cv_costs.proofs.large.+others.Goals as goal

pub returns-then-is_other-clause-found : goal.returns-then-is_other-clause-found
returns-then-is_other-clause-found t c =
    let trees = c.args.work.now.pool.trees in
    let node = c.read_node-node.result in
    let e = other_node (is_large (scene_of c.args.work.now.pool c.args.work.now.decls c.args.game)) c.args.x c.tree.place (tree_at trees c.tree.at) node.head (tree_at trees node.first) (tree_at trees node.second) (node_at trees c.tree.at c.in-Some.k node c.in-Some.is c.read_node-node.ensures.tree) in
    sym c.tree.invariant.same ∙ reads_here (first_other_site (is_large (scene_of c.args.work.now.pool c.args.work.now.decls c.args.game)) c.args.x c.tree.place (tree_at trees c.tree.at)) (first_of (first_other_site (is_large (scene_of c.args.work.now.pool c.args.work.now.decls c.args.game)) c.args.x (first_place c.tree.place node.head) (tree_at trees node.first)) (first_other_site (is_large (scene_of c.args.work.now.pool c.args.work.now.decls c.args.game)) c.args.x (second_place c.tree.place node.head (tree_at trees node.first)) (tree_at trees node.second))) c.tree.place c.is_other.result (made_by node.head (tree_at trees node.first) (Variable c.args.x) && not (chooses (is_large (scene_of c.args.work.now.pool c.args.work.now.decls c.args.game)) node.head)) e c.is_other.ensures c.if-is_other.true

pub overflow_add-place : goal.overflow_add-place
overflow_add-place t c =
    let s = size_at c.args.work.now.pool.trees c.tree.at c.in-Some.k c.read_node-node.result c.in-Some.is c.read_node-node.ensures.tree in
    omega (arith, s, c.tree.invariant.sum, c.requires.fits, c.weight.ensures.weight)

pub others-requires : goal.others-requires
others-requires t c =
    let s = size_at c.args.work.now.pool.trees c.tree.at c.in-Some.k c.read_node-node.result c.in-Some.is c.read_node-node.ensures.tree in
    let k = above_some c.tree.at c.in-Some.k c.in-Some.is in
    let b = above_child c.in-Some.k.0 c.read_node-node.result.first c.read_node-node.ensures.first in
    let less : above c.read_node-node.result.first < above c.args.tree = omega (arith, k, b, c.tree.invariant.less) in
    (search rules, (child_live (length c.args.work.now.pool.trees) c.tree.at c.in-Some.k c.read_node-node.result.first c.in-Some.is c.tree.invariant.live c.read_node-node.ensures.first, omega (arith, s, c.tree.invariant.sum, c.requires.fits, c.weight.ensures.weight)))

pub returns-in-Err-clause-found : goal.returns-in-Err-clause-found
returns-in-Err-clause-found t c =
    let trees = c.args.work.now.pool.trees in
    let node = c.read_node-node.result in
    let e = other_node (is_large (scene_of c.args.work.now.pool c.args.work.now.decls c.args.game)) c.args.x c.tree.place (tree_at trees c.tree.at) node.head (tree_at trees node.first) (tree_at trees node.second) (node_at trees c.tree.at c.in-Some.k node c.in-Some.is c.read_node-node.ensures.tree) in
    let w = ap (λ n. first_other_site (is_large (scene_of c.args.work.now.pool c.args.work.now.decls c.args.game)) c.args.x (c.tree.place + n) (tree_at trees node.first)) (sym c.weight.ensures.weight) in
    sym c.tree.invariant.same ∙ reads_first (first_other_site (is_large (scene_of c.args.work.now.pool c.args.work.now.decls c.args.game)) c.args.x c.tree.place (tree_at trees c.tree.at)) (first_other_site (is_large (scene_of c.args.work.now.pool c.args.work.now.decls c.args.game)) c.args.x (first_place c.tree.place node.head) (tree_at trees node.first)) (first_other_site (is_large (scene_of c.args.work.now.pool c.args.work.now.decls c.args.game)) c.args.x (second_place c.tree.place node.head (tree_at trees node.first)) (tree_at trees node.second)) c.tree.place c.in-Err.found c.is_other.result (made_by node.head (tree_at trees node.first) (Variable c.args.x) && not (chooses (is_large (scene_of c.args.work.now.pool c.args.work.now.decls c.args.game)) node.head)) e c.is_other.ensures c.if-is_other.false (w ∙ c.in-Err.ensures.found)

pub tree-preserved : goal.tree-preserved
tree-preserved t c =
    let trees = c.args.work.now.pool.trees in
    let node = c.read_node-node.result in
    let e = other_node (is_large (scene_of c.args.work.now.pool c.args.work.now.decls c.args.game)) c.args.x c.tree.place (tree_at trees c.tree.at) node.head (tree_at trees node.first) (tree_at trees node.second) (node_at trees c.tree.at c.in-Some.k node c.in-Some.is c.read_node-node.ensures.tree) in
    let w = ap (λ n. first_other_site (is_large (scene_of c.args.work.now.pool c.args.work.now.decls c.args.game)) c.args.x (c.tree.place + n) (tree_at trees node.first)) (sym c.weight.ensures.weight) in
    let s = size_at trees c.tree.at c.in-Some.k node c.in-Some.is c.read_node-node.ensures.tree in
    let q = c.in-Ok.ensures.next ∙ ap (λ n. c.tree.place + n + size (tree_at trees node.first)) c.weight.ensures.weight in
    record {
      live = child_live (length trees) c.tree.at c.in-Some.k node.second c.in-Some.is c.tree.invariant.live c.read_node-node.ensures.second;
      less = child_above _ c.tree.at c.in-Some.k node.second c.in-Some.is c.tree.invariant.less c.read_node-node.ensures.second;
      sum = omega (arith, s, q, c.tree.invariant.sum);
      same = ap (λ n. first_other_site (is_large (scene_of c.args.work.now.pool c.args.work.now.decls c.args.game)) c.args.x n (tree_at trees node.second)) q ∙ (sym (reads_rest (first_other_site (is_large (scene_of c.args.work.now.pool c.args.work.now.decls c.args.game)) c.args.x c.tree.place (tree_at trees c.tree.at)) (first_other_site (is_large (scene_of c.args.work.now.pool c.args.work.now.decls c.args.game)) c.args.x (first_place c.tree.place node.head) (tree_at trees node.first)) (first_other_site (is_large (scene_of c.args.work.now.pool c.args.work.now.decls c.args.game)) c.args.x (second_place c.tree.place node.head (tree_at trees node.first)) (tree_at trees node.second)) c.tree.place c.is_other.result (made_by node.head (tree_at trees node.first) (Variable c.args.x) && not (chooses (is_large (scene_of c.args.work.now.pool c.args.work.now.decls c.args.game)) node.head)) e c.is_other.ensures c.if-is_other.false (w ∙ c.in-Ok.ensures.none)) ∙ c.tree.invariant.same);
    }

pub returns-clause-none : goal.returns-clause-none
returns-clause-none t c = sym c.tree.invariant.same ∙ other_end (is_large (scene_of c.args.work.now.pool c.args.work.now.decls c.args.game)) c.args.x c.tree.place (tree_at c.args.work.now.pool.trees c.tree.at) (empty_at c.args.work.now.pool.trees c.tree.at c.in_default.is)

pub returns-clause-next : goal.returns-clause-next
returns-clause-next t c = omega (arith, c.tree.invariant.sum, size_end c.args.work.now.pool.trees c.tree.at c.in_default.is)
