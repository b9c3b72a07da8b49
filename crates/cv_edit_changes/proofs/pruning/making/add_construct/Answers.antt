use Rattle.std.proofs.Common.{◌≡◌, false, Some, refl, sym, ap, subst, ◌∙◌, arith, length}
use Rattle.std.specs.Prelude.{option_map}
use Rattle.cv_syntax_trees.specs.Tree.{Node}
use Rattle.cv_syntax.specs.PoolTrees.{tree_at}
use Rattle.cv_syntax.proofs.Walking.{size_node}
use Rattle.cv_path.specs.Ways.{led, turned}
use Rattle.cv_path.proofs.Going.{turn_of, way_goes, way_live}
use Rattle.cv_scene.specs.Pruning.{without_branch}
use Rattle.cv_edit_changes.specs.pruning.Bodies.{part_of}
use Rattle.cv_edit_changes.specs.pruning.Lefts.{IsLeft, left_of}
use Rattle.cv_edit_changes.proofs.pruning.Games.{if_ok}
use Rattle.cv_edit_changes.proofs.pruning.making.add_construct.Goals as goal

pub left_without-requires-clause-fits : goal.left_without-requires-clause-fits
left_without-requires-clause-fits c =
    let trees = c.args.pool.now.trees in
    let node = c.read_node-construct.result in
    omega (arith, c.requires.fits, size_node (tree_at trees (Some c.args.node)) node.head (tree_at trees node.first) (tree_at trees node.second) c.read_node-construct.ensures.tree)

pub add_branches-requires-clause-nodes : goal.add_branches-requires-clause-nodes
add_branches-requires-clause-nodes c = way_live (length c.args.pool.now.trees) c.args.way.now.items c.push.new.way.items (turn_of c.args.node false) c.in_ok-push-in-Rest.ensures.ok c.requires.live c.requires.nodes

pub returns-in_ok-push-in-Rest-clause-leads : goal.returns-in_ok-push-in-Rest-clause-leads
returns-in_ok-push-in-Rest-clause-leads c =
    let trees = c.args.pool.now.trees in
    let node = c.read_node-construct.result in
    let h = node.head in
    let a = tree_at trees node.first in
    let e = tree_at trees node.second in
    let old = c.args.way.now.items in
    let mid = c.push.new.way.items in
    let new = c.add_branches.new.way.items in
    let part = part_of c.args.body in
    let rest = subst (IsLeft trees h a e part) c.in-Rest.is c.in-Some.ensures.some in
    let w = without_branch a c.in-Rest.k in
    let opened = c.read_node-construct.ensures.tree in
    let go : led trees mid w ≡ led trees old (Node h w e) = way_goes trees old mid (turn_of c.args.node false) false w (Node h w e) (led trees old (Node h w e)) c.in_ok-push-in-Rest.ensures.ok refl (ap (λ u. turned false u w) opened) refl in
    let left : left_of (tree_at trees (Some c.args.node)) part ≡ Some (Node h w e) = ap (λ u. left_of u part) opened ∙ rest.whole in
    if_ok (λ n. led trees new (tree_at trees n) ≡ led trees mid w) (λ n. option_map (led trees old) (left_of (tree_at trees (Some c.args.node)) part) ≡ Some (led trees new (tree_at trees n))) c.add_branches.result
    (λ n g. ap (option_map (led trees old)) left ∙ ap Some (sym (g ∙ go))) c.add_branches.ensures.leads
