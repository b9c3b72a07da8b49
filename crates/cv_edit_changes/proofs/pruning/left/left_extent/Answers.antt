use Rattle.std.proofs.Common.{◌≡◌, max, Some, refl, rules, sym, ap, subst, ◌∙◌, arith}
use Rattle.std.specs.Prelude.{option_map}
use Rattle.cv_syntax_trees.specs.Tree.{Node, depth}
use Rattle.cv_syntax.specs.PoolTrees.{tree_at}
use Rattle.cv_syntax.proofs.Walking.{depth_node}
use Rattle.cv_scene.specs.Pruning.{without_branch}
use Rattle.cv_edit_changes.specs.pruning.Bodies.{part_of}
use Rattle.cv_edit_changes.specs.pruning.Lefts.{IsLeft}
use Rattle.cv_edit_changes.proofs.pruning.left.left_extent.Goals as goal

pub returns-in-Rest-clause-depth : goal.returns-in-Rest-clause-depth
returns-in-Rest-clause-depth c =
    let trees = c.args.pool.now.trees in
    let h = c.args.construct.head in
    let a = tree_at trees c.args.construct.first in
    let e = tree_at trees c.args.construct.second in
    let rest = subst (IsLeft trees h a e (part_of c.args.body)) c.in-Rest.is c.in_ok-other.ensures.some in
    let w = without_branch a c.in-Rest.field-0 in
    let inner : c.max-branches.result ≡ max c.in-Rest.cut.depth c.depth_below-in-Rest.result = search rules in
    let outer : c.max.result ≡ max c.max-branches.result c.depth_below-in-Rest-2.result = search rules in
    let deep = depth_node (Node h w e) h w e refl in
    ap Some (omega (arith, inner, outer, deep, rest.depth, c.weight-weight.ensures.weight, c.depth_below-in-Rest.ensures, c.depth_below-in-Rest-2.ensures)) ∙ sym (ap (option_map depth) rest.whole)
