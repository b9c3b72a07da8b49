use Rattle.std.proofs.Common.{Some, sym, ap, ◌∙◌, arith}
use Rattle.std.specs.Prelude.{option_map}
use Rattle.cv_syntax_trees.specs.Tree.{Node, size}
use Rattle.cv_syntax.specs.PoolTrees.{tree_at}
use Rattle.cv_syntax.proofs.Walking.{size_node}
use Rattle.cv_scene.specs.Pruning.{pruned}
use Rattle.cv_edit_changes.specs.pruning.Bodies.{part_of}
use Rattle.cv_edit_changes.proofs.pruning.Constructs.{bodies_small, else_body, find_body, find_weight, no_find, then_body}
use Rattle.cv_edit_changes.proofs.pruning.body.body_to_prune.Goals as goal

pub overflow_add-result : goal.overflow_add-result
overflow_add-result c =
    let trees = c.args.pool.now.trees in
    let h = c.read_node-construct.result.head in
    let a = tree_at trees c.read_node-construct.result.first in
    let b = tree_at trees c.read_node-construct.result.second in
    let whole = size_node (tree_at trees (Some c.args.node)) h a b c.read_node-construct.ensures.tree in
    let weighs = bodies_small h a b (tree_at trees c.in_ok-bodies_in-in-Then.field-0.then, tree_at trees c.in_ok-bodies_in-in-Then.field-0.other) c.in_ok-bodies_in-in-Then.ensures.bodies in
    omega (arith, c.requires.fits, whole, weighs.0)

pub size_below-requires-clause-fits : goal.size_below-requires-clause-fits
size_below-requires-clause-fits c =
    let trees = c.args.pool.now.trees in
    let h = c.read_node-construct.result.head in
    let a = tree_at trees c.read_node-construct.result.first in
    let b = tree_at trees c.read_node-construct.result.second in
    let whole = size_node (tree_at trees (Some c.args.node)) h a b c.read_node-construct.ensures.tree in
    omega (arith, c.requires.fits, whole)

pub overflow_add-result-in-Then : goal.overflow_add-result-in-Then
overflow_add-result-in-Then c =
    let trees = c.args.pool.now.trees in
    let h = c.read_node-construct.result.head in
    let a = tree_at trees c.read_node-construct.result.first in
    let b = tree_at trees c.read_node-construct.result.second in
    let whole = size_node (tree_at trees (Some c.args.node)) h a b c.read_node-construct.ensures.tree in
    let weighs = bodies_small h a b (tree_at trees c.in_ok-bodies_in-in-Then.field-0.then, tree_at trees c.in_ok-bodies_in-in-Then.field-0.other) c.in_ok-bodies_in-in-Then.ensures.bodies in
    omega (arith, c.requires.fits, whole, weighs.0, c.size_below.ensures)

pub size_below-before-requires-clause-fits : goal.size_below-before-requires-clause-fits
size_below-before-requires-clause-fits c =
    let trees = c.args.pool.now.trees in
    let h = c.read_node-construct.result.head in
    let a = tree_at trees c.read_node-construct.result.first in
    let b = tree_at trees c.read_node-construct.result.second in
    let whole = size_node (tree_at trees (Some c.args.node)) h a b c.read_node-construct.ensures.tree in
    omega (arith, c.requires.fits, whole)

pub overflow_add-before : goal.overflow_add-before
overflow_add-before c =
    let trees = c.args.pool.now.trees in
    let h = c.read_node-construct.result.head in
    let a = tree_at trees c.read_node-construct.result.first in
    let b = tree_at trees c.read_node-construct.result.second in
    let whole = size_node (tree_at trees (Some c.args.node)) h a b c.read_node-construct.ensures.tree in
    let weighs = bodies_small h a b (tree_at trees c.in_ok-bodies-in-Else.bodies.then, tree_at trees c.in_ok-bodies-in-Else.bodies.other) c.in_ok-bodies-in-Else.ensures.bodies in
    omega (arith, c.requires.fits, whole, weighs.0, c.size_below-before.ensures)

pub overflow_add-result-in-Else : goal.overflow_add-result-in-Else
overflow_add-result-in-Else c =
    let trees = c.args.pool.now.trees in
    let h = c.read_node-construct.result.head in
    let a = tree_at trees c.read_node-construct.result.first in
    let b = tree_at trees c.read_node-construct.result.second in
    let whole = size_node (tree_at trees (Some c.args.node)) h a b c.read_node-construct.ensures.tree in
    let weighs = bodies_small h a b (tree_at trees c.in_ok-bodies-in-Else.bodies.then, tree_at trees c.in_ok-bodies-in-Else.bodies.other) c.in_ok-bodies-in-Else.ensures.bodies in
    omega (arith, c.requires.fits, whole, weighs.0, c.size_below-before.ensures)

pub size_below-requires-in-Else-clause-fits : goal.size_below-requires-in-Else-clause-fits
size_below-requires-in-Else-clause-fits c =
    let trees = c.args.pool.now.trees in
    let h = c.read_node-construct.result.head in
    let a = tree_at trees c.read_node-construct.result.first in
    let b = tree_at trees c.read_node-construct.result.second in
    let whole = size_node (tree_at trees (Some c.args.node)) h a b c.read_node-construct.ensures.tree in
    let weighs = bodies_small h a b (tree_at trees c.in_ok-bodies-in-Else.bodies.then, tree_at trees c.in_ok-bodies-in-Else.bodies.other) c.in_ok-bodies-in-Else.ensures.bodies in
    omega (arith, c.requires.fits, whole, weighs.1)

pub overflow_add-result-in-Else-2 : goal.overflow_add-result-in-Else-2
overflow_add-result-in-Else-2 c =
    let trees = c.args.pool.now.trees in
    let h = c.read_node-construct.result.head in
    let a = tree_at trees c.read_node-construct.result.first in
    let b = tree_at trees c.read_node-construct.result.second in
    let whole = size_node (tree_at trees (Some c.args.node)) h a b c.read_node-construct.ensures.tree in
    let weighs = bodies_small h a b (tree_at trees c.in_ok-bodies-in-Else.bodies.then, tree_at trees c.in_ok-bodies-in-Else.bodies.other) c.in_ok-bodies-in-Else.ensures.bodies in
    omega (arith, c.requires.fits, whole, weighs.0, weighs.1, c.size_below-before.ensures, c.size_below-in-Else.ensures)

pub cut_at-requires-clause-fits : goal.cut_at-requires-clause-fits
cut_at-requires-clause-fits c =
    let trees = c.args.pool.now.trees in
    let h = c.read_node-construct.result.head in
    let a = tree_at trees c.read_node-construct.result.first in
    let b = tree_at trees c.read_node-construct.result.second in
    let whole = size_node (tree_at trees (Some c.args.node)) h a b c.read_node-construct.ensures.tree in
    omega (arith, c.requires.fits, whole)

pub overflow_add-result-in-Branch : goal.overflow_add-result-in-Branch
overflow_add-result-in-Branch c =
    let trees = c.args.pool.now.trees in
    let h = c.read_node-construct.result.head in
    let a = tree_at trees c.read_node-construct.result.first in
    let b = tree_at trees c.read_node-construct.result.second in
    let whole = size_node (tree_at trees (Some c.args.node)) h a b c.read_node-construct.ensures.tree in
    let weighs = find_weight h (sym c.is_find.ensures ∙ c.if-not-is_find.false) in
    omega (arith, c.requires.fits, whole, weighs)

pub overflow_add-result-in-Branch-2 : goal.overflow_add-result-in-Branch-2
overflow_add-result-in-Branch-2 c =
    let trees = c.args.pool.now.trees in
    let h = c.read_node-construct.result.head in
    let a = tree_at trees c.read_node-construct.result.first in
    let b = tree_at trees c.read_node-construct.result.second in
    let whole = size_node (tree_at trees (Some c.args.node)) h a b c.read_node-construct.ensures.tree in
    omega (arith, c.requires.fits, whole, c.in_ok-cut-in-Branch.ensures.few)

pub overflow_add-result-in-Branch-3 : goal.overflow_add-result-in-Branch-3
overflow_add-result-in-Branch-3 c =
    let trees = c.args.pool.now.trees in
    let h = c.read_node-construct.result.head in
    let a = tree_at trees c.read_node-construct.result.first in
    let b = tree_at trees c.read_node-construct.result.second in
    let whole = size_node (tree_at trees (Some c.args.node)) h a b c.read_node-construct.ensures.tree in
    let weighs = find_weight h (sym c.is_find.ensures ∙ c.if-not-is_find.false) in
    omega (arith, c.requires.fits, whole, weighs, c.in_ok-cut-in-Branch.ensures.few)
