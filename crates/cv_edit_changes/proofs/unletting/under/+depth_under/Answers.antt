use Rattle.std.proofs.Common.{rules, arith, ap, sym, ◌∙◌, ◌≡◌, ◌<◌, ◌+◌, max, length}
use Rattle.cv_syntax_trees.specs.Tree.{depth, size}
use Rattle.cv_syntax.specs.PoolTrees.{tree_at}
use Rattle.cv_syntax.specs.Walks.{above}
use Rattle.cv_syntax.proofs.Trees.{child_live, empty_at}
use Rattle.cv_syntax.proofs.Walking.{above_child, above_some, depth_le_size}
use Rattle.cv_scene.specs.lines.Given.{with_given}
use Rattle.cv_edit_changes.specs.unletting.Assigned.{names_above}
use Rattle.cv_edit_changes.proofs.unletting.Substituted.{under_depth, under_flat, under_given, under_size}
use Rattle.cv_edit_changes.proofs.unletting.under.+depth_under.Goals as goal

pub depth_below-requires-clause-fits : goal.depth_below-requires-clause-fits
depth_below-requires-clause-fits u c =
    let trees = c.args.pool.now.trees in
    let node = c.read_node-node.result in
    let is = names_above trees c.args.directory.now c.args.x in
    let t = tree_at trees c.chain.at in
    let a = tree_at trees node.first in
    let b = tree_at trees node.second in
    let e = ap (tree_at trees) c.in-Some.is ∙ c.read_node-node.ensures.tree in
    let ts = tree_at trees c.args.terms in
    let g = sym c.in-Some-given_for.ensures.tree in
    let same = ap size (under_given is ts t node.head a b e _ g) in
    let deep = ap depth (under_given is ts t node.head a b e _ g) in
    omega (arith, same, c.chain.invariant.small, c.requires.fits)

pub overflow_add-above : goal.overflow_add-above
overflow_add-above u c =
    let trees = c.args.pool.now.trees in
    let node = c.read_node-node.result in
    let is = names_above trees c.args.directory.now c.args.x in
    let t = tree_at trees c.chain.at in
    let a = tree_at trees node.first in
    let b = tree_at trees node.second in
    let e = ap (tree_at trees) c.in-Some.is ∙ c.read_node-node.ensures.tree in
    let ts = tree_at trees c.args.terms in
    let g = sym c.in-Some-given_for.ensures.tree in
    let same = ap size (under_given is ts t node.head a b e _ g) in
    let deep = ap depth (under_given is ts t node.head a b e _ g) in
    omega (arith, deep, c.chain.invariant.deepest, c.requires.fits, c.depth_below.ensures, depth_le_size (with_given is ts (tree_at trees c.args.start)))

pub returns-in-Some-given_for : goal.returns-in-Some-given_for
returns-in-Some-given_for u c =
    let trees = c.args.pool.now.trees in
    let node = c.read_node-node.result in
    let is = names_above trees c.args.directory.now c.args.x in
    let t = tree_at trees c.chain.at in
    let a = tree_at trees node.first in
    let b = tree_at trees node.second in
    let e = ap (tree_at trees) c.in-Some.is ∙ c.read_node-node.ensures.tree in
    let ts = tree_at trees c.args.terms in
    let g = sym c.in-Some-given_for.ensures.tree in
    let same = ap size (under_given is ts t node.head a b e _ g) in
    let deep = ap depth (under_given is ts t node.head a b e _ g) in
    let top : c.max.result ≡ max c.chain.deepest (c.chain.above + c.depth_below.result) = search rules in
    omega (arith, top, deep, c.chain.invariant.deepest, c.depth_below.ensures)

pub overflow_add-above-in-Some : goal.overflow_add-above-in-Some
overflow_add-above-in-Some u c =
    let trees = c.args.pool.now.trees in
    let node = c.read_node-node.result in
    let is = names_above trees c.args.directory.now c.args.x in
    let t = tree_at trees c.chain.at in
    let a = tree_at trees node.first in
    let b = tree_at trees node.second in
    let e = ap (tree_at trees) c.in-Some.is ∙ c.read_node-node.ensures.tree in
    let ts = tree_at trees c.args.terms in
    let g = sym c.in_default-given_for.ensures.tree in
    let step = under_size is ts t node.head a b e g in
    let deep = under_depth is ts t node.head a b e g in
    omega (arith, deep, c.chain.invariant.deepest, c.requires.fits, depth_le_size (with_given is ts (tree_at trees c.args.start)))

pub depth_under-requires : goal.depth_under-requires
depth_under-requires u c =
    let trees = c.args.pool.now.trees in
    let node = c.read_node-node.result in
    let is = names_above trees c.args.directory.now c.args.x in
    let t = tree_at trees c.chain.at in
    let a = tree_at trees node.first in
    let b = tree_at trees node.second in
    let e = ap (tree_at trees) c.in-Some.is ∙ c.read_node-node.ensures.tree in
    let ts = tree_at trees c.args.terms in
    let g = sym c.in_default-given_for.ensures.tree in
    let step = under_size is ts t node.head a b e g in
    let deep = under_depth is ts t node.head a b e g in
    let less : above node.first < above c.args.start = omega (arith, c.chain.invariant.below, above_some c.chain.at c.in-Some.k c.in-Some.is, above_child c.in-Some.k.0 node.first c.read_node-node.ensures.first) in
    (search rules, (c.requires.terms, (child_live (length trees) c.chain.at c.in-Some.k node.first c.in-Some.is c.chain.invariant.live c.read_node-node.ensures.first, omega (arith, step, c.chain.invariant.small, c.requires.fits))))

pub overflow_add-above-in-Some-2 : goal.overflow_add-above-in-Some-2
overflow_add-above-in-Some-2 u c =
    let trees = c.args.pool.now.trees in
    let node = c.read_node-node.result in
    let is = names_above trees c.args.directory.now c.args.x in
    let t = tree_at trees c.chain.at in
    let a = tree_at trees node.first in
    let b = tree_at trees node.second in
    let e = ap (tree_at trees) c.in-Some.is ∙ c.read_node-node.ensures.tree in
    let ts = tree_at trees c.args.terms in
    let g = sym c.in_default-given_for.ensures.tree in
    let step = under_size is ts t node.head a b e g in
    let deep = under_depth is ts t node.head a b e g in
    omega (arith, deep, c.chain.invariant.deepest, c.requires.fits, c.depth_under.ensures, depth_le_size (with_given is ts (tree_at trees c.args.start)))

pub chain-preserved : goal.chain-preserved
chain-preserved u c =
    let trees = c.args.pool.now.trees in
    let node = c.read_node-node.result in
    let is = names_above trees c.args.directory.now c.args.x in
    let t = tree_at trees c.chain.at in
    let a = tree_at trees node.first in
    let b = tree_at trees node.second in
    let e = ap (tree_at trees) c.in-Some.is ∙ c.read_node-node.ensures.tree in
    let ts = tree_at trees c.args.terms in
    let g = sym c.in_default-given_for.ensures.tree in
    let step = under_size is ts t node.head a b e g in
    let deep = under_depth is ts t node.head a b e g in
    let top : c.max-deepest.result ≡ max c.chain.deepest (c.chain.above + c.weight-above.result + c.depth_under.result) = search rules in
    record {
      below = omega (arith, c.chain.invariant.below, above_some c.chain.at c.in-Some.k c.in-Some.is, above_child c.in-Some.k.0 node.second c.read_node-node.ensures.second);
      live = child_live (length trees) c.chain.at c.in-Some.k node.second c.in-Some.is c.chain.invariant.live c.read_node-node.ensures.second;
      small = omega (arith, step, c.chain.invariant.small);
      deepest = omega (arith, top, deep, c.chain.invariant.deepest, c.depth_under.ensures);
      over = omega (arith, top, c.chain.invariant.over);
    }

pub returns : goal.returns
returns u c =
    let trees = c.args.pool.now.trees in
    let is = names_above trees c.args.directory.now c.args.x in
    omega (arith, c.chain.invariant.deepest, c.chain.invariant.over, under_flat is (tree_at trees c.args.terms) (tree_at trees c.chain.at) (empty_at trees c.chain.at c.in_default.is))
