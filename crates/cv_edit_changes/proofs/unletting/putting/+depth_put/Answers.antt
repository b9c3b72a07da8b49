use Rattle.std.proofs.Common.{rules, arith, ap, sym, ◌∙◌, ◌≡◌, ◌<◌, ◌+◌, max, length}
use Rattle.cv_syntax_trees.specs.Tree.{depth, size}
use Rattle.cv_syntax.specs.PoolTrees.{tree_at}
use Rattle.cv_syntax.specs.Walks.{above}
use Rattle.cv_syntax.proofs.Trees.{child_live, empty_at}
use Rattle.cv_syntax.proofs.Walking.{above_child, above_some, depth_le_size}
use Rattle.cv_edit_changes.specs.unletting.Putting.{put_in}
use Rattle.cv_edit_changes.specs.unletting.Assigned.{names_above}
use Rattle.cv_edit_changes.proofs.unletting.PutTrees.{put_depth, put_flat, put_gone, put_read, put_size}
use Rattle.cv_edit_changes.proofs.unletting.putting.+depth_put.Goals as goal

pub depth_under-requires-clause-fits : goal.depth_under-requires-clause-fits
depth_under-requires-clause-fits u c =
    let trees = c.args.pool.now.trees in
    let node = c.read_node-node.result in
    let is = names_above trees c.args.directory.now c.args.x in
    let t = tree_at trees c.chain.at in
    let a = tree_at trees node.first in
    let b = tree_at trees node.second in
    let e = ap (tree_at trees) c.in-Some.is ∙ c.read_node-node.ensures.tree in
    let m = tree_at trees c.args.term in
    let r = sym c.is_read.ensures ∙ c.if-is_read.true in
    let same = ap size (put_read c.args.x is m t node.head a b e r) in
    let deep = ap depth (put_read c.args.x is m t node.head a b e r) in
    omega (arith, same, c.chain.invariant.small, c.requires.fits)

pub overflow_add-above : goal.overflow_add-above
overflow_add-above u c =
    let trees = c.args.pool.now.trees in
    let node = c.read_node-node.result in
    let is = names_above trees c.args.directory.now c.args.x in
    let t = tree_at trees c.chain.at in
    let a = tree_at trees node.first in
    let b = tree_at trees node.second in
    let e = ap (tree_at trees) c.in-Some.is ∙ c.read_node-node.ensures.tree in
    let m = tree_at trees c.args.term in
    let r = sym c.is_read.ensures ∙ c.if-is_read.true in
    let same = ap size (put_read c.args.x is m t node.head a b e r) in
    let deep = ap depth (put_read c.args.x is m t node.head a b e r) in
    omega (arith, deep, c.chain.invariant.deepest, c.requires.fits, c.depth_under.ensures, depth_le_size (put_in c.args.x is m (tree_at trees c.args.start)))

pub returns-then-is_read : goal.returns-then-is_read
returns-then-is_read u c =
    let trees = c.args.pool.now.trees in
    let node = c.read_node-node.result in
    let is = names_above trees c.args.directory.now c.args.x in
    let t = tree_at trees c.chain.at in
    let a = tree_at trees node.first in
    let b = tree_at trees node.second in
    let e = ap (tree_at trees) c.in-Some.is ∙ c.read_node-node.ensures.tree in
    let m = tree_at trees c.args.term in
    let r = sym c.is_read.ensures ∙ c.if-is_read.true in
    let same = ap size (put_read c.args.x is m t node.head a b e r) in
    let deep = ap depth (put_read c.args.x is m t node.head a b e r) in
    let top : c.max.result ≡ max c.chain.deepest (c.chain.above + c.depth_under.result) = search rules in
    omega (arith, top, deep, c.chain.invariant.deepest, c.depth_under.ensures)

pub overflow_add-above-then-not-is_definition : goal.overflow_add-above-then-not-is_definition
overflow_add-above-then-not-is_definition u c =
    let trees = c.args.pool.now.trees in
    let node = c.read_node-node.result in
    let is = names_above trees c.args.directory.now c.args.x in
    let t = tree_at trees c.chain.at in
    let a = tree_at trees node.first in
    let b = tree_at trees node.second in
    let e = ap (tree_at trees) c.in-Some.is ∙ c.read_node-node.ensures.tree in
    let m = tree_at trees c.args.term in
    let r = sym c.is_read.ensures ∙ c.if-is_read.false in
    let d = sym c.is_definition.ensures ∙ c.if-not-is_definition.true in
    let step = put_size c.args.x is m t node.head a b e r d in
    let deep = put_depth c.args.x is m t node.head a b e r d in
    omega (arith, deep, c.chain.invariant.deepest, c.requires.fits, depth_le_size (put_in c.args.x is m (tree_at trees c.args.start)))

pub depth_put-requires : goal.depth_put-requires
depth_put-requires u c =
    let trees = c.args.pool.now.trees in
    let node = c.read_node-node.result in
    let is = names_above trees c.args.directory.now c.args.x in
    let t = tree_at trees c.chain.at in
    let a = tree_at trees node.first in
    let b = tree_at trees node.second in
    let e = ap (tree_at trees) c.in-Some.is ∙ c.read_node-node.ensures.tree in
    let m = tree_at trees c.args.term in
    let r = sym c.is_read.ensures ∙ c.if-is_read.false in
    let d = sym c.is_definition.ensures ∙ c.if-not-is_definition.true in
    let step = put_size c.args.x is m t node.head a b e r d in
    let deep = put_depth c.args.x is m t node.head a b e r d in
    let less : above node.first < above c.args.start = omega (arith, c.chain.invariant.below, above_some c.chain.at c.in-Some.k c.in-Some.is, above_child c.in-Some.k.0 node.first c.read_node-node.ensures.first) in
    (search rules, (c.requires.term, (child_live (length trees) c.chain.at c.in-Some.k node.first c.in-Some.is c.chain.invariant.live c.read_node-node.ensures.first, omega (arith, step, c.chain.invariant.small, c.requires.fits))))

pub overflow_add-above-then-not-is_definition-2 : goal.overflow_add-above-then-not-is_definition-2
overflow_add-above-then-not-is_definition-2 u c =
    let trees = c.args.pool.now.trees in
    let node = c.read_node-node.result in
    let is = names_above trees c.args.directory.now c.args.x in
    let t = tree_at trees c.chain.at in
    let a = tree_at trees node.first in
    let b = tree_at trees node.second in
    let e = ap (tree_at trees) c.in-Some.is ∙ c.read_node-node.ensures.tree in
    let m = tree_at trees c.args.term in
    let r = sym c.is_read.ensures ∙ c.if-is_read.false in
    let d = sym c.is_definition.ensures ∙ c.if-not-is_definition.true in
    let step = put_size c.args.x is m t node.head a b e r d in
    let deep = put_depth c.args.x is m t node.head a b e r d in
    omega (arith, deep, c.chain.invariant.deepest, c.requires.fits, c.depth_put.ensures, depth_le_size (put_in c.args.x is m (tree_at trees c.args.start)))

pub chain-preserved-then-not-is_definition : goal.chain-preserved-then-not-is_definition
chain-preserved-then-not-is_definition u c =
    let trees = c.args.pool.now.trees in
    let node = c.read_node-node.result in
    let is = names_above trees c.args.directory.now c.args.x in
    let t = tree_at trees c.chain.at in
    let a = tree_at trees node.first in
    let b = tree_at trees node.second in
    let e = ap (tree_at trees) c.in-Some.is ∙ c.read_node-node.ensures.tree in
    let m = tree_at trees c.args.term in
    let r = sym c.is_read.ensures ∙ c.if-is_read.false in
    let d = sym c.is_definition.ensures ∙ c.if-not-is_definition.true in
    let step = put_size c.args.x is m t node.head a b e r d in
    let deep = put_depth c.args.x is m t node.head a b e r d in
    let top : c.max-deepest.result ≡ max c.chain.deepest (c.chain.above + c.weight-above.result + c.depth_put.result) = search rules in
    record {
      below = omega (arith, c.chain.invariant.below, above_some c.chain.at c.in-Some.k c.in-Some.is, above_child c.in-Some.k.0 node.second c.read_node-node.ensures.second);
      live = child_live (length trees) c.chain.at c.in-Some.k node.second c.in-Some.is c.chain.invariant.live c.read_node-node.ensures.second;
      small = omega (arith, step, c.chain.invariant.small);
      deepest = omega (arith, top, deep, c.chain.invariant.deepest, c.depth_put.ensures);
      over = omega (arith, top, c.chain.invariant.over);
    }

pub chain-preserved : goal.chain-preserved
chain-preserved u c =
    let trees = c.args.pool.now.trees in
    let node = c.read_node-node.result in
    let is = names_above trees c.args.directory.now c.args.x in
    let t = tree_at trees c.chain.at in
    let a = tree_at trees node.first in
    let b = tree_at trees node.second in
    let e = ap (tree_at trees) c.in-Some.is ∙ c.read_node-node.ensures.tree in
    let m = tree_at trees c.args.term in
    let r = sym c.is_read.ensures ∙ c.if-is_read.false in
    let d = sym c.is_definition.ensures ∙ c.if-not-is_definition.false in
    let same = ap size (put_gone c.args.x is m t node.head a b e r d) in
    let deep = ap depth (put_gone c.args.x is m t node.head a b e r d) in
    record {
      below = omega (arith, c.chain.invariant.below, above_some c.chain.at c.in-Some.k c.in-Some.is, above_child c.in-Some.k.0 node.second c.read_node-node.ensures.second);
      live = child_live (length trees) c.chain.at c.in-Some.k node.second c.in-Some.is c.chain.invariant.live c.read_node-node.ensures.second;
      small = omega (arith, same, c.chain.invariant.small);
      deepest = omega (arith, deep, c.chain.invariant.deepest);
      over = c.chain.invariant.over;
    }

pub returns : goal.returns
returns u c =
    let trees = c.args.pool.now.trees in
    let is = names_above trees c.args.directory.now c.args.x in
    omega (arith, c.chain.invariant.deepest, c.chain.invariant.over, put_flat c.args.x is (tree_at trees c.args.term) (tree_at trees c.chain.at) (empty_at trees c.chain.at c.in_default.is))
