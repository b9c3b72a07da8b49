use Rattle.std.proofs.Common.{rules, arith, ap, ◌∙◌, ◌≡◌, ◌+◌, max}
use Rattle.cv_syntax.specs.PoolTrees.{tree_at}
use Rattle.cv_syntax.proofs.Trees.{empty_at}
use Rattle.cv_syntax.proofs.Walking.{depth_le_size, size_node}
use Rattle.cv_path.proofs.extents.Extents.{depth_here, depth_within, depth_behind, depth_gone}
use Rattle.cv_path.proofs.extents.measuring.depth_with.Goals as goal

pub place_in-requires-clause-fits : goal.place_in-requires-clause-fits
place_in-requires-clause-fits c =
    let trees = c.args.pool.now.trees in
    let node = c.read_node-node.result in
    omega (arith, c.down.invariant.within, size_node (tree_at trees c.down.at) node.head (tree_at trees node.first) (tree_at trees node.second) (ap (tree_at trees) c.in-Some.is ∙ c.read_node-node.ensures.tree))

pub returns-in-Here : goal.returns-in-Here
returns-in-Here c =
    let trees = c.args.pool.now.trees in
    let node = c.read_node-node.result in
    let e = ap (tree_at trees) c.in-Some.is ∙ c.read_node-node.ensures.tree in
    let m : c.max.result ≡ max c.down.beside (c.down.above + c.args.deep) = search rules in
    λ t d. omega (arith, d, m, c.down.invariant.deepest t d, depth_here (tree_at trees c.down.at) node.head (tree_at trees node.first) (tree_at trees node.second) c.down.left 0 t e c.in-Here.ensures)

pub down-preserved-in-Within : goal.down-preserved-in-Within
down-preserved-in-Within c =
    let trees = c.args.pool.now.trees in
    let node = c.read_node-node.result in
    let e = ap (tree_at trees) c.in-Some.is ∙ c.read_node-node.ensures.tree in
    record {
      live = search rules;
      within = omega (arith, size_node (tree_at trees c.down.at) node.head (tree_at trees node.first) (tree_at trees node.second) e);
      deepest = λ t d. omega (arith, c.down.invariant.deepest t d, depth_within (tree_at trees c.down.at) node.head (tree_at trees node.first) (tree_at trees node.second) c.down.left c.in-Within.rest t e c.in-Within.ensures);
    }

pub down-preserved : goal.down-preserved
down-preserved c =
    let trees = c.args.pool.now.trees in
    let node = c.read_node-node.result in
    let e = ap (tree_at trees) c.in-Some.is ∙ c.read_node-node.ensures.tree in
    record {
      live = search rules;
      within = omega (arith, size_node (tree_at trees c.down.at) node.head (tree_at trees node.first) (tree_at trees node.second) e);
      deepest = λ t d. omega (arith, c.down.invariant.deepest t d, depth_behind (tree_at trees c.down.at) node.head (tree_at trees node.first) (tree_at trees node.second) c.down.left c.in-Behind.rest t e c.in-Behind.ensures);
    }

pub overflow_add-above-in-Within : goal.overflow_add-above-in-Within
overflow_add-above-in-Within c =
    let trees = c.args.pool.now.trees in
    let node = c.read_node-node.result in
    let e = ap (tree_at trees) c.in-Some.is ∙ c.read_node-node.ensures.tree in
    omega (arith, c.requires.fits, c.down.invariant.within, size_node (tree_at trees c.down.at) node.head (tree_at trees node.first) (tree_at trees node.second) e, c.weight-above.ensures.weight)

pub depth_below-requires-clause-fits : goal.depth_below-requires-clause-fits
depth_below-requires-clause-fits c =
    let trees = c.args.pool.now.trees in
    let node = c.read_node-node.result in
    let e = ap (tree_at trees) c.in-Some.is ∙ c.read_node-node.ensures.tree in
    omega (arith, c.requires.fits, c.down.invariant.within, size_node (tree_at trees c.down.at) node.head (tree_at trees node.first) (tree_at trees node.second) e)

pub overflow_add-above-in-Behind : goal.overflow_add-above-in-Behind
overflow_add-above-in-Behind c =
    let trees = c.args.pool.now.trees in
    let node = c.read_node-node.result in
    let e = ap (tree_at trees) c.in-Some.is ∙ c.read_node-node.ensures.tree in
    omega (arith, c.requires.fits, c.down.invariant.within, size_node (tree_at trees c.down.at) node.head (tree_at trees node.first) (tree_at trees node.second) e, c.weight-above-in-Behind.ensures.weight)

pub depth_below-requires-in-Behind-clause-fits : goal.depth_below-requires-in-Behind-clause-fits
depth_below-requires-in-Behind-clause-fits c =
    let trees = c.args.pool.now.trees in
    let node = c.read_node-node.result in
    let e = ap (tree_at trees) c.in-Some.is ∙ c.read_node-node.ensures.tree in
    omega (arith, c.requires.fits, c.down.invariant.within, size_node (tree_at trees c.down.at) node.head (tree_at trees node.first) (tree_at trees node.second) e)

pub overflow_add-above-in-Behind-2 : goal.overflow_add-above-in-Behind-2
overflow_add-above-in-Behind-2 c =
    let trees = c.args.pool.now.trees in
    let node = c.read_node-node.result in
    let e = ap (tree_at trees) c.in-Some.is ∙ c.read_node-node.ensures.tree in
    omega (arith, c.requires.fits, c.down.invariant.within, size_node (tree_at trees c.down.at) node.head (tree_at trees node.first) (tree_at trees node.second) e, c.weight-above-in-Behind.ensures.weight, c.depth_below-in-Behind.ensures, depth_le_size (tree_at trees node.first))

pub returns : goal.returns
returns c = λ t d. omega (arith, c.down.invariant.deepest t d, depth_gone (tree_at c.args.pool.now.trees c.down.at) c.down.left t (empty_at c.args.pool.now.trees c.down.at c.in_default.is))
