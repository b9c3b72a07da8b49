use Rattle.std.proofs.Common.{rules, arith, ap, ◌∙◌}
use Rattle.cv_syntax.specs.PoolTrees.{tree_at}
use Rattle.cv_syntax.proofs.Trees.{empty_at}
use Rattle.cv_syntax.proofs.Walking.{size_node}
use Rattle.cv_path.proofs.Products.{factors_here, factors_within, factors_behind, factors_full, factors_end}
use Rattle.cv_path.proofs.counting.copies.Goals as goal

pub place_in-requires-clause-fits : goal.place_in-requires-clause-fits
place_in-requires-clause-fits c =
    let trees = c.args.pool.now.trees in
    let node = c.read_node-node.result in
    omega (arith, size_node (tree_at trees c.down.at) node.head (tree_at trees node.first) (tree_at trees node.second) (ap (tree_at trees) c.in-Some.is ∙ c.read_node-node.ensures.tree))

pub returns-in-Here : goal.returns-in-Here
returns-in-Here c =
    let trees = c.args.pool.now.trees in
    let node = c.read_node-node.result in
    let e = ap (tree_at trees) c.in-Some.is ∙ c.read_node-node.ensures.tree in
    factors_here (tree_at trees c.down.at) node.head (tree_at trees node.first) (tree_at trees node.second) c.down.left c.down.parameters.items _ e c.in-Here.ensures c.down.invariant.few c.down.invariant.factors

pub down-preserved-in-Within : goal.down-preserved-in-Within
down-preserved-in-Within c =
    let trees = c.args.pool.now.trees in
    let node = c.read_node-node.result in
    let e = ap (tree_at trees) c.in-Some.is ∙ c.read_node-node.ensures.tree in
    record {
      few = search rules;
      live = search rules;
      within = omega (arith, size_node (tree_at trees c.down.at) node.head (tree_at trees node.first) (tree_at trees node.second) e);
      factors = factors_within (tree_at trees c.down.at) node.head (tree_at trees node.first) (tree_at trees node.second) c.down.left c.in-Within.rest c.down.parameters.items _ e c.in-Within.ensures c.down.invariant.factors;
    }

pub add-requires-clause-fits : goal.add-requires-clause-fits
add-requires-clause-fits c =
    let trees = c.args.pool.now.trees in
    let node = c.read_node-node.result in
    omega (arith, size_node (tree_at trees c.down.at) node.head (tree_at trees node.first) (tree_at trees node.second) (ap (tree_at trees) c.in-Some.is ∙ c.read_node-node.ensures.tree))

pub returns-then-not-add : goal.returns-then-not-add
returns-then-not-add c =
    let trees = c.args.pool.now.trees in
    let node = c.read_node-node.result in
    let e = ap (tree_at trees) c.in-Some.is ∙ c.read_node-node.ensures.tree in
    factors_full (tree_at trees c.down.at) node.head (tree_at trees node.first) (tree_at trees node.second) c.down.left c.in-Behind.rest c.down.parameters.items _ e c.in-Behind.ensures (c.add.ensures.full (search rules)) c.down.invariant.factors

pub down-preserved : goal.down-preserved
down-preserved c =
    let trees = c.args.pool.now.trees in
    let node = c.read_node-node.result in
    let e = ap (tree_at trees) c.in-Some.is ∙ c.read_node-node.ensures.tree in
    record {
      few = search rules;
      live = search rules;
      within = omega (arith, size_node (tree_at trees c.down.at) node.head (tree_at trees node.first) (tree_at trees node.second) e);
      factors = factors_behind (tree_at trees c.down.at) node.head (tree_at trees node.first) (tree_at trees node.second) c.down.left c.in-Behind.rest c.down.parameters.items c.add.new.product.items _ e c.in-Behind.ensures (c.add.ensures.room (search rules)) c.down.invariant.factors;
    }

pub returns : goal.returns
returns c = factors_end (tree_at c.args.pool.now.trees c.down.at) c.down.left c.down.parameters.items _ (empty_at c.args.pool.now.trees c.down.at c.in_default.is) c.down.invariant.factors
