use Rattle.std.proofs.Common.{rules, arith, ap, sym, ◌∙◌, ◌<◌, length}
use Rattle.cv_syntax_trees.specs.Tree.{size}
use Rattle.cv_syntax.specs.PoolTrees.{tree_at}
use Rattle.cv_syntax.specs.Walks.{above}
use Rattle.cv_syntax.proofs.Trees.{child_live, empty_at}
use Rattle.cv_syntax.proofs.Walking.{above_child, above_some}
use Rattle.cv_edit_changes.specs.unletting.Assigned.{names_above}
use Rattle.cv_edit_changes.proofs.unletting.Substituted.{under_given, under_nothing, under_size}
use Rattle.cv_edit_changes.proofs.unletting.under.+size_under.Goals as goal

pub size_below-requires-clause-fits : goal.size_below-requires-clause-fits
size_below-requires-clause-fits u c =
    let trees = c.args.pool.now.trees in
    let node = c.read_node-node.result in
    let is = names_above trees c.args.directory.now c.args.x in
    let t = tree_at trees c.chain.at in
    let a = tree_at trees node.first in
    let b = tree_at trees node.second in
    let e = ap (tree_at trees) c.in-Some.is ∙ c.read_node-node.ensures.tree in
    let ts = tree_at trees c.args.terms in
    let same = ap size (under_given is ts t node.head a b e _ (sym c.in-Some-given_for.ensures.tree)) in
    omega (arith, same, c.chain.invariant.total, c.requires.fits)

pub overflow_add-result : goal.overflow_add-result
overflow_add-result u c =
    let trees = c.args.pool.now.trees in
    let node = c.read_node-node.result in
    let is = names_above trees c.args.directory.now c.args.x in
    let t = tree_at trees c.chain.at in
    let a = tree_at trees node.first in
    let b = tree_at trees node.second in
    let e = ap (tree_at trees) c.in-Some.is ∙ c.read_node-node.ensures.tree in
    let ts = tree_at trees c.args.terms in
    let same = ap size (under_given is ts t node.head a b e _ (sym c.in-Some-given_for.ensures.tree)) in
    omega (arith, same, c.chain.invariant.total, c.requires.fits, c.size_below.ensures)

pub returns-in-Some-given_for : goal.returns-in-Some-given_for
returns-in-Some-given_for u c =
    let trees = c.args.pool.now.trees in
    let node = c.read_node-node.result in
    let is = names_above trees c.args.directory.now c.args.x in
    let t = tree_at trees c.chain.at in
    let a = tree_at trees node.first in
    let b = tree_at trees node.second in
    let e = ap (tree_at trees) c.in-Some.is ∙ c.read_node-node.ensures.tree in
    let ts = tree_at trees c.args.terms in
    let same = ap size (under_given is ts t node.head a b e _ (sym c.in-Some-given_for.ensures.tree)) in
    omega (arith, same, c.chain.invariant.total, c.size_below.ensures)

pub overflow_add-total : goal.overflow_add-total
overflow_add-total u c =
    let trees = c.args.pool.now.trees in
    let node = c.read_node-node.result in
    let is = names_above trees c.args.directory.now c.args.x in
    let t = tree_at trees c.chain.at in
    let a = tree_at trees node.first in
    let b = tree_at trees node.second in
    let e = ap (tree_at trees) c.in-Some.is ∙ c.read_node-node.ensures.tree in
    let ts = tree_at trees c.args.terms in
    let step = under_size is ts t node.head a b e (sym c.in_default-given_for.ensures.tree) in
    omega (arith, step, c.chain.invariant.total, c.requires.fits)

pub size_under-total-requires : goal.size_under-total-requires
size_under-total-requires u c =
    let trees = c.args.pool.now.trees in
    let node = c.read_node-node.result in
    let is = names_above trees c.args.directory.now c.args.x in
    let t = tree_at trees c.chain.at in
    let a = tree_at trees node.first in
    let b = tree_at trees node.second in
    let e = ap (tree_at trees) c.in-Some.is ∙ c.read_node-node.ensures.tree in
    let ts = tree_at trees c.args.terms in
    let step = under_size is ts t node.head a b e (sym c.in_default-given_for.ensures.tree) in
    let less : above node.first < above c.args.start = omega (arith, c.chain.invariant.below, above_some c.chain.at c.in-Some.k c.in-Some.is, above_child c.in-Some.k.0 node.first c.read_node-node.ensures.first) in
    (search rules, (c.requires.terms, (child_live (length trees) c.chain.at c.in-Some.k node.first c.in-Some.is c.chain.invariant.live c.read_node-node.ensures.first, omega (arith, step, c.chain.invariant.total, c.requires.fits))))

pub overflow_add-total-in-Some : goal.overflow_add-total-in-Some
overflow_add-total-in-Some u c =
    let trees = c.args.pool.now.trees in
    let node = c.read_node-node.result in
    let is = names_above trees c.args.directory.now c.args.x in
    let t = tree_at trees c.chain.at in
    let a = tree_at trees node.first in
    let b = tree_at trees node.second in
    let e = ap (tree_at trees) c.in-Some.is ∙ c.read_node-node.ensures.tree in
    let ts = tree_at trees c.args.terms in
    let step = under_size is ts t node.head a b e (sym c.in_default-given_for.ensures.tree) in
    omega (arith, step, c.chain.invariant.total, c.requires.fits, c.size_under-total.ensures)

pub chain-preserved : goal.chain-preserved
chain-preserved u c =
    let trees = c.args.pool.now.trees in
    let node = c.read_node-node.result in
    let is = names_above trees c.args.directory.now c.args.x in
    let t = tree_at trees c.chain.at in
    let a = tree_at trees node.first in
    let b = tree_at trees node.second in
    let e = ap (tree_at trees) c.in-Some.is ∙ c.read_node-node.ensures.tree in
    let ts = tree_at trees c.args.terms in
    let step = under_size is ts t node.head a b e (sym c.in_default-given_for.ensures.tree) in
    record {
      below = omega (arith, c.chain.invariant.below, above_some c.chain.at c.in-Some.k c.in-Some.is, above_child c.in-Some.k.0 node.second c.read_node-node.ensures.second);
      live = child_live (length trees) c.chain.at c.in-Some.k node.second c.in-Some.is c.chain.invariant.live c.read_node-node.ensures.second;
      total = omega (arith, step, c.chain.invariant.total, c.size_under-total.ensures);
    }

pub returns : goal.returns
returns u c =
    let trees = c.args.pool.now.trees in
    let is = names_above trees c.args.directory.now c.args.x in
    omega (arith, c.chain.invariant.total, under_nothing is (tree_at trees c.args.terms) (tree_at trees c.chain.at) (empty_at trees c.chain.at c.in_default.is))
