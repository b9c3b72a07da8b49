use Rattle.std.proofs.Common.{arith, ap, sym, ◌∙◌, length}
use Rattle.cv_syntax.specs.PoolTrees.{tree_at}
use Rattle.cv_syntax.proofs.Trees.{child_live, empty_at}
use Rattle.cv_syntax.proofs.Walking.{above_child, above_some}
use Rattle.cv_rule.proofs.Guards.{behind_list, in_first, in_list, in_second, lists_nothing}
use Rattle.cv_rule.proofs.listing.+is_listed.Goals as goal

pub returns-then-has_cell_of : goal.returns-then-has_cell_of
returns-then-has_cell_of u c =
    let trees = c.args.pool.now.trees in
    let node = c.read_node-node.result in
    let t = tree_at trees c.tree.at in
    let a = tree_at trees node.first in
    let b = tree_at trees node.second in
    let e = ap (tree_at trees) c.in-Some.is ∙ c.read_node-node.ensures.tree in
    let guards = c.in-Some-guards_in.guards in
    let f = sym c.in-Some-guards_in.ensures.guards in
    sym (in_list c.args.x t node.head a b e (tree_at trees guards.first) (tree_at trees guards.second) f (sym c.has_cell_of.ensures ∙ c.if-has_cell_of.true)) ∙ c.tree.invariant.rest

pub tree-preserved-in-Some-guards_in : goal.tree-preserved-in-Some-guards_in
tree-preserved-in-Some-guards_in u c =
    let trees = c.args.pool.now.trees in
    let node = c.read_node-node.result in
    let t = tree_at trees c.tree.at in
    let a = tree_at trees node.first in
    let b = tree_at trees node.second in
    let e = ap (tree_at trees) c.in-Some.is ∙ c.read_node-node.ensures.tree in
    let guards = c.in-Some-guards_in.guards in
    let f = sym c.in-Some-guards_in.ensures.guards in
    record {
      below = omega (arith, c.tree.invariant.below, above_some c.tree.at c.in-Some.k c.in-Some.is, above_child c.in-Some.k.0 node.second c.read_node-node.ensures.second, c.in-Some-guards_in.ensures.below);
      live = c.in-Some-guards_in.ensures.second;
      rest = sym (behind_list c.args.x t node.head a b e (tree_at trees guards.first) (tree_at trees guards.second) f (sym c.has_cell_of.ensures ∙ c.if-has_cell_of.false)) ∙ c.tree.invariant.rest;
    }

pub returns-then-is_listed : goal.returns-then-is_listed
returns-then-is_listed u c =
    let trees = c.args.pool.now.trees in
    let node = c.read_node-node.result in
    let t = tree_at trees c.tree.at in
    let a = tree_at trees node.first in
    let b = tree_at trees node.second in
    let e = ap (tree_at trees) c.in-Some.is ∙ c.read_node-node.ensures.tree in
    let f = sym c.in-None.ensures.guards in
    sym (in_first c.args.x t node.head a b e f (sym c.is_listed.ensures ∙ c.if-is_listed.true)) ∙ c.tree.invariant.rest

pub tree-preserved : goal.tree-preserved
tree-preserved u c =
    let trees = c.args.pool.now.trees in
    let node = c.read_node-node.result in
    let t = tree_at trees c.tree.at in
    let a = tree_at trees node.first in
    let b = tree_at trees node.second in
    let e = ap (tree_at trees) c.in-Some.is ∙ c.read_node-node.ensures.tree in
    let f = sym c.in-None.ensures.guards in
    record {
      below = omega (arith, c.tree.invariant.below, above_some c.tree.at c.in-Some.k c.in-Some.is, above_child c.in-Some.k.0 node.second c.read_node-node.ensures.second);
      live = child_live (length trees) c.tree.at c.in-Some.k node.second c.in-Some.is c.tree.invariant.live c.read_node-node.ensures.second;
      rest = sym (in_second c.args.x t node.head a b e f (sym c.is_listed.ensures ∙ c.if-is_listed.false)) ∙ c.tree.invariant.rest;
    }

pub returns : goal.returns
returns u c = sym (lists_nothing c.args.x (tree_at c.args.pool.now.trees c.tree.at) (empty_at c.args.pool.now.trees c.tree.at c.in_default.is)) ∙ c.tree.invariant.rest
