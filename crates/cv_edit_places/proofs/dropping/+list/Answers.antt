use Rattle.std.proofs.Common.{arith, ap, sym, length, ◌∙◌}
use Rattle.cv_syntax.specs.PoolTrees.{tree_at}
use Rattle.cv_syntax.proofs.Trees.{child_live, empty_at}
use Rattle.cv_syntax.proofs.Walking.{above_child, above_some}
use Rattle.cv_syntax.proofs.listing.Lists.{on_ok}
use Rattle.cv_edit_places.proofs.Lists.{listed_ends, listed_gone, listed_stays}
use Rattle.cv_edit_places.proofs.dropping.+list.Goals as goal

pub chain-preserved-in_ok-push : goal.chain-preserved-in_ok-push
chain-preserved-in_ok-push t c =
    let trees = c.args.pool.now.trees in
    let node = c.read_node-node.result in
    let e = ap (tree_at trees) c.in-Some.is ∙ c.read_node-node.ensures.tree in
    record {
      below = omega (arith, c.chain.invariant.below, above_some c.chain.at c.in-Some.k c.in-Some.is, above_child c.in-Some.k.0 node.second c.read_node-node.ensures.second);
      live = child_live (length trees) c.chain.at c.in-Some.k node.second c.in-Some.is c.chain.invariant.live c.read_node-node.ensures.second;
      listed = listed_stays c.args.x (tree_at trees c.chain.at) node.head (tree_at trees node.first) (tree_at trees node.second) e c.chain.makes.items c.list.new.makes.items _ c.chain.heads.items c.push.new.self.items (sym c.defines.ensures ∙ c.if-not-defines.true) c.chain.invariant.listed c.in_ok-list.ensures c.in_ok-push.ensures.items;
    }

pub chain-preserved : goal.chain-preserved
chain-preserved t c =
    let trees = c.args.pool.now.trees in
    let node = c.read_node-node.result in
    let e = ap (tree_at trees) c.in-Some.is ∙ c.read_node-node.ensures.tree in
    record {
      below = omega (arith, c.chain.invariant.below, above_some c.chain.at c.in-Some.k c.in-Some.is, above_child c.in-Some.k.0 node.second c.read_node-node.ensures.second);
      live = child_live (length trees) c.chain.at c.in-Some.k node.second c.in-Some.is c.chain.invariant.live c.read_node-node.ensures.second;
      listed = listed_gone c.args.x (tree_at trees c.chain.at) node.head (tree_at trees node.first) (tree_at trees node.second) e c.chain.makes.items _ c.chain.heads.items (sym c.defines.ensures ∙ c.if-not-defines.false) c.chain.invariant.listed;
    }

pub returns : goal.returns
returns t c =
    on_ok c.close.result
    (λ f. listed_ends c.args.x (tree_at c.args.pool.now.trees c.chain.at) c.chain.makes.items c.push-2.new.self.items c.close.new.makes.items _ c.chain.heads.items (empty_at c.args.pool.now.trees c.chain.at c.in_default.is) c.chain.invariant.listed c.in_ok-push-2.ensures.items f)
    c.close.ensures
