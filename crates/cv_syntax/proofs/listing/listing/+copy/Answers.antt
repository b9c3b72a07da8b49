use Rattle.std.proofs.Common.{arith, ap, length, ◌∙◌}
use Rattle.cv_syntax.specs.PoolTrees.{tree_at}
use Rattle.cv_syntax.proofs.Trees.{child_live, empty_at}
use Rattle.cv_syntax.proofs.Walking.{above_child, above_some}
use Rattle.cv_syntax.proofs.listing.Lists.{listed_end, listed_on, on_ok}
use Rattle.cv_syntax.proofs.listing.listing.+copy.Goals as goal

pub chain-preserved : goal.chain-preserved
chain-preserved t c =
    let trees = c.args.pool.now.trees in
    let node = c.read_node-node.result in
    let e = ap (tree_at trees) c.in-Some.is ∙ c.read_node-node.ensures.tree in
    record {
      below = omega (arith, c.chain.invariant.below, above_some c.chain.at c.in-Some.k c.in-Some.is, above_child c.in-Some.k.0 node.second c.read_node-node.ensures.second);
      live = child_live (length trees) c.chain.at c.in-Some.k node.second c.in-Some.is c.chain.invariant.live c.read_node-node.ensures.second;
      listed = listed_on c.chain.makes.items c.copy.new.makes.items _ c.chain.heads.items (tree_at trees c.chain.at) c.push.new.self.items node.head (tree_at trees node.first) (tree_at trees node.second) e c.chain.invariant.listed c.in_ok-copy.ensures c.in_ok-push.ensures.items;
    }

pub returns : goal.returns
returns t c =
    on_ok c.close.result
    (λ f. listed_end c.chain.makes.items c.push-2.new.self.items _ c.chain.heads.items (tree_at c.args.pool.now.trees c.chain.at) c.close.new.makes.items (empty_at c.args.pool.now.trees c.chain.at c.in_default.is) c.chain.invariant.listed c.in_ok-push-2.ensures.items f)
    c.close.ensures
