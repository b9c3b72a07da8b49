use Rattle.std.proofs.Common.{length}
use Rattle.cv_syntax.proofs.Trees.{child_live}
use Rattle.cv_syntax.proofs.Walking.{below_some}
use Rattle.cv_edit_changes.proofs.renaming.Chains.{chain_onto}
use Rattle.cv_edit_changes.proofs.renaming.chain.chain.Goals as goal

pub chain-preserved : goal.chain-preserved
chain-preserved c =
    let trees = c.args.pool.now.trees in
    let node = c.read_node-node.result in
    record {
      live = child_live (length trees) c.chain.at c.in-Some.id node.second c.in-Some.is c.chain.invariant.live c.read_node-node.ensures.second;
      chain = chain_onto trees c.args.start c.chain.at c.chain.links.items c.push.new.self.items (record { id = c.in-Some.id; node = node }) c.chain.invariant.chain c.in-Some.is
          (record { live = below_some (length trees) c.chain.at c.in-Some.id c.in-Some.is c.chain.invariant.live; tree = c.read_node-node.ensures.tree; first = c.read_node-node.ensures.first; second = c.read_node-node.ensures.second })
          c.in_ok-push.ensures.items;
    }
