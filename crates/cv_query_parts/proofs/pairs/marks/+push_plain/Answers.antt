use Rattle.std.proofs.Common.{length, ◌∙◌}
use Rattle.std.proofs.lemmas.Result.{on_ok_weaker}
use Rattle.cv_syntax.specs.PoolTrees.{tree_at}
use Rattle.cv_syntax.proofs.Trees.{child_above, child_live, empty_at, node_at}
use Rattle.cv_query_parts.proofs.pairs.Marking.{plain_ends, plain_goes}
use Rattle.cv_query_parts.proofs.pairs.marks.+push_plain.Goals as goal

pub chain-preserved : goal.chain-preserved
chain-preserved t c =
    let trees = c.args.pool.now.trees in
    let node = c.read_node-node.result in
    record {
      live = child_live (length trees) c.chain.at c.in-Some.n node.second c.in-Some.is c.chain.invariant.live c.read_node-node.ensures.second;
      smaller = child_above _ c.chain.at c.in-Some.n node.second c.in-Some.is c.chain.invariant.smaller c.read_node-node.ensures.second;
      made = plain_goes c.args.k (tree_at trees c.chain.at) node.head c.in_ok-plain_head.field-0 (tree_at trees node.first) (tree_at trees node.second) c.chain.makes.items c.push_plain.new.makes.items _ c.chain.heads.items c.push.new.self.items (node_at trees c.chain.at c.in-Some.n node c.in-Some.is c.read_node-node.ensures.tree) c.in_ok-plain_head.ensures c.chain.invariant.made c.in_ok-push_plain.ensures c.in_ok-push.ensures.items;
    }

pub returns : goal.returns
returns t c =
    let trees = c.args.pool.now.trees in
    on_ok_weaker c.close.result (λ e. e ∙ plain_ends c.args.k (tree_at trees c.chain.at) c.chain.makes.items c.push-2.new.self.items _ c.chain.heads.items (empty_at trees c.chain.at c.in_default.is) c.chain.invariant.made c.in_ok-push-2.ensures.items) c.close.ensures
