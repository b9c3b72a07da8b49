use Rattle.std.proofs.Common.{length, ◌∙◌}
use Rattle.std.proofs.lemmas.Result.{on_ok_weaker}
use Rattle.cv_syntax.specs.PoolTrees.{tree_at}
use Rattle.cv_syntax.proofs.Trees.{child_above, child_live, empty_at, node_at}
use Rattle.cv_query_parts.proofs.pairs.Making.{second_ends, second_goes, second_here}
use Rattle.cv_query_parts.proofs.pairs.lists.+push_second.Goals as goal

pub returns-in-Some-2 : goal.returns-in-Some-2
returns-in-Some-2 t c =
    let trees = c.args.pool.now.trees in
    let node = c.read_node-node.result in
    let names = c.args.names.now in
    on_ok_weaker c.close.result
    (λ e. e ∙ second_here names.raise names.rows.now (tree_at trees c.chain.at) node.head (tree_at trees node.first) (tree_at trees node.second) c.in_ok-x.field-0 (node_at trees c.chain.at c.in-Some.n node c.in-Some.is c.read_node-node.ensures.tree) c.in_ok-x.ensures c.in-Some-2.x c.chain.makes.items c.push_leaf.new.makes.items _ c.chain.heads.items c.in-Some-2.is c.in_ok-push_leaf.ensures c.chain.invariant.made)
    c.close.ensures

pub chain-preserved : goal.chain-preserved
chain-preserved t c =
    let trees = c.args.pool.now.trees in
    let node = c.read_node-node.result in
    let names = c.args.names.now in
    record {
      live = child_live (length trees) c.chain.at c.in-Some.n node.second c.in-Some.is c.chain.invariant.live c.read_node-node.ensures.second;
      smaller = child_above _ c.chain.at c.in-Some.n node.second c.in-Some.is c.chain.invariant.smaller c.read_node-node.ensures.second;
      made = second_goes names.raise names.rows.now (tree_at trees c.chain.at) node.head (tree_at trees node.first) (tree_at trees node.second) c.in_ok-x.field-0 (node_at trees c.chain.at c.in-Some.n node c.in-Some.is c.read_node-node.ensures.tree) c.in_ok-x.ensures c.chain.makes.items c.push_second.new.makes.items _ c.chain.heads.items c.push.new.self.items c.in_default-2.is c.chain.invariant.made c.in_ok-push_second.ensures c.in_ok-push.ensures.items;
    }

pub returns : goal.returns
returns t c =
    let trees = c.args.pool.now.trees in
    let names = c.args.names.now in
    on_ok_weaker c.close-2.result (λ e. e ∙ second_ends names.raise names.rows.now (tree_at trees c.chain.at) c.chain.makes.items c.push-2.new.self.items _ c.chain.heads.items (empty_at trees c.chain.at c.in_default.is) c.chain.invariant.made c.in_ok-push-2.ensures.items) c.close-2.ensures
