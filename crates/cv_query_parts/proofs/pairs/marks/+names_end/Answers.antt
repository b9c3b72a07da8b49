use Rattle.std.proofs.Common.{rules, arith, ◌≡◌, length, max}
use Rattle.cv_syntax.specs.PoolTrees.{tree_at}
use Rattle.cv_syntax.proofs.Trees.{child_above, child_live, empty_at, node_at}
use Rattle.cv_query_parts.proofs.pairs.Marking.{names_node, names_none}
use Rattle.cv_query_parts.proofs.pairs.marks.+names_end.Goals as goal

pub chain-preserved : goal.chain-preserved
chain-preserved t c =
    let trees = c.args.pool.now.trees in
    let node = c.read_node-node.result in
    let m : c.max.result ≡ max c.chain.end c.head_end.result = search rules in
    let n : c.max-end.result ≡ max c.max.result c.names_end.result = search rules in
    let e = names_node (tree_at trees c.chain.at) node.head (tree_at trees node.first) (tree_at trees node.second) (node_at trees c.chain.at c.in-Some.n node c.in-Some.is c.read_node-node.ensures.tree) in
    record {
      live = child_live (length trees) c.chain.at c.in-Some.n node.second c.in-Some.is c.chain.invariant.live c.read_node-node.ensures.second;
      less = child_above _ c.chain.at c.in-Some.n node.second c.in-Some.is c.chain.invariant.less c.read_node-node.ensures.second;
      same = omega (arith, m, n, e, c.head_end.ensures, c.names_end.ensures, c.chain.invariant.same);
    }

pub returns : goal.returns
returns t c = omega (arith, names_none (tree_at c.args.pool.now.trees c.chain.at) (empty_at c.args.pool.now.trees c.chain.at c.in_default.is), c.chain.invariant.same)
