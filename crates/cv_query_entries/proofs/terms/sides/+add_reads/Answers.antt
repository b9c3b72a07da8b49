use Rattle.std.proofs.Common.{rules, ◌∙◌}
use Rattle.cv_syntax.specs.PoolTrees.{tree_at}
use Rattle.cv_syntax.proofs.Trees.{empty_at, node_at}
use Rattle.cv_query_entries.proofs.terms.Reading.{reads_end, reads_more}
use Rattle.cv_query_entries.proofs.terms.sides.+add_reads.Goals as goal

pub chain-preserved : goal.chain-preserved
chain-preserved t c =
    let trees = c.args.pool.now.trees in
    let node = c.read_node-node.result in
    record {
      live = search rules;
      smaller = search rules;
      same = λ y. reads_more (tree_at trees c.chain.at) node.head (tree_at trees node.first) (tree_at trees node.second) c.chain.names c.add_read.new.names c.add_reads.new.names (node_at trees c.chain.at c.in-Some.n node c.in-Some.is c.read_node-node.ensures.tree) c.in_ok-add_read.ensures c.in_ok-add_reads.ensures y ∙ c.chain.invariant.same y;
    }

pub returns : goal.returns
returns t c = λ y. reads_end (tree_at c.args.pool.now.trees c.chain.at) c.chain.names (empty_at c.args.pool.now.trees c.chain.at c.in_default.is) y ∙ c.chain.invariant.same y
