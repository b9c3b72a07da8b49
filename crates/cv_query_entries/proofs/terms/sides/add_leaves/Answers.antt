use Rattle.std.proofs.Common.{length, ◌∙◌}
use Rattle.cv_syntax.specs.PoolTrees.{tree_at}
use Rattle.cv_syntax.proofs.Trees.{child_live, empty_at, node_at}
use Rattle.cv_query_entries.proofs.terms.Reading.{leaf_more, no_leaf}
use Rattle.cv_query_entries.proofs.terms.sides.add_leaves.Goals as goal

pub items-preserved : goal.items-preserved
items-preserved c =
    let trees = c.args.pool.now.trees in
    let node = c.read_node-cell.result in
    record {
      live = child_live (length trees) c.items.at c.in-Some.n node.second c.in-Some.is c.items.invariant.live c.read_node-cell.ensures.second;
      same = λ y. leaf_more (tree_at trees c.items.at) node.head (tree_at trees node.first) (tree_at trees node.second) c.items.names c.insert.new.self c.leaf_name.result (node_at trees c.items.at c.in-Some.n node c.in-Some.is c.read_node-cell.ensures.tree) c.leaf_name.ensures c.in_ok-insert.ensures.updates y ∙ c.items.invariant.same y;
    }

pub returns : goal.returns
returns c = λ y. no_leaf (tree_at c.args.pool.now.trees c.items.at) c.items.names (empty_at c.args.pool.now.trees c.items.at c.in_default.is) y ∙ c.items.invariant.same y
