use Rattle.std.proofs.Common.{Some, length, ◌∙◌}
use Rattle.cv_syntax.specs.PoolTrees.{tree_at}
use Rattle.cv_syntax.proofs.Trees.{child_above, child_live, empty_at, node_at}
use Rattle.cv_query_certificates.specs.Secrets.{has_definition}
use Rattle.cv_query_offences.proofs.Copied.{no_sources, sources_more}
use Rattle.cv_query_offences.proofs.sources.+add_sources.Goals as goal

pub tree-preserved : goal.tree-preserved
tree-preserved t c =
    let trees = c.args.pool.now.trees in
    let node = c.read_node-node.result in
    record {
      live = child_live (length trees) c.tree.at c.in-Some.k node.second c.in-Some.is c.tree.invariant.live c.read_node-node.ensures.second;
      less = child_above _ c.tree.at c.in-Some.k node.second c.in-Some.is c.tree.invariant.less c.read_node-node.ensures.second;
      same = sources_more (has_definition (tree_at trees (Some c.args.game))) c.args.x (tree_at trees c.tree.at) node.head (tree_at trees node.first) (tree_at trees node.second) c.tree.found.items c.add_source.new.found.items c.add_sources.new.found.items (node_at trees c.tree.at c.in-Some.k node c.in-Some.is c.read_node-node.ensures.tree) c.in_ok-add_source.ensures c.in_ok-add_sources.ensures ∙ c.tree.invariant.same;
    }

pub returns : goal.returns
returns t c = no_sources (has_definition (tree_at c.args.pool.now.trees (Some c.args.game))) c.args.x (tree_at c.args.pool.now.trees c.tree.at) c.tree.found.items (empty_at c.args.pool.now.trees c.tree.at c.in_default.is) ∙ c.tree.invariant.same
