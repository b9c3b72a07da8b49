use Rattle.std.proofs.Common.{ap, ◌∙◌}
use Rattle.cv_syntax.specs.PoolTrees.{tree_at}
use Rattle.cv_syntax.proofs.Trees.{child_live, empty_at, node_at}
use Rattle.cv_rule_array_names.proofs.NewNames.{names_end, names_link}
use Rattle.cv_rule_array_names.proofs.names.names_in.Goals as goal

pub items-preserved : goal.items-preserved
items-preserved c =
    let trees = c.args.pool.now.trees in
    let link = c.read_node-link.result in
    record {
      live = child_live _ c.items.at c.in-Some.n link.second c.in-Some.is c.items.invariant.live c.read_node-link.ensures.second;
      listed = names_link c.items.names.items c.add_name.new.names.items _ (tree_at trees c.items.at) link.head (tree_at trees link.first) (tree_at trees link.second) (node_at trees c.items.at c.in-Some.n link c.in-Some.is c.read_node-link.ensures.tree) c.in_ok-add_name.ensures c.items.invariant.listed;
    }

pub returns : goal.returns
returns c = names_end c.items.names.items _ (tree_at c.args.pool.now.trees c.items.at) (empty_at c.args.pool.now.trees c.items.at c.in_default.is) c.items.invariant.listed
