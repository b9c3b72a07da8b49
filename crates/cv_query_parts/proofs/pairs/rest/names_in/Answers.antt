use Rattle.std.proofs.Common.{length}
use Rattle.cv_syntax.specs.PoolTrees.{tree_at}
use Rattle.cv_syntax.proofs.Trees.{child_live, empty_at, node_at}
use Rattle.cv_query_parts.proofs.pairs.Leaving.{name_more, names_end, no_name}
use Rattle.cv_query_parts.proofs.pairs.rest.names_in.Goals as goal

pub names-preserved : goal.names-preserved
names-preserved c =
    let trees = c.args.pool.now.trees in
    let cell = c.read_node-cell.result in
    record {
      live = child_live (length trees) c.names.at c.in-Some.n cell.second c.in-Some.is c.names.invariant.live c.read_node-cell.ensures.second;
      same = name_more (tree_at trees c.names.at) cell.head (tree_at trees cell.first) (tree_at trees cell.second) c.name_of.result c.in-Some-name_of.x c.names.found.items c.push.new.self.items _ (node_at trees c.names.at c.in-Some.n cell c.in-Some.is c.read_node-cell.ensures.tree) c.name_of.ensures c.in-Some-name_of.is c.in_ok-push.ensures.items c.names.invariant.same;
    }

pub returns-in_default-name_of : goal.returns-in_default-name_of
returns-in_default-name_of c =
    let trees = c.args.pool.now.trees in
    let cell = c.read_node-cell.result in
    no_name (tree_at trees c.names.at) cell.head (tree_at trees cell.first) (tree_at trees cell.second) c.name_of.result c.names.found.items _ (node_at trees c.names.at c.in-Some.n cell c.in-Some.is c.read_node-cell.ensures.tree) c.name_of.ensures c.in_default-name_of.is c.names.invariant.same

pub returns : goal.returns
returns c = names_end (tree_at c.args.pool.now.trees c.names.at) c.names.found.items _ (empty_at c.args.pool.now.trees c.names.at c.in_default.is) c.names.invariant.same
