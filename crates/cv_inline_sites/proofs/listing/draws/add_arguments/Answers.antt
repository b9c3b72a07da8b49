use Rattle.std.proofs.Common.{List, ◌++◌, length, map}
use Rattle.cv_syntax.specs.PoolTrees.{tree_at}
use Rattle.cv_syntax.proofs.Trees.{child_live, node_at}
use Rattle.cv_meaning.specs.Correspondences.{typed_names}
use Rattle.cv_inline.specs.Draws.{Draw, argument_draws}
use Rattle.cv_inline_sites.specs.listing.Listed.{draw_in}
use Rattle.cv_inline_sites.proofs.listing.Arguments.{argument_more, arguments_end, arguments_none}
use Rattle.cv_inline_sites.proofs.listing.draws.add_arguments.Goals as goal

pub returns-in_default-head : goal.returns-in_default-head
returns-in_default-head c =
    let trees = c.args.pool.now.trees in
    let node = c.read_node-node.result in
    let all : List Draw = map draw_in c.args.draws.now.items ++ argument_draws c.args.site (typed_names (tree_at trees c.args.binders)) in
    arguments_end c.args.site (map draw_in c.binders.draws.items) all (tree_at trees c.binders.at) node.head (tree_at trees node.first) (tree_at trees node.second) (node_at trees c.binders.at c.in-Some.n node c.in-Some.is c.read_node-node.ensures.tree) c.in_default-head.not-Binder c.binders.invariant.draws

pub binders-preserved : goal.binders-preserved
binders-preserved c =
    let trees = c.args.pool.now.trees in
    let node = c.read_node-node.result in
    let all : List Draw = map draw_in c.args.draws.now.items ++ argument_draws c.args.site (typed_names (tree_at trees c.args.binders)) in
    record {
      live = child_live (length trees) c.binders.at c.in-Some.n node.second c.in-Some.is c.binders.invariant.live c.read_node-node.ensures.second;
      draws = argument_more c.args.site (map draw_in c.binders.draws.items) (map draw_in c.add_variable.new.draws.items) all (tree_at trees c.binders.at) node.head (tree_at trees node.first) (tree_at trees node.second) c.in-Binder.x c.in-Binder.field-1 (node_at trees c.binders.at c.in-Some.n node c.in-Some.is c.read_node-node.ensures.tree) c.in-Binder.is c.in_ok-add_variable.ensures c.binders.invariant.draws;
    }

pub returns : goal.returns
returns c =
    let trees = c.args.pool.now.trees in
    let all : List Draw = map draw_in c.args.draws.now.items ++ argument_draws c.args.site (typed_names (tree_at trees c.args.binders)) in
    arguments_none c.args.site (map draw_in c.binders.draws.items) all trees c.binders.at c.in_default.is c.binders.invariant.draws
