use Rattle.std.proofs.Common.{◌++◌, append-nil, ap, sym, ◌∙◌}
use Rattle.cv_syntax.specs.PoolTrees.{tree_at}
use Rattle.cv_syntax.proofs.Trees.{child_live, empty_at, node_at}
use Rattle.cv_kernel.proofs.Listed.{long_item, numbers_end, numbers_link}
use Rattle.cv_kernel.proofs.places.places_in.Goals as goal

pub returns-then-v-gt4294967295-clause-none : goal.returns-then-v-gt4294967295-clause-none
returns-then-v-gt4294967295-clause-none c =
    let trees = c.args.pool.now.trees in
    let link = c.read_node-link.result in
    long_item c.items.places.items _ (tree_at trees c.items.at) link.head (tree_at trees link.first) (tree_at trees link.second) c.in-Some-number_of.v
    (node_at trees c.items.at c.in-Some.n link c.in-Some.is c.read_node-link.ensures.tree) c.in-Some-number_of.ensures.some c.if-v-gt4294967295.true c.items.invariant.listed

pub items-preserved-in_ok-push : goal.items-preserved-in_ok-push
items-preserved-in_ok-push c =
    let trees = c.args.pool.now.trees in
    let link = c.read_node-link.result in
    record {
      live = child_live _ c.items.at c.in-Some.n link.second c.in-Some.is c.items.invariant.live c.read_node-link.ensures.second;
      listed = numbers_link c.items.places.items c.push.new.self.items _ (tree_at trees c.items.at) link.head (tree_at trees link.first) (tree_at trees link.second)
          (node_at trees c.items.at c.in-Some.n link c.in-Some.is c.read_node-link.ensures.tree) (c.in_ok-push.ensures.items ∙ ap (λ q. c.items.places.items ++ q) (sym c.in-Some-number_of.ensures.some)) c.items.invariant.listed;
    }

pub items-preserved : goal.items-preserved
items-preserved c =
    let trees = c.args.pool.now.trees in
    let link = c.read_node-link.result in
    record {
      live = child_live _ c.items.at c.in-Some.n link.second c.in-Some.is c.items.invariant.live c.read_node-link.ensures.second;
      listed = numbers_link c.items.places.items c.items.places.items _ (tree_at trees c.items.at) link.head (tree_at trees link.first) (tree_at trees link.second)
          (node_at trees c.items.at c.in-Some.n link c.in-Some.is c.read_node-link.ensures.tree) (sym (ap (λ q. c.items.places.items ++ q) c.in_default-number_of.ensures.none ∙ append-nil c.items.places.items)) c.items.invariant.listed;
    }

pub returns-clause-some : goal.returns-clause-some
returns-clause-some c = numbers_end c.items.places.items _ (tree_at c.args.pool.now.trees c.items.at) (empty_at c.args.pool.now.trees c.items.at c.in_default.is) c.items.invariant.listed
