use Rattle.std.proofs.Common.{rules, ◌≡◌, ◌+◌, ◌<◌, ap, arith, length, sym, ◌∙◌}
use Rattle.cv_syntax_trees.specs.Head.{weight}
use Rattle.cv_syntax_trees.specs.Tree.{size}
use Rattle.cv_syntax.specs.NameSets.{is_in}
use Rattle.cv_syntax.specs.PoolTrees.{tree_at}
use Rattle.cv_syntax.specs.Walks.{above}
use Rattle.cv_syntax.proofs.Trees.{child_above, child_live, empty_at, node_at}
use Rattle.cv_syntax.proofs.Walking.{above_child, above_some, size_at, size_end}
use Rattle.cv_rule_pick.specs.Picking.{first_listed}
use Rattle.cv_rule_pick.proofs.Listing.{link_found, link_rest, link_size, listed_end, plain_found, plain_rest}
use Rattle.cv_rule_pick.proofs.others.+listing.Goals as goal

pub overflow_add-here : goal.overflow_add-here
overflow_add-here t c =
    let s = size_at c.args.pool.now.trees c.tree.at c.in-Some.k c.read_node-node.result c.in-Some.is c.read_node-node.ensures.tree in
    omega (arith, s, c.tree.invariant.sum, c.requires.fits, c.weight.ensures.weight)

pub size_below-requires-clause-fits : goal.size_below-requires-clause-fits
size_below-requires-clause-fits t c =
    let s = size_at c.args.pool.now.trees c.tree.at c.in-Some.k c.read_node-node.result c.in-Some.is c.read_node-node.ensures.tree in
    omega (arith, s, c.tree.invariant.sum, c.requires.fits)

pub overflow_add-list : goal.overflow_add-list
overflow_add-list t c =
    let s = size_at c.args.pool.now.trees c.tree.at c.in-Some.k c.read_node-node.result c.in-Some.is c.read_node-node.ensures.tree in
    omega (arith, s, c.tree.invariant.sum, c.requires.fits, c.weight.ensures.weight, c.size_below.ensures)

pub overflow_add-list-in-Some-link_of : goal.overflow_add-list-in-Some-link_of
overflow_add-list-in-Some-link_of t c =
    let trees = c.args.pool.now.trees in
    let node = c.read_node-node.result in
    let link = c.in-Some-link_of.link in
    let s = size_at trees c.tree.at c.in-Some.k node c.in-Some.is c.read_node-node.ensures.tree in
    let l = link_size node.head (tree_at trees node.second) link.head (tree_at trees link.first) (tree_at trees link.second) c.in-Some-link_of.ensures.link in
    omega (arith, s, l, c.tree.invariant.sum, c.requires.fits, c.weight.ensures.weight, c.size_below.ensures, c.weight-in-Some-link_of.ensures.weight)

pub cell_among-requires-clause-live : goal.cell_among-requires-clause-live
cell_among-requires-clause-live t c =
    let trees = c.args.pool.now.trees in
    c.in-Some-link_of.ensures.first (length trees) (child_live (length trees) c.tree.at c.in-Some.k c.read_node-node.result.second c.in-Some.is c.tree.invariant.live c.read_node-node.ensures.second)

pub cell_among-requires-clause-fits : goal.cell_among-requires-clause-fits
cell_among-requires-clause-fits t c =
    let trees = c.args.pool.now.trees in
    let node = c.read_node-node.result in
    let link = c.in-Some-link_of.link in
    let s = size_at trees c.tree.at c.in-Some.k node c.in-Some.is c.read_node-node.ensures.tree in
    let l = link_size node.head (tree_at trees node.second) link.head (tree_at trees link.first) (tree_at trees link.second) c.in-Some-link_of.ensures.link in
    omega (arith, s, l, c.tree.invariant.sum, c.requires.fits, c.weight.ensures.weight, c.size_below.ensures, c.weight-in-Some-link_of.ensures.weight)

pub returns-in-Err-clause-found : goal.returns-in-Err-clause-found
returns-in-Err-clause-found t c =
    let trees = c.args.pool.now.trees in
    let xs = is_in c.args.names.now in
    let node = c.read_node-node.result in
    let link = c.in-Some-link_of.link in
    let e = node_at trees c.tree.at c.in-Some.k node c.in-Some.is c.read_node-node.ensures.tree in
    let q : c.tree.place + c.weight.result + c.size_below.result + c.weight-in-Some-link_of.result ≡ c.tree.place + weight node.head + size (tree_at trees node.first) + weight link.head = omega (arith, c.weight.ensures.weight, c.size_below.ensures, c.weight-in-Some-link_of.ensures.weight) in
    sym c.tree.invariant.same ∙ link_found xs c.tree.place (tree_at trees c.tree.at) node.head (tree_at trees node.first) (tree_at trees node.second) e link.head (tree_at trees link.first) (tree_at trees link.second) _ c.in-Err.found c.in-Some-link_of.ensures.link q c.in-Err.ensures.found

pub tree-smaller-in-Some-link_of : goal.tree-smaller-in-Some-link_of
tree-smaller-in-Some-link_of t c =
    let k = above_some c.tree.at c.in-Some.k c.in-Some.is in
    let b = above_child c.in-Some.k.0 c.in-Some-link_of.link.second (c.in-Some-link_of.ensures.second c.in-Some.k.0 c.read_node-node.ensures.second) in
    let less : above c.in-Some-link_of.link.second < above c.tree.at = omega (arith, k, b) in
    less

pub tree-preserved-in-Some-link_of : goal.tree-preserved-in-Some-link_of
tree-preserved-in-Some-link_of t c =
    let trees = c.args.pool.now.trees in
    let xs = is_in c.args.names.now in
    let node = c.read_node-node.result in
    let link = c.in-Some-link_of.link in
    let e = node_at trees c.tree.at c.in-Some.k node c.in-Some.is c.read_node-node.ensures.tree in
    let s = size_at trees c.tree.at c.in-Some.k node c.in-Some.is c.read_node-node.ensures.tree in
    let l = link_size node.head (tree_at trees node.second) link.head (tree_at trees link.first) (tree_at trees link.second) c.in-Some-link_of.ensures.link in
    let below = c.in-Some-link_of.ensures.second c.in-Some.k.0 c.read_node-node.ensures.second in
    let q : c.tree.place + c.weight.result + c.size_below.result + c.weight-in-Some-link_of.result ≡ c.tree.place + weight node.head + size (tree_at trees node.first) + weight link.head = omega (arith, c.weight.ensures.weight, c.size_below.ensures, c.weight-in-Some-link_of.ensures.weight) in
    let r : c.in-Ok.next ≡ c.tree.place + weight node.head + size (tree_at trees node.first) + weight link.head + size (tree_at trees link.first) = omega (arith, c.in-Ok.ensures.next, c.weight.ensures.weight, c.size_below.ensures, c.weight-in-Some-link_of.ensures.weight) in
    record {
      live = child_live (length trees) c.tree.at c.in-Some.k link.second c.in-Some.is c.tree.invariant.live below;
      less = child_above _ c.tree.at c.in-Some.k link.second c.in-Some.is c.tree.invariant.less below;
      sum = omega (arith, s, l, r, c.tree.invariant.sum);
      same = ap (λ n. first_listed xs n (tree_at trees link.second)) r ∙ (link_rest xs c.tree.place (tree_at trees c.tree.at) node.head (tree_at trees node.first) (tree_at trees node.second) e link.head (tree_at trees link.first) (tree_at trees link.second) _ c.in-Some-link_of.ensures.link q c.in-Ok.ensures.none ∙ c.tree.invariant.same);
    }

pub listing-requires : goal.listing-requires
listing-requires t c =
    let trees = c.args.pool.now.trees in
    let s = size_at trees c.tree.at c.in-Some.k c.read_node-node.result c.in-Some.is c.read_node-node.ensures.tree in
    let k = above_some c.tree.at c.in-Some.k c.in-Some.is in
    let b = above_child c.in-Some.k.0 c.read_node-node.result.first c.read_node-node.ensures.first in
    let less : above c.read_node-node.result.first < above c.args.tree = omega (arith, k, b, c.tree.invariant.less) in
    (search rules, (child_live (length trees) c.tree.at c.in-Some.k c.read_node-node.result.first c.in-Some.is c.tree.invariant.live c.read_node-node.ensures.first, omega (arith, s, c.tree.invariant.sum, c.requires.fits, c.weight.ensures.weight)))

pub returns-in-Err-listing-clause-found : goal.returns-in-Err-listing-clause-found
returns-in-Err-listing-clause-found t c =
    let trees = c.args.pool.now.trees in
    let xs = is_in c.args.names.now in
    let node = c.read_node-node.result in
    let e = node_at trees c.tree.at c.in-Some.k node c.in-Some.is c.read_node-node.ensures.tree in
    sym c.tree.invariant.same ∙ plain_found xs c.tree.place (tree_at trees c.tree.at) node.head (tree_at trees node.first) (tree_at trees node.second) e _ c.in-Err-listing.found c.in_default-link_of.ensures.link (ap (λ n. c.tree.place + n) c.weight.ensures.weight) c.in-Err-listing.ensures.found

pub tree-preserved : goal.tree-preserved
tree-preserved t c =
    let trees = c.args.pool.now.trees in
    let xs = is_in c.args.names.now in
    let node = c.read_node-node.result in
    let e = node_at trees c.tree.at c.in-Some.k node c.in-Some.is c.read_node-node.ensures.tree in
    let s = size_at trees c.tree.at c.in-Some.k node c.in-Some.is c.read_node-node.ensures.tree in
    let r : c.in-Ok-listing.next ≡ c.tree.place + weight node.head + size (tree_at trees node.first) = omega (arith, c.in-Ok-listing.ensures.next, c.weight.ensures.weight) in
    record {
      live = child_live (length trees) c.tree.at c.in-Some.k node.second c.in-Some.is c.tree.invariant.live c.read_node-node.ensures.second;
      less = child_above _ c.tree.at c.in-Some.k node.second c.in-Some.is c.tree.invariant.less c.read_node-node.ensures.second;
      sum = omega (arith, s, r, c.tree.invariant.sum);
      same = ap (λ n. first_listed xs n (tree_at trees node.second)) r ∙ (plain_rest xs c.tree.place (tree_at trees c.tree.at) node.head (tree_at trees node.first) (tree_at trees node.second) e _ c.in_default-link_of.ensures.link (ap (λ n. c.tree.place + n) c.weight.ensures.weight) c.in-Ok-listing.ensures.none ∙ c.tree.invariant.same);
    }

pub returns-clause-none : goal.returns-clause-none
returns-clause-none t c = sym c.tree.invariant.same ∙ listed_end (is_in c.args.names.now) c.tree.place (tree_at c.args.pool.now.trees c.tree.at) (empty_at c.args.pool.now.trees c.tree.at c.in_default.is)

pub returns-clause-next : goal.returns-clause-next
returns-clause-next t c = omega (arith, c.tree.invariant.sum, size_end c.args.pool.now.trees c.tree.at c.in_default.is)
