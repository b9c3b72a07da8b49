use Rattle.std.proofs.Common.{◌≡◌, ◌+◌, ◌≤◌, rules, arith, ap, sym, ◌∙◌}
use Rattle.cv_syntax_trees.specs.Head.{weight}
use Rattle.cv_syntax_trees.specs.Tree.{size}
use Rattle.cv_syntax.specs.PoolTrees.{tree_at}
use Rattle.cv_syntax.specs.Walks.{above}
use Rattle.cv_syntax.proofs.Trees.{empty_at, size_Empty}
use Rattle.cv_syntax.proofs.Walking.{above_some, size_node}
use Rattle.cv_path.proofs.Going.{above_below}
use Rattle.cv_derive_facts.specs.Definitions.{counted_on, places_of}
use Rattle.cv_derive_facts.proofs.Sitings.{counted_empty, places_go}
use Rattle.cv_derive_facts.proofs.sites.+count.Goals as goal

pub overflow_add-here : goal.overflow_add-here
overflow_add-here t c =
    let trees = c.args.pool.now.trees in
    let node = c.read_node-node.result in
    omega (arith, size_node (tree_at trees c.chain.at) node.head (tree_at trees node.first) (tree_at trees node.second) (ap (tree_at trees) c.in-Some.is ∙ c.read_node-node.ensures.tree))

pub count-here-requires : goal.count-here-requires
count-here-requires t c =
    let trees = c.args.pool.now.trees in
    let node = c.read_node-node.result in
    let k : above c.chain.at ≡ c.in-Some.n.0 + 1 = above_some c.chain.at c.in-Some.n c.in-Some.is in
    let b : above node.first ≤ c.in-Some.n.0 = above_below node.first c.in-Some.n.0 c.read_node-node.ensures.first in
    (search rules, (search rules, omega (arith, size_node (tree_at trees c.chain.at) node.head (tree_at trees node.first) (tree_at trees node.second) (ap (tree_at trees) c.in-Some.is ∙ c.read_node-node.ensures.tree))))

pub chain-preserved : goal.chain-preserved
chain-preserved t c =
    let trees = c.args.pool.now.trees in
    let node = c.read_node-node.result in
    let here = ap (tree_at trees) c.in-Some.is ∙ c.read_node-node.ensures.tree in
    let s = size_node (tree_at trees c.chain.at) node.head (tree_at trees node.first) (tree_at trees node.second) here in
    let w : c.weight.result ≡ weight node.head = c.weight.ensures.weight in
    let p : c.count-here.result ≡ c.chain.here + weight node.head + size (tree_at trees node.first) = omega (arith, c.count-here.ensures.place, w) in
    record {
      live = search rules;
      smaller = let k = above_some c.chain.at c.in-Some.n c.in-Some.is in let b = above_below node.second c.in-Some.n.0 c.read_node-node.ensures.second in omega (arith, k, b, c.chain.invariant.smaller);
      place = omega (arith, p, s, c.chain.invariant.place);
      seen = places_go c.args.x c.chain.here c.count-here.result (tree_at trees c.chain.at) node.head (tree_at trees node.first) (tree_at trees node.second) c.is_definition.result c.chain.seen c.seen_then.result c.count-here.new.seen _ here c.is_definition.ensures c.seen_then.ensures (c.count-here.ensures.seen ∙ ap (λ n. counted_on c.seen_then.result (places_of c.args.x (c.chain.here + n) (tree_at trees node.first))) w) p c.chain.invariant.seen;
    }

pub returns-clause-place : goal.returns-clause-place
returns-clause-place t c = omega (arith, c.chain.invariant.place, size_Empty (tree_at c.args.pool.now.trees c.chain.at) (empty_at c.args.pool.now.trees c.chain.at c.in_default.is))

pub returns-clause-seen : goal.returns-clause-seen
returns-clause-seen t c = sym (counted_empty c.chain.seen c.args.x c.chain.here (tree_at c.args.pool.now.trees c.chain.at) (empty_at c.args.pool.now.trees c.chain.at c.in_default.is)) ∙ c.chain.invariant.seen
