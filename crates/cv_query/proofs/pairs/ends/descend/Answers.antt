use Rattle.std.proofs.Common.{rules, ◌≡◌, ◌+◌, ◌<◌, ◌≤◌, ap, ap₂, arith}
use Rattle.cv_syntax_trees.specs.Tree.{second_place}
use Rattle.cv_syntax.specs.PoolTrees.{tree_at}
use Rattle.cv_syntax.proofs.Walking.{size_node}
use Rattle.cv_query.proofs.pairs.Ending.{behind_both, in_both, in_first}
use Rattle.cv_query.proofs.pairs.ends.descend.Goals as goal

pub overflow_add-below : goal.overflow_add-below
overflow_add-below c =
    let trees = c.args.pool.now.trees in
    let node = c.args.node in
    omega (arith, size_node (tree_at trees c.args.from.at) node.head (tree_at trees node.first) (tree_at trees node.second) c.requires.tree, c.requires.fits, c.weight.ensures.weight)

pub size_below-requires-clause-fits : goal.size_below-requires-clause-fits
size_below-requires-clause-fits c =
    let trees = c.args.pool.now.trees in
    let node = c.args.node in
    omega (arith, size_node (tree_at trees c.args.from.at) node.head (tree_at trees node.first) (tree_at trees node.second) c.requires.tree, c.requires.fits)

pub overflow_add-behind : goal.overflow_add-behind
overflow_add-behind c =
    let trees = c.args.pool.now.trees in
    let node = c.args.node in
    omega (arith, size_node (tree_at trees c.args.from.at) node.head (tree_at trees node.first) (tree_at trees node.second) c.requires.tree, c.requires.fits, c.weight.ensures.weight, c.size_below.ensures)

pub returns-then-q-from-clause-next : goal.returns-then-q-from-clause-next
returns-then-q-from-clause-next c =
    let trees = c.args.pool.now.trees in
    let node = c.args.node in
    let from = c.args.from in
    let behind : from.place + c.weight.result + c.size_below.result ≡ second_place from.place node.head (tree_at trees node.first)
    = ap₂ (λ m n. from.place + m + n) c.weight.ensures.weight c.size_below.ensures in
    let less : c.args.q < from.place + c.weight.result + c.size_below.result = search rules in
    in_first from.construct from.place (tree_at trees from.at) node.head (tree_at trees node.first) (tree_at trees node.second) c.args.p c.args.q c.requires.tree (from.place + c.weight.result + c.size_below.result) behind c.of_first.result (from.place + c.weight.result) c.of_first.ensures (ap (λ m. from.place + m) c.weight.ensures.weight) less

pub returns-then-q-from-clause-fits : goal.returns-then-q-from-clause-fits
returns-then-q-from-clause-fits c =
    let trees = c.args.pool.now.trees in
    let node = c.args.node in
    omega (arith, size_node (tree_at trees c.args.from.at) node.head (tree_at trees node.first) (tree_at trees node.second) c.requires.tree, c.weight.ensures.weight)

pub returns-then-p-from-clause-found : goal.returns-then-p-from-clause-found
returns-then-p-from-clause-found c =
    let trees = c.args.pool.now.trees in
    let node = c.args.node in
    let from = c.args.from in
    let behind : from.place + c.weight.result + c.size_below.result ≡ second_place from.place node.head (tree_at trees node.first)
    = ap₂ (λ m n. from.place + m + n) c.weight.ensures.weight c.size_below.ensures in
    let less : from.place + c.weight.result + c.size_below.result ≤ c.args.q = search rules in
    let lesser : c.args.p < from.place + c.weight.result + c.size_below.result = search rules in
    in_both from.construct from.place (tree_at trees from.at) node.head (tree_at trees node.first) (tree_at trees node.second) c.args.p c.args.q c.requires.tree (from.place + c.weight.result + c.size_below.result) behind less c.between.result c.between.ensures lesser

pub returns-clause-next : goal.returns-clause-next
returns-clause-next c =
    let trees = c.args.pool.now.trees in
    let node = c.args.node in
    let from = c.args.from in
    let behind : from.place + c.weight.result + c.size_below.result ≡ second_place from.place node.head (tree_at trees node.first)
    = ap₂ (λ m n. from.place + m + n) c.weight.ensures.weight c.size_below.ensures in
    let less : from.place + c.weight.result + c.size_below.result ≤ c.args.q = search rules in
    let lesser : from.place + c.weight.result + c.size_below.result ≤ c.args.p = search rules in
    behind_both from.construct from.place (tree_at trees from.at) node.head (tree_at trees node.first) (tree_at trees node.second) c.args.p c.args.q c.requires.tree (from.place + c.weight.result + c.size_below.result) behind less c.of_second_child.result c.of_second_child.ensures lesser

pub returns-clause-fits : goal.returns-clause-fits
returns-clause-fits c =
    let trees = c.args.pool.now.trees in
    let node = c.args.node in
    omega (arith, size_node (tree_at trees c.args.from.at) node.head (tree_at trees node.first) (tree_at trees node.second) c.requires.tree, c.weight.ensures.weight, c.size_below.ensures)
