use Rattle.std.proofs.Common.{◌≡◌, ◌+◌, arith, refl, ap, ◌∙◌}
use Rattle.cv_syntax_trees.specs.Head.{weight}
use Rattle.cv_syntax_trees.specs.Tree.{size}
use Rattle.cv_syntax.specs.PoolTrees.{tree_at}
use Rattle.cv_syntax.proofs.ChildReads.{left_over}
use Rattle.cv_syntax.proofs.Trees.{empty_at, size_Empty}
use Rattle.cv_syntax.proofs.Walking.{size_node}
use Rattle.cv_syntax.proofs.children.+room_left.Goals as goal

pub returns-in_default-clause-left : goal.returns-in_default-clause-left
returns-in_default-clause-left t c = omega (arith, size_Empty (tree_at c.args.pool.now.trees c.args.part) (empty_at c.args.pool.now.trees c.args.part c.in_default.is))

pub returns-then-room-weight-clause-more : goal.returns-then-room-weight-clause-more
returns-then-room-weight-clause-more t c =
    let trees = c.args.pool.now.trees in
    let node = c.read_node-node.result in
    λ q. omega (arith, size_node (tree_at trees c.args.part) node.head (tree_at trees node.first) (tree_at trees node.second) (ap (tree_at trees) c.in-Some.is ∙ c.read_node-node.ensures.tree), c.weight-weight.ensures.weight, c.if-room-weight.true)

pub returns-in_default-room_left-clause-more : goal.returns-in_default-room_left-clause-more
returns-in_default-room_left-clause-more t c =
    let trees = c.args.pool.now.trees in
    let node = c.read_node-node.result in
    let m = c.in_default-room_left.ensures.more refl in
    λ q. omega (arith, m, size_node (tree_at trees c.args.part) node.head (tree_at trees node.first) (tree_at trees node.second) (ap (tree_at trees) c.in-Some.is ∙ c.read_node-node.ensures.tree), c.weight-weight.ensures.weight, c.if-room-weight.false)

pub returns-clause-left : goal.returns-clause-left
returns-clause-left t c =
    let trees = c.args.pool.now.trees in
    let node = c.read_node-node.result in
    let e = size_node (tree_at trees c.args.part) node.head (tree_at trees node.first) (tree_at trees node.second) (ap (tree_at trees) c.in-Some.is ∙ c.read_node-node.ensures.tree) in
    let r : size (tree_at trees c.args.part) ≡ size (tree_at trees node.second) + (weight node.head + size (tree_at trees node.first)) = omega (arith, e) in
    let s : c.in-Some-room_left.rest + (weight node.head + size (tree_at trees node.first)) ≡ c.args.room = omega (arith, c.in-Some-room_left.ensures.left, c.weight-weight.ensures.weight, c.if-room-weight.false) in
    left_over c.room_left-2.result _ _ _ _ _ r s c.room_left-2.ensures.left

pub returns-clause-more : goal.returns-clause-more
returns-clause-more t c =
    let trees = c.args.pool.now.trees in
    let node = c.read_node-node.result in
    let e = size_node (tree_at trees c.args.part) node.head (tree_at trees node.first) (tree_at trees node.second) (ap (tree_at trees) c.in-Some.is ∙ c.read_node-node.ensures.tree) in
    let s : c.in-Some-room_left.rest + (weight node.head + size (tree_at trees node.first)) ≡ c.args.room = omega (arith, c.in-Some-room_left.ensures.left, c.weight-weight.ensures.weight, c.if-room-weight.false) in
    λ q. let m = c.room_left-2.ensures.more q in omega (arith, e, s, m)
