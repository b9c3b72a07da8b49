use Rattle.std.proofs.Common.{◌<◌, Option, Some, rules, length, ap, arith, sym, ◌∙◌}
use Rattle.cv_pool.specs.declared.node.NodeId.{NodeId}
use Rattle.cv_syntax.specs.PoolTrees.{tree_at}
use Rattle.cv_syntax.specs.Walks.{above}
use Rattle.cv_syntax.proofs.Trees.{child_live, empty_at}
use Rattle.cv_syntax.proofs.Walking.{above_child, above_some, size_node}
use Rattle.cv_inline_laws.specs.extents.Extents.{copies_of, with_answers}
use Rattle.cv_syntax.specs.limits.Limits.{told}
use Rattle.cv_inline_measure.specs.Games.{answers_in}
use Rattle.cv_inline_measure.specs.Settings.{measure_of}
use Rattle.cv_inline_measure.proofs.Answering.{leaf_with, read_with}
use Rattle.cv_inline_measure.proofs.Walks.{empty_with, node_with}
use Rattle.cv_inline_measure.proofs.game.+with_answers.Goals as goal

pub returns-in_default : goal.returns-in_default
returns-in_default t c =
    let s = c.args.setting.now in
    empty_with s.measure c.args.copies c.along.result (answers_in c.args.answers.now) (tree_at s.pool.now.trees c.args.term) (empty_at s.pool.now.trees c.args.term c.in_default.is) c.along.ensures

pub with_answers-first-requires : goal.with_answers-first-requires
with_answers-first-requires t c =
    let trees = c.args.setting.now.pool.now.trees in
    let node = c.read_node-node.result in
    let e = ap (tree_at trees) c.in-Some.is ∙ c.read_node-node.ensures.tree in
    let less : above node.first < above c.args.term = omega (arith, above_some c.args.term c.in-Some.n c.in-Some.is, above_child c.in-Some.n.0 node.first c.read_node-node.ensures.first) in
    (search rules, (child_live (length trees) c.args.term c.in-Some.n node.first c.in-Some.is c.requires.live c.read_node-node.ensures.first, omega (arith, c.requires.fits, size_node (tree_at trees c.args.term) node.head (tree_at trees node.first) (tree_at trees node.second) e)))

pub with_answers-second-requires : goal.with_answers-second-requires
with_answers-second-requires t c =
    let trees = c.args.setting.now.pool.now.trees in
    let node = c.read_node-node.result in
    let e = ap (tree_at trees) c.in-Some.is ∙ c.read_node-node.ensures.tree in
    let less : above node.second < above c.args.term = omega (arith, above_some c.args.term c.in-Some.n c.in-Some.is, above_child c.in-Some.n.0 node.second c.read_node-node.ensures.second) in
    (search rules, (child_live (length trees) c.args.term c.in-Some.n node.second c.in-Some.is c.requires.live c.read_node-node.ensures.second, omega (arith, c.requires.fits, size_node (tree_at trees c.args.term) node.head (tree_at trees node.first) (tree_at trees node.second) e)))

pub returns-in-Leaf : goal.returns-in-Leaf
returns-in-Leaf t c =
    let s = c.args.setting.now in
    let trees = s.pool.now.trees in
    let node = c.read_node-node.result in
    leaf_with s.measure c.args.copies c.answer_or.result c.in-Leaf.x (answers_in c.args.answers.now) node.head (tree_at trees (Some c.in-Some.n)) (tree_at trees node.first) (tree_at trees node.second) c.in-Leaf.is c.read_node-node.ensures.tree
    (c.answer_or.ensures (copies_of (measure_of s) c.args.copies (tree_at trees (Some c.in-Some.n))) c.copies_of.ensures)
    ∙ ap (λ (p : Option NodeId). told (with_answers (measure_of s) c.args.copies (answers_in c.args.answers.now) (tree_at trees p))) (sym c.in-Some.is)

pub returns-in-Read : goal.returns-in-Read
returns-in-Read t c =
    let s = c.args.setting.now in
    let trees = s.pool.now.trees in
    let node = c.read_node-node.result in
    read_with s.measure c.args.copies c.answer_or-in-Read.result c.in-Read.x (answers_in c.args.answers.now) node.head (tree_at trees (Some c.in-Some.n)) (tree_at trees node.first) (tree_at trees node.second) c.in-Read.is c.read_node-node.ensures.tree
    (c.answer_or-in-Read.ensures (copies_of (measure_of s) c.args.copies (tree_at trees (Some c.in-Some.n))) c.copies_of-in-Read.ensures)
    ∙ ap (λ (p : Option NodeId). told (with_answers (measure_of s) c.args.copies (answers_in c.args.answers.now) (tree_at trees p))) (sym c.in-Some.is)

pub returns-in_default-head : goal.returns-in_default-head
returns-in_default-head t c =
    let s = c.args.setting.now in
    let trees = s.pool.now.trees in
    let node = c.read_node-node.result in
    let e = ap (tree_at trees) c.in-Some.is ∙ c.read_node-node.ensures.tree in
    node_with s.measure c.args.copies c.weight.result c.with_answers-first.result c.with_answers-second.result c.over_node.result (answers_in c.args.answers.now) node.head (tree_at trees c.args.term) (tree_at trees node.first) (tree_at trees node.second)
    c.in_default-head.not-Leaf c.in_default-head.not-Read e c.weight.ensures.weight c.with_answers-first.ensures c.with_answers-second.ensures c.over_node.ensures
