use Rattle.std.proofs.Common.{◌+◌, ◌-◌, ◌^◌, min, ap, ◌∙◌, arith}
use Rattle.std.specs.Prelude.{if◌then◌else◌}
use Rattle.cv_syntax_trees.specs.Head.{weight}
use Rattle.cv_syntax_trees.specs.Tree.{size}
use Rattle.cv_syntax.specs.PoolTrees.{tree_at}
use Rattle.cv_settling_rules.specs.Measure.{large_equalities}
use Rattle.cv_settling.specs.Measured.{capped}
use Rattle.cv_settling.proofs.Measuring.{equalities_at, equalities_end, size_at, size_end, summed, summed_end}
use Rattle.cv_settling.proofs.measure.+measure_with.Goals as goal

pub returns-in_default-clause-equations : goal.returns-in_default-clause-equations
returns-in_default-clause-equations t c =
    let part = tree_at c.args.table.now.pool.now.trees c.args.part in
    λ s i. summed_end (2 ^ 64 - 1) c.args.total.equations (large_equalities s part) (omega arith) (equalities_end s part c.in_default.ensures.none)

pub returns-in_default-clause-nodes : goal.returns-in_default-clause-nodes
returns-in_default-clause-nodes t c =
    let part = tree_at c.args.table.now.pool.now.trees c.args.part in
    summed_end (2 ^ 64 - 1) c.args.total.nodes (size part) (omega arith) (size_end part c.in_default.ensures.none)

pub returns-clause-equations : goal.returns-clause-equations
returns-clause-equations t c =
    let trees = c.args.table.now.pool.now.trees in
    let part = tree_at trees c.args.part in
    let node = c.in-Some.node in
    λ s i.
    summed (2 ^ 64 - 1) c.args.total.equations _ (large_equalities s (tree_at trees node.first)) (large_equalities s (tree_at trees node.second)) (large_equalities s part)
    c.with_node-here.result.equations c.measure_with-before.result.equations c.measure_with.result.equations
    (c.with_node-here.ensures.equations ∙ ap (λ b. capped (c.args.total.equations + (if b then 1 else 0))) (c.is_large_equality-is_equation.ensures s i))
    (c.measure_with-before.ensures.equations s i)
    (c.measure_with.ensures.equations s i)
    (equalities_at s part node.head (tree_at trees node.first) (tree_at trees node.second) c.in-Some.ensures.node)

pub returns-clause-nodes : goal.returns-clause-nodes
returns-clause-nodes t c =
    let trees = c.args.table.now.pool.now.trees in
    let part = tree_at trees c.args.part in
    let node = c.in-Some.node in
    summed (2 ^ 64 - 1) c.args.total.nodes (weight node.head) (size (tree_at trees node.first)) (size (tree_at trees node.second)) (size part)
    c.with_node-here.result.nodes c.measure_with-before.result.nodes c.measure_with.result.nodes
    c.with_node-here.ensures.nodes c.measure_with-before.ensures.nodes c.measure_with.ensures.nodes
    (size_at part node.head (tree_at trees node.first) (tree_at trees node.second) c.in-Some.ensures.node)
