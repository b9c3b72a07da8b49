use Rattle.std.proofs.Common.{Some, ◌+◌, ◌-◌, ◌^◌, min, ap, sym, ◌∙◌, arith}
use Rattle.std.specs.Prelude.{if◌then◌else◌}
use Rattle.cv_syntax_trees.specs.Head.{weight}
use Rattle.cv_syntax_trees.specs.Tree.{chain, size}
use Rattle.cv_syntax.specs.PoolTrees.{tree_at}
use Rattle.cv_settling_rules.specs.Measure.{large_equalities}
use Rattle.cv_settling.specs.Measured.{capped}
use Rattle.cv_settling.specs.Putting.{names_of, put_in, terms_of}
use Rattle.cv_settling.proofs.Measuring.{equalities_at, equalities_end, put_below, put_end, put_here, same_equality, size_at, size_end, summed, summed_end}
use Rattle.cv_settling.proofs.measure.+measure_put_with.Goals as goal

pub returns-in_default-clause-equations : goal.returns-in_default-clause-equations
returns-in_default-clause-equations t c =
    let trees = c.args.table.now.pool.now.trees in
    let put = put_in trees c.args.given.now (tree_at trees c.args.part) in
    let none = put_end (names_of c.args.given.now) (chain (terms_of trees c.args.given.now)) (tree_at trees c.args.part) c.in_default.ensures.none in
    λ s i. summed_end (2 ^ 64 - 1) c.args.total.equations (large_equalities s put) (omega arith) (equalities_end s put none)

pub returns-in_default-clause-nodes : goal.returns-in_default-clause-nodes
returns-in_default-clause-nodes t c =
    let trees = c.args.table.now.pool.now.trees in
    let put = put_in trees c.args.given.now (tree_at trees c.args.part) in
    let none = put_end (names_of c.args.given.now) (chain (terms_of trees c.args.given.now)) (tree_at trees c.args.part) c.in_default.ensures.none in
    summed_end (2 ^ 64 - 1) c.args.total.nodes (size put) (omega arith) (size_end put none)

pub returns-in-Some-given_at-clause-equations : goal.returns-in-Some-given_at-clause-equations
returns-in-Some-given_at-clause-equations t c =
    let trees = c.args.table.now.pool.now.trees in
    let node = c.in-Some.node in
    let here = put_here (names_of c.args.given.now) (chain (terms_of trees c.args.given.now)) (tree_at trees c.args.part) node.head (tree_at trees node.first) (tree_at trees node.second) c.in-Some.ensures.node (tree_at trees (Some c.in-Some-given_at.term)) (c.in-Some-given_at.ensures trees) in
    λ s i. c.measure_with.ensures.equations s i ∙ sym (ap (λ u. capped (c.args.total.equations + large_equalities s u)) here)

pub returns-in-Some-given_at-clause-nodes : goal.returns-in-Some-given_at-clause-nodes
returns-in-Some-given_at-clause-nodes t c =
    let trees = c.args.table.now.pool.now.trees in
    let node = c.in-Some.node in
    let here = put_here (names_of c.args.given.now) (chain (terms_of trees c.args.given.now)) (tree_at trees c.args.part) node.head (tree_at trees node.first) (tree_at trees node.second) c.in-Some.ensures.node (tree_at trees (Some c.in-Some-given_at.term)) (c.in-Some-given_at.ensures trees) in
    c.measure_with.ensures.nodes ∙ sym (ap (λ u. capped (c.args.total.nodes + size u)) here)

pub returns-clause-equations : goal.returns-clause-equations
returns-clause-equations t c =
    let trees = c.args.table.now.pool.now.trees in
    let given = c.args.given.now in
    let node = c.in-Some.node in
    let first = put_in trees given (tree_at trees node.first) in
    let second = put_in trees given (tree_at trees node.second) in
    let whole = put_in trees given (tree_at trees c.args.part) in
    let below = put_below (names_of given) (chain (terms_of trees given)) (tree_at trees c.args.part) node.head (tree_at trees node.first) (tree_at trees node.second) c.in-Some.ensures.node (c.in_default-given_at.ensures trees) in
    λ s i.
    summed (2 ^ 64 - 1) c.args.total.equations _ (large_equalities s first) (large_equalities s second) (large_equalities s whole)
    c.with_node-here.result.equations c.measure_put_with-before.result.equations c.measure_put_with.result.equations
    (c.with_node-here.ensures.equations
    ∙ ap (λ b. capped (c.args.total.equations + (if b then 1 else 0))) (c.is_large_equality-is_equation.ensures s i ∙ same_equality s node.head _ first (c.root_of-root.ensures s)))
    (c.measure_put_with-before.ensures.equations s i)
    (c.measure_put_with.ensures.equations s i)
    (equalities_at s whole node.head first second below)

pub returns-clause-nodes : goal.returns-clause-nodes
returns-clause-nodes t c =
    let trees = c.args.table.now.pool.now.trees in
    let given = c.args.given.now in
    let node = c.in-Some.node in
    let first = put_in trees given (tree_at trees node.first) in
    let second = put_in trees given (tree_at trees node.second) in
    let whole = put_in trees given (tree_at trees c.args.part) in
    let below = put_below (names_of given) (chain (terms_of trees given)) (tree_at trees c.args.part) node.head (tree_at trees node.first) (tree_at trees node.second) c.in-Some.ensures.node (c.in_default-given_at.ensures trees) in
    summed (2 ^ 64 - 1) c.args.total.nodes (weight node.head) (size first) (size second) (size whole)
    c.with_node-here.result.nodes c.measure_put_with-before.result.nodes c.measure_put_with.result.nodes
    c.with_node-here.ensures.nodes c.measure_put_with-before.ensures.nodes c.measure_put_with.ensures.nodes
    (size_at whole node.head first second below)
