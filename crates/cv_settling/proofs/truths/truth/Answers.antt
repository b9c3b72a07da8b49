use Rattle.std.proofs.Common.{Some, ◌∙◌}
use Rattle.cv_syntax.specs.PoolTrees.{tree_at}
use Rattle.cv_settling.proofs.Shorter.{truth_of_and, truth_of_equality, truth_of_not, truth_of_or, truth_of_other}
use Rattle.cv_settling.proofs.truths.truth.Goals as goal

pub returns-in-Eq : goal.returns-in-Eq
returns-in-Eq c =
    let trees = c.args.pool.now.trees in
    let node = c.in_ok-node.node in
    λ p. c.of_equation.ensures ∙ truth_of_equality (tree_at trees (Some c.args.n)) node.head (tree_at trees node.first) (tree_at trees node.second) c.in_ok-node.ensures.tree p c.in-Eq.is

pub returns-in-And : goal.returns-in-And
returns-in-And c =
    let trees = c.args.pool.now.trees in
    let node = c.in_ok-node.node in
    λ p. c.of_conjunction.ensures ∙ truth_of_and (tree_at trees (Some c.args.n)) node.head (tree_at trees node.first) (tree_at trees node.second) c.in_ok-node.ensures.tree p c.in-And.is

pub returns-in-Or : goal.returns-in-Or
returns-in-Or c =
    let trees = c.args.pool.now.trees in
    let node = c.in_ok-node.node in
    λ p. c.of_disjunction.ensures ∙ truth_of_or (tree_at trees (Some c.args.n)) node.head (tree_at trees node.first) (tree_at trees node.second) c.in_ok-node.ensures.tree p c.in-Or.is

pub returns-in-Not : goal.returns-in-Not
returns-in-Not c =
    let trees = c.args.pool.now.trees in
    let node = c.in_ok-node.node in
    λ p. c.of_negation.ensures ∙ truth_of_not (tree_at trees (Some c.args.n)) node.head (tree_at trees node.first) (tree_at trees node.second) c.in_ok-node.ensures.tree p c.in-Not.is

pub returns-in_default : goal.returns-in_default
returns-in_default c =
    let trees = c.args.pool.now.trees in
    let node = c.in_ok-node.node in
    λ p. truth_of_other (tree_at trees (Some c.args.n)) node.head (tree_at trees node.first) (tree_at trees node.second) c.in_ok-node.ensures.tree c.in_default.not-Eq c.in_default.not-And c.in_default.not-Or c.in_default.not-Not
