use Rattle.std.proofs.Common.{sym, ap, ◌∙◌, arith}
use Rattle.std.specs.Prelude.{option_map}
use Rattle.cv_syntax_trees.specs.Tree.{Node}
use Rattle.cv_syntax.specs.PoolTrees.{tree_at}
use Rattle.cv_edit_changes.specs.pruning.Bodies.{nodes_of, part_of}
use Rattle.cv_edit_changes.specs.pruning.Lefts.{left_of}
use Rattle.cv_edit_changes.proofs.pruning.Constructs.{bodies_small, else_left, if_else_nodes, if_nodes, then_left}
use Rattle.cv_edit_changes.proofs.pruning.left.left_without.Goals as goal

pub returns-in_ok-bodies_in-in-Then-clause-some : goal.returns-in_ok-bodies_in-in-Then-clause-some
returns-in_ok-bodies_in-in-Then-clause-some c =
    let trees = c.args.pool.now.trees in
    let h = c.args.construct.head in
    let a = tree_at trees c.args.construct.first in
    let list = tree_at trees c.args.construct.second in
    let found = c.in_ok-bodies_in-in-Then.ensures.bodies in
    let bodies = c.in_ok-bodies_in-in-Then.field-0 in
    (ap (λ b. left_of (Node h a list) (part_of b)) c.in-Then.is ∙ (then_left 0 (Node h a list) ∙ ap (option_map (λ x. x.1)) (sym found)), ap (λ b. nodes_of (Node h a list) (part_of b)) c.in-Then.is ∙ if_nodes (Node h a list), omega (arith, (bodies_small h a list (tree_at trees bodies.then, tree_at trees bodies.other) found).1))

pub returns-in_ok-bodies_in-in-Else-clause-some : goal.returns-in_ok-bodies_in-in-Else-clause-some
returns-in_ok-bodies_in-in-Else-clause-some c =
    let trees = c.args.pool.now.trees in
    let h = c.args.construct.head in
    let a = tree_at trees c.args.construct.first in
    let list = tree_at trees c.args.construct.second in
    let found = c.in_ok-bodies_in-in-Else.ensures.bodies in
    let bodies = c.in_ok-bodies_in-in-Else.field-0 in
    (ap (λ b. left_of (Node h a list) (part_of b)) c.in-Else.is ∙ (else_left 0 (Node h a list) ∙ ap (option_map (λ x. x.0)) (sym found)), ap (λ b. nodes_of (Node h a list) (part_of b)) c.in-Else.is ∙ if_else_nodes (Node h a list), omega (arith, (bodies_small h a list (tree_at trees bodies.then, tree_at trees bodies.other) found).1))
