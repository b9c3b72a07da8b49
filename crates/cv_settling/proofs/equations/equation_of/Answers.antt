use Rattle.std.proofs.Common.{Some}
use Rattle.cv_syntax.specs.PoolTrees.{tree_at}
use Rattle.cv_settling.proofs.Told.{empty_body, equality, no_equality, no_sides}
use Rattle.cv_settling.proofs.equations.equation_of.Goals as goal

pub returns-in_default-clause-sides : goal.returns-in_default-clause-sides
returns-in_default-clause-sides c = no_sides c.args.number (tree_at c.args.pool.now.trees (Some c.args.n)) c.in_default.ensures.none

pub returns-in_default-opened-clause-sides : goal.returns-in_default-opened-clause-sides
returns-in_default-opened-clause-sides c =
    let trees = c.args.pool.now.trees in
    let node = c.in-Some.node in
    empty_body c.args.number (tree_at trees (Some c.args.n)) node.head (tree_at trees node.first) (tree_at trees node.second) c.in-Some.ensures.tree c.in_default-opened.ensures.none

pub returns-in-Eq-clause-sides : goal.returns-in-Eq-clause-sides
returns-in-Eq-clause-sides c =
    let trees = c.args.pool.now.trees in
    let node = c.in-Some.node in
    let body = c.in-Some-opened.body in
    equality c.args.number (tree_at trees (Some c.args.n)) node.head (tree_at trees node.first) (tree_at trees node.second) c.in-Some.ensures.tree body.head (tree_at trees body.first) (tree_at trees body.second) c.in-Some-opened.ensures.node c.in-Eq.is

pub returns-in_default-head-clause-sides : goal.returns-in_default-head-clause-sides
returns-in_default-head-clause-sides c =
    let trees = c.args.pool.now.trees in
    let node = c.in-Some.node in
    let body = c.in-Some-opened.body in
    no_equality c.args.number (tree_at trees (Some c.args.n)) node.head (tree_at trees node.first) (tree_at trees node.second) c.in-Some.ensures.tree body.head (tree_at trees body.first) (tree_at trees body.second) c.in-Some-opened.ensures.node c.in_default-head.not-Eq
