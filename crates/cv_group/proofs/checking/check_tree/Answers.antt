use Rattle.std.proofs.Common.{◌≡◌, sym, Some, None, subst}
use Rattle.cv_syntax.specs.PoolTrees.{tree_at}
use Rattle.cv_group.proofs.Steps as step
use Rattle.cv_group.specs.Tables.{symbols_in}
use Rattle.std.specs.Prelude.{OnOk, IfErr}
use Rattle.cv_group.specs.Refusals.{IsRefusalOf}
use Rattle.cv_group.proofs.checking.check_tree.Goals as goal

pub returns-clause-none : goal.returns-clause-none
returns-clause-none c =
    let trees = c.args.pool.now.trees in
    let sides = c.read_node-sides.result in
    let same = step.group_sides (symbols_in c.args.around.now.symbols) (tree_at trees (Some c.args.tree)) sides.head (tree_at trees sides.first) (tree_at trees sides.second) c.read_node-sides.ensures.tree in
    subst (λ o. OnOk c.check_sides.result (o ≡ None)) (sym same) c.check_sides.ensures.none

pub returns-clause-fault : goal.returns-clause-fault
returns-clause-fault c =
    let trees = c.args.pool.now.trees in
    let sides = c.read_node-sides.result in
    let same = step.group_sides (symbols_in c.args.around.now.symbols) (tree_at trees (Some c.args.tree)) sides.head (tree_at trees sides.first) (tree_at trees sides.second) c.read_node-sides.ensures.tree in
    subst (λ o. IfErr c.check_sides.result (IsRefusalOf o)) (sym same) c.check_sides.ensures.fault
