use Rattle.std.proofs.Common.{ap, ◌∙◌, Some}
use Rattle.cv_syntax.specs.PoolTrees.{tree_at}
use Rattle.cv_steps.specs.Unletting.{assigned_in}
use Rattle.cv_edit_changes.proofs.unletting.Assignments.{assigns_nothing, no_let, part_there, term_small}
use Rattle.cv_edit_changes.proofs.unletting.Substituted.{some_found}
use Rattle.cv_edit_changes.proofs.unletting.assigned.only_assignment.Goals as goal

pub returns-in-Let-clause-small : goal.returns-in-Let-clause-small
returns-in-Let-clause-small c =
    let trees = c.args.pool.now.trees in
    let game = tree_at trees (Some c.args.game) in
    let node = c.read_node-node.result in
    let there = some_found _ c.at.result _ c.in_ok-found.found c.at.ensures.tree c.in_ok-found.was in
    term_small game c.in_ok-place.place (tree_at trees (Some c.in_ok-found.found)) node.head (tree_at trees node.first) (tree_at trees node.second) there c.read_node-node.ensures.tree

pub returns-in_default : goal.returns-in_default
returns-in_default c =
    let trees = c.args.pool.now.trees in
    let game = tree_at trees (Some c.args.game) in
    let node = c.read_node-node.result in
    let there = some_found _ c.at.result _ c.in_ok-found.found c.at.ensures.tree c.in_ok-found.was in
    let is = part_there game c.in_ok-place.place _ there ∙ c.read_node-node.ensures.tree in
    record {
      assigned = assigns_nothing trees game c.args.directory.now c.args.x c.requires.read c.in_ok-place.place (c.in_ok-place.ensures trees) (ap assigned_in is ∙ no_let node.head (tree_at trees node.first) (tree_at trees node.second) c.in_default.not-Let);
      live = tt;
      small = tt;
    }
