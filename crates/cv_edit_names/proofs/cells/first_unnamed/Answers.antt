use Rattle.std.proofs.Common.{sym, ◌∙◌}
use Rattle.cv_syntax.specs.PoolTrees.{tree_at}
use Rattle.cv_syntax.proofs.Trees.{empty_at}
use Rattle.cv_edit_names.specs.Kept.{looked_in}
use Rattle.cv_edit_names.proofs.ListedCells.{found_nothing}
use Rattle.cv_edit_names.proofs.cells.first_unnamed.Goals as goal

pub returns-clause-cell : goal.returns-clause-cell
returns-clause-cell c =
    let trees = c.args.pool.now.trees in
    sym (found_nothing c.args.x (looked_in trees c.args.looked_for.now) (tree_at trees c.cells.at) (empty_at trees c.cells.at c.in_default.is)) ∙ c.cells.invariant.same
