use Rattle.std.proofs.Common.{sym, ap, ◌∙◌}
use Rattle.std.specs.Prelude.{option_map}
use Rattle.cv_syntax.specs.PoolTrees.{tree_at}
use Rattle.cv_syntax.proofs.Trees.{empty_at}
use Rattle.cv_edit_changes.specs.pruning.Lefts.{cell_of}
use Rattle.cv_edit_changes.proofs.pruning.cut.first_cell.Goals as goal

pub returns-in_err-n-clause-cell : goal.returns-in_err-n-clause-cell
returns-in_err-n-clause-cell c =
    let trees = c.args.pool.now.trees in
    ap (option_map (λ o. (tree_at trees o.first, tree_at trees o.second))) c.from_residual.ensures ∙ sym (ap cell_of (empty_at trees c.args.list c.in_err-n.was))
