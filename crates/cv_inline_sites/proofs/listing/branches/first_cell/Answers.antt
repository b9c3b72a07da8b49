use Rattle.std.proofs.Common.{◌∙◌, ap, sym}
use Rattle.std.specs.Prelude.{option_map}
use Rattle.cv_syntax.proofs.Trees.{empty_at}
use Rattle.cv_inline_sites.specs.listing.BranchForms.{cell_of, children_in}
use Rattle.cv_inline_sites.proofs.listing.branches.first_cell.Goals as goal

pub returns-in_err-list-clause-cell : goal.returns-in_err-list-clause-cell
returns-in_err-list-clause-cell c =
    let trees = c.args.pool.now.trees in
    ap (option_map (children_in trees)) c.from_residual.ensures ∙ sym (ap cell_of (empty_at trees c.args.list c.in_err-list.was))
