use Rattle.std.proofs.Common.{◌++◌, ◌∙◌, ap, map, sym}
use Rattle.std.proofs.lemmas.List.{append-nil}
use Rattle.cv_syntax.proofs.Trees.{empty_at}
use Rattle.cv_meaning.specs.contexts.Inlined as bodies
use Rattle.cv_meaning.specs.contexts.Inlined.{is_index_of}
use Rattle.cv_inline_sites.specs.branches.Cells.{cell_tree}
use Rattle.cv_inline_sites.proofs.branches.Fronts.{needed_Empty}
use Rattle.cv_inline_sites.proofs.branches.needed.+add_needed.Goals as goal

pub returns-in_default-clause-cells : goal.returns-in_default-clause-cells
returns-in_default-clause-cells t c =
    let trees = c.args.pool.now.trees in
    let before = map (cell_tree trees) c.args.cells.now.items in
    sym (ap (λ xs. before ++ xs) (ap (bodies.needed (is_index_of c.args.replications.now)) (empty_at trees c.args.term c.in_default.is) ∙ needed_Empty (is_index_of c.args.replications.now)) ∙ append-nil before)
