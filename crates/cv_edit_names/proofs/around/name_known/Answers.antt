use Rattle.std.proofs.Common.{sym, ◌∙◌}
use Rattle.cv_syntax.specs.PoolTrees.{tree_at}
use Rattle.cv_edit_names.specs.Kept.{around_in}
use Rattle.cv_edit_names.proofs.ListedCells.{name_before, name_behind}
use Rattle.cv_edit_names.proofs.around.name_known.Goals as goal

pub returns-in-Some : goal.returns-in-Some
returns-in-Some c =
    let trees = c.args.pool.now.trees in
    let e = around_in trees c.args.x c.args.around.now in
    sym (name_before e.looked_for e.defined (tree_at trees c.args.term) c.in-Some.name (sym c.name_looked_for.ensures ∙ c.in-Some.is))

pub returns-in-None : goal.returns-in-None
returns-in-None c =
    let trees = c.args.pool.now.trees in
    let e = around_in trees c.args.x c.args.around.now in
    c.name_above.ensures ∙ sym (name_behind e.looked_for e.defined (tree_at trees c.args.term) (sym c.name_looked_for.ensures ∙ c.in-None.is))
