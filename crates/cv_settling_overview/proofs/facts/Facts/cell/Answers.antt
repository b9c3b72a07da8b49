use Rattle.std.proofs.Common.{ap, ◌∙◌}
use Rattle.cv_syntax.specs.PoolTrees.{tree_at}
use Rattle.cv_settling_overview.proofs.Reading.{cell_nowhere, no_child}
use Rattle.cv_settling_overview.proofs.facts.Facts.cell.Goals as goal

pub returns-in_default : goal.returns-in_default
returns-in_default c =
    let trees = c.args.pool.now.trees in
    cell_nowhere (tree_at trees c.args.term) c.args.self.now.indices.items (ap (tree_at trees) c.in_default.is ∙ no_child trees)
