use Rattle.std.proofs.Common.{ap, sym, ◌∙◌}
use Rattle.cv_syntax.specs.PoolTrees.{tree_at}
use Rattle.cv_settling_rules.specs.Measure.{is_large_equality}
use Rattle.cv_settling.proofs.Measuring.{no_equality}
use Rattle.cv_settling.proofs.measure.is_large_equality.Goals as goal

pub returns-in-Eq : goal.returns-in-Eq
returns-in-Eq c =
    let left = tree_at c.args.table.now.pool.now.trees c.args.left in
    λ s t. c.is_large.ensures s t ∙ sym (ap (λ h. is_large_equality s h left) c.in-Eq.is)

pub returns-in_default : goal.returns-in_default
returns-in_default c = λ s t. no_equality s c.args.head (tree_at c.args.table.now.pool.now.trees c.args.left) c.in_default.not-Eq
