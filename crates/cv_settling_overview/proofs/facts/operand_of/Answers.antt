use Rattle.std.proofs.Common.{sym, subst}
use Rattle.cv_syntax.specs.PoolTrees.{tree_at}
use Rattle.cv_settling_overview.specs.declared.keys.Operand.TheVariants as operand
use Rattle.cv_settling_overview.specs.Facts.{IsOperandOf}
use Rattle.cv_settling_overview.proofs.Reading.{other_operand}
use Rattle.cv_settling_overview.proofs.facts.operand_of.Goals as goal

pub returns-in-None : goal.returns-in-None
returns-in-None c = λ b.
    let trees = c.args.pool.now.trees in
    subst (λ o. IsOperandOf trees (tree_at trees c.args.term) (operand.Other o)) (sym c.number_of.ensures) (other_operand trees c.args.term b c.in-None.ensures.none)
