use Rattle.std.proofs.Common.{refl}
use Rattle.cv_syntax_trees.specs.Tree.{size}
use Rattle.cv_syntax.specs.faults.Walk.{first_fault}
use Rattle.cv_syntax.proofs.faults.worked_nesting.Goals as goal

pub returns : goal.returns
unfolding size first_fault
returns c = refl
