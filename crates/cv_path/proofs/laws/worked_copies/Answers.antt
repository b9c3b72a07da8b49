use Rattle.std.proofs.Common.{refl}
use Rattle.cv_syntax_trees.specs.Tree.{size}
use Rattle.cv_path.specs.Copies.{copies_at, parameters}
use Rattle.cv_path.proofs.laws.worked_copies.Goals as goal

pub returns-clause-find : goal.returns-clause-find
unfolding copies_at size parameters
returns-clause-find c = refl

pub returns-clause-condition : goal.returns-clause-condition
unfolding copies_at size parameters
returns-clause-condition c = refl

pub returns-clause-body : goal.returns-clause-body
unfolding copies_at size parameters
returns-clause-body c = refl

pub returns-clause-behind : goal.returns-clause-behind
unfolding copies_at size parameters
returns-clause-behind c = refl
