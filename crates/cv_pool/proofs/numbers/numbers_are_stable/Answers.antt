use Rattle.std.proofs.lemmas.List.{get_or-take}
use Rattle.cv_pool.specs.KindTree.{NoTree}
use Rattle.cv_pool.proofs.Growth.{Grows_at, Grows_child, Grows_back, Grows_trans}
use Rattle.cv_pool.proofs.numbers.numbers_are_stable.Goals as goal

pub returns-clause-grown : goal.returns-clause-grown
returns-clause-grown c = Grows_at

pub returns-clause-children : goal.returns-clause-children
returns-clause-children c = Grows_child

pub returns-clause-released : goal.returns-clause-released
returns-clause-released c = λ trees m n h. get_or-take m trees n NoTree h

pub returns-clause-back : goal.returns-clause-back
returns-clause-back c = Grows_back

pub returns-clause-again : goal.returns-clause-again
returns-clause-again c = Grows_trans
