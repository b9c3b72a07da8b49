use Rattle.cv_inline_laws.proofs.sizes.Sizes.{one_depth, one_size}
use Rattle.cv_inline_laws.proofs.sizes.names_change_no_extents.Goals as goal

pub returns-clause-size : goal.returns-clause-size
returns-clause-size c = λ k x d e. one_size k x d e

pub returns-clause-depth : goal.returns-clause-depth
returns-clause-depth c = λ k x d e. one_depth k x d e
