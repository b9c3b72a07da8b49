use Rattle.cv_derive.proofs.worked.Judged.{each, each_late, each_pair, end_with, end_without, none_late}
use Rattle.cv_derive.proofs.worked.worked_derivations.Goals as goal

pub returns-clause-lines : goal.returns-clause-lines
returns-clause-lines c = each

pub returns-clause-late : goal.returns-clause-late
returns-clause-late c = each_late

pub returns-clause-pairs : goal.returns-clause-pairs
returns-clause-pairs c = each_pair

pub returns-clause-moments : goal.returns-clause-moments
returns-clause-moments c = none_late

pub returns-clause-ends : goal.returns-clause-ends
returns-clause-ends c = end_with

pub returns-clause-others : goal.returns-clause-others
returns-clause-others c = end_without
