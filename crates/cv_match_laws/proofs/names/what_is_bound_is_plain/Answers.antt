use Rattle.cv_match_laws.proofs.names.Bindings.{below_own, branch_plain, input_plain, let_plain, new_no_answer}
use Rattle.cv_match_laws.proofs.names.what_is_bound_is_plain.Goals as goal

pub returns-clause-below : goal.returns-clause-below
returns-clause-below c = below_own

pub returns-clause-inputs : goal.returns-clause-inputs
returns-clause-inputs c r x a b o = input_plain r x a b o

pub returns-clause-branches : goal.returns-clause-branches
returns-clause-branches c r a b o = branch_plain r a b o

pub returns-clause-lets : goal.returns-clause-lets
returns-clause-lets c r x T a b o = let_plain r x T a b o

pub returns-clause-news : goal.returns-clause-news
returns-clause-news c r x T a b o = new_no_answer r x T a b o
