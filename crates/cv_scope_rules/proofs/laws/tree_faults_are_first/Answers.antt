use Rattle.cv_scope_rules.proofs.First.{scoped_where_none, none_where_scoped, finds_first}
use Rattle.cv_scope_rules.proofs.laws.tree_faults_are_first.Goals as goal

pub returns-clause-scoped : goal.returns-clause-scoped
returns-clause-scoped c = λ names s t. (scoped_where_none names s t, none_where_scoped names s t)

pub returns-clause-first : goal.returns-clause-first
returns-clause-first c = λ names s t q f. finds_first names s t q f
