use Rattle.cv_scope_rules.proofs.typing.First.{typed_where_none, none_where_typed, finds_first}
use Rattle.cv_scope_rules.proofs.typing.laws.tree_faults_are_first.Goals as goal

pub returns-clause-typed : goal.returns-clause-typed
returns-clause-typed c = λ e above w p t. (typed_where_none e above w p t, none_where_typed e above w p t)

pub returns-clause-first : goal.returns-clause-first
returns-clause-first c = λ e above w p t q f. finds_first e above w p t q f
