use Rattle.cv_group_rules.proofs.Deciding.{accepted_more, accepted_where_none, broken_is_found, first_broken, first_refused, none_where_accepted, none_where_all, refused_is_found}
use Rattle.cv_group_rules.proofs.faults_are_decided.Goals as goal

pub returns-clause-none : goal.returns-clause-none
returns-clause-none c = λ constants t. (accepted_where_none constants t, none_where_accepted constants t)

pub returns-clause-some : goal.returns-clause-some
returns-clause-some c = λ constants t r. (first_broken constants t r, broken_is_found constants t r)

pub returns-clause-all : goal.returns-clause-all
returns-clause-all c = λ constants ts. (accepted_more constants ts, none_where_all constants ts)

pub returns-clause-first : goal.returns-clause-first
returns-clause-first c = λ constants ts k r. (first_refused constants ts k r, refused_is_found constants ts k r)
