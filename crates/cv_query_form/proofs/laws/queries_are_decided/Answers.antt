use Rattle.cv_query_form.proofs.Decided.{query_found, query_tested}
use Rattle.cv_query_form.proofs.First.{asked_where_none, finds_first_law, first_is_found, none_where_asked}
use Rattle.cv_query_form.proofs.laws.queries_are_decided.Goals as goal

pub returns-clause-query : goal.returns-clause-query
returns-clause-query c = λ game query. (query_found game query, query_tested game query)

pub returns-clause-all : goal.returns-clause-all
returns-clause-all c = λ game queries. (asked_where_none game queries, none_where_asked game queries)

pub returns-clause-first : goal.returns-clause-first
returns-clause-first c = λ game queries k. (finds_first_law game queries k, first_is_found game queries k)
