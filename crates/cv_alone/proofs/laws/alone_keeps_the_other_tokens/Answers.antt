use Rattle.cv_alone.proofs.OneQuery.{one_query}
use Rattle.cv_alone.proofs.Relexing.{no_tokens, tokens_alone}
use Rattle.cv_alone.proofs.laws.alone_keeps_the_other_tokens.Goals as goal

pub returns-clause-query : goal.returns-clause-query
returns-clause-query c = tokens_alone

pub returns-clause-nothing : goal.returns-clause-nothing
returns-clause-nothing c = no_tokens

pub returns-clause-one_query : goal.returns-clause-one_query
returns-clause-one_query c = one_query
