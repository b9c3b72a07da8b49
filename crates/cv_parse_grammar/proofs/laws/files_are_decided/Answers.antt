use Rattle.cv_parse_grammar.proofs.Outcome.{accepted_is_read, read_is_accepted, refused_is_misnamed, misnamed_is_refused}
use Rattle.cv_parse_grammar.proofs.laws.files_are_decided.Goals as goal

pub returns-clause-accepted : goal.returns-clause-accepted
returns-clause-accepted c = λ ts ds s g. (accepted_is_read ts ds s g, read_is_accepted ts ds s g)

pub returns-clause-misnamed : goal.returns-clause-misnamed
returns-clause-misnamed c = λ ts f. (refused_is_misnamed ts f, misnamed_is_refused ts f)
