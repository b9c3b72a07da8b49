use Rattle.cv_query_laws.proofs.visits.OneBody.{one_body}
use Rattle.cv_query_laws.proofs.visits.one_body_is_served.Goals as goal

pub returns : goal.returns
returns c = λ ds g m a game t i j v w constants well k l s r p node Γ e f same. one_body ds g m a game t constants well i j v w k l s r p node Γ e f same
