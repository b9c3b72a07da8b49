use Rattle.cv_scope_rules.proofs.Apart.{game_alike, game_branches}
use Rattle.cv_scope_rules.proofs.laws.scoped_sites_are_apart.Goals as goal

pub returns-clause-alike : goal.returns-clause-alike
returns-clause-alike c = λ ds game i. game_alike ds game i

pub returns-clause-branches : goal.returns-clause-branches
returns-clause-branches c = λ ds game i. game_branches ds game i
