use Rattle.cv_scene.specs.Reductions.{matching}
use Rattle.cv_context_runs.proofs.instances.Outside.{free_message, free_term, free_terms}
use Rattle.cv_context_runs.proofs.instances.Statements.{below_message, below_term, below_terms, terms_apt}
use Rattle.cv_context_runs.proofs.instances.statements_are_apt.Goals as goal

pub returns-clause-term : goal.returns-clause-term
returns-clause-term c r rs n p t own of e = terms_apt r own rs n p t of (free_term (matching r) t e) (below_term (matching r) rs t e 0 p)

pub returns-clause-terms : goal.returns-clause-terms
returns-clause-terms c r rs n p t own of e = terms_apt r own rs n p t of (free_terms (matching r) t e) (below_terms (matching r) rs t e 0 p)

pub returns-clause-message : goal.returns-clause-message
returns-clause-message c r rs n p t own of e = terms_apt r own rs n p t of (free_message (matching r) t e) (below_message (matching r) rs t e 0 p)
