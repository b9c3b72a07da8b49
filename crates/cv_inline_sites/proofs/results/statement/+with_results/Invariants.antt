use Rattle.cv_syntax.specs.Walks.{above}
use Rattle.cv_inline_sites.proofs.results.statement.+with_results.Given as goal

abbrev pub decreases-with_results : goal.decreases-with_results
decreases-with_results l = above l.term
