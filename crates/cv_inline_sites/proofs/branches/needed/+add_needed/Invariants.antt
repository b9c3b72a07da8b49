use Rattle.cv_syntax.specs.Walks.{above}
use Rattle.cv_inline_sites.proofs.branches.needed.+add_needed.Given as goal

abbrev pub decreases-add_needed : goal.decreases-add_needed
decreases-add_needed l = above l.term
