use Rattle.cv_syntax.specs.Walks.{above}
use Rattle.cv_rule_birthday.proofs.equations.+add_equations.Given as goal

abbrev pub decreases-add_equations : goal.decreases-add_equations
decreases-add_equations l = above l.left
