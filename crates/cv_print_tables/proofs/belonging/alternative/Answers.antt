use Rattle.cv_print_tables.proofs.belonging.alternative.Goals as goal

pub returns-in-OneOf-clause-some : goal.returns-in-OneOf-clause-some
returns-in-OneOf-clause-some c = rw c.in-OneOf.is c.chosen.ensures.some

pub returns-in-OneOf-clause-none : goal.returns-in-OneOf-clause-none
returns-in-OneOf-clause-none c = rw c.in-OneOf.is c.chosen.ensures.none
