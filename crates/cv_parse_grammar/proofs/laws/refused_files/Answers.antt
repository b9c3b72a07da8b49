use Rattle.std.proofs.Common.{refl}
use Rattle.cv_parse_notation.specs.Reads.{read_sort}
use Rattle.cv_parse_grammar.specs.InOrder.{first_broken}
use Rattle.cv_parse_grammar.specs.Names.{part_from, own_from}
use Rattle.cv_parse_grammar.proofs.laws.refused_files.Goals as goal

pub returns-clause-reserved : goal.returns-clause-reserved
unfolding read_sort
returns-clause-reserved c = refl

pub returns-clause-repeated : goal.returns-clause-repeated
unfolding read_sort first_broken part_from own_from
returns-clause-repeated c = refl

pub returns-clause-unknown : goal.returns-clause-unknown
unfolding read_sort first_broken part_from own_from
returns-clause-unknown c = refl

pub returns-clause-later : goal.returns-clause-later
unfolding read_sort first_broken part_from own_from
returns-clause-later c = refl

pub returns-clause-nested : goal.returns-clause-nested
unfolding read_sort first_broken part_from own_from
returns-clause-nested c = refl

pub returns-clause-local_first : goal.returns-clause-local_first
unfolding read_sort first_broken part_from own_from
returns-clause-local_first c = refl

pub returns-clause-unbound : goal.returns-clause-unbound
unfolding read_sort first_broken part_from own_from
returns-clause-unbound c = refl

pub returns-clause-bound_first : goal.returns-clause-bound_first
unfolding read_sort first_broken part_from own_from
returns-clause-bound_first c = refl
