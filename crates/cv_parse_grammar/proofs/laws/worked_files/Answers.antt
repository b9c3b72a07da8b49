use Rattle.std.proofs.Common.{[], refl, Some, None}
use Rattle.cv_syntax_trees.specs.Tree.{lone}
use Rattle.cv_syntax_trees.specs.declared.head.Head.TheVariants.{Stop}
use Rattle.cv_parse_notation.specs.Reads.{read_sort}
use Rattle.cv_parse_grammar.specs.Expected.{declared, equated, tested, testing, searched, searching, arrayed, arraying}
use Rattle.cv_parse_grammar.specs.Filled.{first_site, filled_at}
use Rattle.cv_parse_grammar.specs.InOrder.{first_broken}
use Rattle.cv_parse_grammar.specs.Names.{part_from, own_from}
use Rattle.cv_parse_grammar.specs.Worked.{declarations, equivalences, tests, searches, arrays, nested}
use Rattle.cv_parse_grammar.proofs.Outcome.{accepted_is_read}
use Rattle.cv_parse_grammar.proofs.laws.worked_files.Goals as goal

pub returns-clause-declarations : goal.returns-clause-declarations
unfolding read_sort first_site filled_at first_broken part_from own_from
returns-clause-declarations c = accepted_is_read declarations declared None (lone Stop) refl

pub returns-clause-equivalences : goal.returns-clause-equivalences
unfolding read_sort first_site filled_at first_broken part_from own_from
returns-clause-equivalences c = accepted_is_read equivalences equated None (lone Stop) refl

pub returns-clause-tests : goal.returns-clause-tests
unfolding read_sort first_site filled_at first_broken part_from own_from
returns-clause-tests c = accepted_is_read tests tested None testing refl

pub returns-clause-searches : goal.returns-clause-searches
unfolding read_sort first_site filled_at first_broken part_from own_from
returns-clause-searches c = accepted_is_read searches searched (Some (72, 67)) searching refl

pub returns-clause-arrays : goal.returns-clause-arrays
unfolding read_sort first_site filled_at first_broken part_from own_from
returns-clause-arrays c = accepted_is_read arrays arrayed None arraying refl

pub returns-clause-nested : goal.returns-clause-nested
unfolding read_sort first_site filled_at first_broken part_from own_from
returns-clause-nested c = accepted_is_read (nested 199) [] None (lone Stop) refl
