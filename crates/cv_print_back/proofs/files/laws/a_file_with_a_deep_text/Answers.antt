use Rattle.std.proofs.Common.{[], refl, None}
use Rattle.cv_syntax_trees.specs.Tree.{depth}
use Rattle.cv_parse_notation.specs.Reads.{read_sort}
use Rattle.cv_parse_grammar.specs.Filled.{first_site, filled_at}
use Rattle.cv_parse_grammar.specs.InOrder.{first_broken}
use Rattle.cv_parse_grammar.specs.Names.{part_from, own_from}
use Rattle.cv_parse_grammar.proofs.Outcome.{accepted_is_read}
use Rattle.cv_parse.specs.Games.{game_of}
use Rattle.cv_print_bytes.specs.terminals.Levels.{levels_of}
use Rattle.cv_print_bytes.specs.terminals.Signs.{numbered, process_signs}
use Rattle.cv_print_back.specs.files.Worked.{abreast, stops}
use Rattle.cv_print_back.proofs.files.laws.a_file_with_a_deep_text.Goals as goal

pub returns-clause-file : goal.returns-clause-file
unfolding read_sort first_site filled_at first_broken part_from own_from
returns-clause-file c = accepted_is_read (abreast 100) [] None (stops 100) refl

pub returns-clause-depth : goal.returns-clause-depth
unfolding depth
returns-clause-depth c = refl

pub returns-clause-levels : goal.returns-clause-levels
unfolding levels_of
returns-clause-levels c = refl

pub returns-clause-refused : goal.returns-clause-refused
unfolding read_sort game_of numbered process_signs
returns-clause-refused c = λ limit live. refl
