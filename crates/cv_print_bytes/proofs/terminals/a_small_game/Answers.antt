use Rattle.std.proofs.Common.{refl}
use Rattle.cv_parse_notation.specs.Reads.{read_sort}
use Rattle.cv_scope_rules.specs.Phrases.{is_phrase}
use Rattle.cv_print_bytes.specs.terminals.Levels.{levels_of, term_levels}
use Rattle.cv_print_bytes.specs.terminals.Signs.{entries_signs, numbered, process_signs, term_signs}
use Rattle.cv_print_bytes.specs.terminals.Told.{cells_told, entries_told, process_told, signs_in, term_told, uses_in}
use Rattle.cv_print_bytes.specs.terminals.Written.{has_parameters, is_written}
use Rattle.cv_print_bytes.proofs.terminals.a_small_game.Goals as goal

pub returns-clause-written : goal.returns-clause-written
unfolding is_phrase is_written has_parameters
returns-clause-written c = record { phrase = refl; words = refl }

pub returns-clause-signs : goal.returns-clause-signs
unfolding entries_signs numbered process_signs term_signs
returns-clause-signs c = refl

pub returns-clause-levels : goal.returns-clause-levels
unfolding levels_of term_levels
returns-clause-levels c = refl

pub returns-clause-read : goal.returns-clause-read
unfolding read_sort cells_told entries_told process_told signs_in term_told uses_in
returns-clause-read c = refl

pub returns-clause-fewer : goal.returns-clause-fewer
unfolding read_sort
returns-clause-fewer c = refl
