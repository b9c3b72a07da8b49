use Rattle.std.proofs.Common.{refl}
use Rattle.cv_syntax_trees.specs.Tree.{size, reads_only}
use Rattle.cv_meaning.specs.Tapes.{written, sum_below, count, total}
use Rattle.cv_meaning.specs.Memory.{put}
use Rattle.cv_meaning.specs.Terms.{value, values}
use Rattle.cv_meaning.specs.Binders.{bound_to}
use Rattle.cv_meaning.specs.Candidates.{tuples_up_to, candidates_at, candidates, chosen}
use Rattle.cv_meaning.specs.Inputs.{inputs_of}
use Rattle.cv_meaning.specs.Serving.{step, serve}
use Rattle.cv_meaning.specs.Runs.{taken, moved, run_from}
use Rattle.cv_meaning.specs.Cells.{tuples_below, at_each_copy, cells}
use Rattle.cv_meaning.specs.Experiments.{run, holds_on}
use Rattle.cv_meaning.specs.Correspondences.{assignments, positions, ways, can_match, broken}
use Rattle.cv_meaning.specs.Advantage.{chance_of}
use Rattle.cv_meaning_laws.proofs.worked_alternatives.Goals as goal

pub returns-clause-either : goal.returns-clause-either
returns-clause-either c = refl

pub returns-clause-both : goal.returns-clause-both
returns-clause-both c = refl

pub returns-clause-first_way : goal.returns-clause-first_way
unfolding size reads_only written sum_below count total put value values bound_to tuples_up_to candidates_at candidates chosen inputs_of step serve taken moved run_from tuples_below at_each_copy cells run holds_on assignments positions ways can_match broken chance_of
returns-clause-first_way c = refl

pub returns-clause-second_way : goal.returns-clause-second_way
unfolding size reads_only written sum_below count total put value values bound_to tuples_up_to candidates_at candidates chosen inputs_of step serve taken moved run_from tuples_below at_each_copy cells run holds_on assignments positions ways can_match broken chance_of
returns-clause-second_way c = refl

pub returns-clause-missing : goal.returns-clause-missing
unfolding size reads_only written sum_below count total put value values bound_to tuples_up_to candidates_at candidates chosen inputs_of step serve taken moved run_from tuples_below at_each_copy cells run holds_on assignments positions ways can_match broken chance_of
returns-clause-missing c = refl

pub returns-clause-first_injective : goal.returns-clause-first_injective
unfolding size reads_only written sum_below count total put value values bound_to tuples_up_to candidates_at candidates chosen inputs_of step serve taken moved run_from tuples_below at_each_copy cells run holds_on assignments positions ways can_match broken chance_of
returns-clause-first_injective c = refl

pub returns-clause-second_injective : goal.returns-clause-second_injective
unfolding size reads_only written sum_below count total put value values bound_to tuples_up_to candidates_at candidates chosen inputs_of step serve taken moved run_from tuples_below at_each_copy cells run holds_on assignments positions ways can_match broken chance_of
returns-clause-second_injective c = refl

pub returns-clause-shared : goal.returns-clause-shared
unfolding reads_only value values assignments positions ways can_match broken
returns-clause-shared c = refl

pub returns-clause-by_number : goal.returns-clause-by_number
unfolding reads_only value values assignments positions ways can_match broken
returns-clause-by_number c = refl
