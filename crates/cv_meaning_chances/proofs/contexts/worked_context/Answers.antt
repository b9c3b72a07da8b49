use Rattle.std.proofs.Common.{refl}
use Rattle.cv_meaning.specs.Tapes.{written, sum_below, count, total}
use Rattle.cv_meaning.specs.Candidates.{tuples_up_to}
use Rattle.cv_meaning.specs.contexts.Sites.{bounds_above, sites_from}
use Rattle.cv_meaning.specs.contexts.Frames.{put_at}
use Rattle.cv_meaning.specs.contexts.BodyTerms.{body_value, body_values}
use Rattle.cv_meaning.specs.contexts.Finds.{picks_at, picks, picked}
use Rattle.cv_meaning.specs.contexts.Bodies.{body_answer, branch_answer, reply}
use Rattle.cv_meaning.specs.contexts.Sides.{body_cells}
use Rattle.cv_syntax_trees.specs.Tree.{size, reads_only}
use Rattle.cv_meaning.specs.Memory.{put}
use Rattle.cv_meaning.specs.Terms.{value, values}
use Rattle.cv_meaning.specs.Binders.{bound_to}
use Rattle.cv_meaning.specs.Inputs.{inputs_of}
use Rattle.cv_meaning.specs.Serving.{step, serve}
use Rattle.cv_meaning.specs.Runs.{taken, moved, run_from}
use Rattle.cv_meaning.specs.Cells.{tuples_below, at_each_copy, cells}
use Rattle.cv_meaning.specs.Experiments.{run, holds_on}
use Rattle.cv_meaning.specs.Correspondences.{assignments, positions, ways, can_match, broken}
use Rattle.cv_meaning.specs.Advantage.{chance_of}
use Rattle.cv_meaning_chances.proofs.contexts.worked_context.Goals as goal

pub returns-clause-forged : goal.returns-clause-forged
unfolding size reads_only written sum_below count total put value values bound_to inputs_of step serve taken moved run_from tuples_below at_each_copy cells run holds_on assignments positions ways can_match broken chance_of tuples_up_to bounds_above sites_from put_at body_value body_values picks_at picks picked body_answer branch_answer reply body_cells
returns-clause-forged c = refl

pub returns-clause-asked : goal.returns-clause-asked
unfolding size reads_only written sum_below count total put value values bound_to inputs_of step serve taken moved run_from tuples_below at_each_copy cells run holds_on assignments positions ways can_match broken chance_of tuples_up_to bounds_above sites_from put_at body_value body_values picks_at picks picked body_answer branch_answer reply body_cells
returns-clause-asked c = refl

pub returns-clause-asked_on_both : goal.returns-clause-asked_on_both
unfolding size reads_only written sum_below count total put value values bound_to inputs_of step serve taken moved run_from tuples_below at_each_copy cells run holds_on assignments positions ways can_match broken chance_of tuples_up_to bounds_above sites_from put_at body_value body_values picks_at picks picked body_answer branch_answer reply body_cells
returns-clause-asked_on_both c = refl
