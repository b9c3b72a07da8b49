use Rattle.std.proofs.Common.{refl}
use Rattle.cv_syntax_trees.specs.Tree.{reads_only, same_tree, size}
use Rattle.cv_scene.specs.lines.Given.{with_given}
use Rattle.cv_syntax_trees.specs.sites.Sites.{bound_sort, first_site}
use Rattle.cv_scope_rules.specs.typing.Signature.{names_in}
use Rattle.cv_meaning.specs.Tapes.{written, sum_below, count, total}
use Rattle.cv_meaning.specs.Candidates.{tuples_up_to}
use Rattle.cv_meaning.specs.Memory.{put}
use Rattle.cv_meaning.specs.Terms.{value, values}
use Rattle.cv_meaning.specs.Binders.{bound_to}
use Rattle.cv_meaning.specs.Inputs.{inputs_of}
use Rattle.cv_meaning.specs.Serving.{step, serve}
use Rattle.cv_meaning.specs.Runs.{taken, moved, run_from}
use Rattle.cv_meaning.specs.Cells.{tuples_below, at_each_copy, cells}
use Rattle.cv_meaning.specs.Experiments.{run, holds_on}
use Rattle.cv_meaning.specs.Correspondences.{assignments, positions, ways, can_match, broken}
use Rattle.cv_meaning.specs.Advantage.{chance_of}
use Rattle.cv_meaning.specs.contexts.Sites.{bounds_above, sites_from}
use Rattle.cv_meaning.specs.contexts.Frames.{put_at}
use Rattle.cv_meaning.specs.contexts.BodyTerms.{body_value, body_values}
use Rattle.cv_meaning.specs.contexts.Finds.{picks_at, picks, picked}
use Rattle.cv_meaning.specs.contexts.Bodies.{body_answer, branch_answer, reply}
use Rattle.cv_meaning.specs.contexts.Sides.{body_cells}
use Rattle.cv_meaning.specs.Queries.{queries_in}
use Rattle.cv_scope_rules.specs.Made.{is_bound}
use Rattle.cv_scene.specs.Scenes.{first_reading}
use Rattle.cv_scene.specs.Instances.{standing_for}
use Rattle.cv_scene.specs.Sites.{sites_in}
use Rattle.cv_scene.specs.Refusals.{definitions_in, first_in_arguments, first_in_condition, first_use, uses}
use Rattle.cv_scene.specs.Contexts.{context_in}
use Rattle.cv_context_files.proofs.worked.a_told_secret_is_counted.Goals as goal

pub returns-clause-none : goal.returns-clause-none
unfolding size same_tree with_given bound_sort first_site names_in standing_for sites_in definitions_in first_in_arguments first_in_condition first_use uses first_reading is_bound queries_in
returns-clause-none c = refl

pub returns-clause-game : goal.returns-clause-game
unfolding size reads_only written sum_below count total put value values bound_to inputs_of step serve taken moved run_from tuples_below at_each_copy cells run holds_on assignments positions ways can_match broken chance_of tuples_up_to bounds_above sites_from put_at body_value body_values picks_at picks picked body_answer branch_answer reply body_cells
returns-clause-game c = refl

pub returns-clause-left : goal.returns-clause-left
unfolding size reads_only written sum_below count total put value values bound_to inputs_of step serve taken moved run_from tuples_below at_each_copy cells run holds_on assignments positions ways can_match broken chance_of tuples_up_to bounds_above sites_from put_at body_value body_values picks_at picks picked body_answer branch_answer reply body_cells same_tree with_given bound_sort first_site names_in standing_for sites_in context_in
returns-clause-left c = refl

pub returns-clause-random : goal.returns-clause-random
unfolding size reads_only written sum_below count total put value values bound_to inputs_of step serve taken moved run_from tuples_below at_each_copy cells run holds_on assignments positions ways can_match broken chance_of tuples_up_to bounds_above sites_from put_at body_value body_values picks_at picks picked body_answer branch_answer reply body_cells
returns-clause-random c = refl

pub returns-clause-random_left : goal.returns-clause-random_left
unfolding size reads_only written sum_below count total put value values bound_to inputs_of step serve taken moved run_from tuples_below at_each_copy cells run holds_on assignments positions ways can_match broken chance_of tuples_up_to bounds_above sites_from put_at body_value body_values picks_at picks picked body_answer branch_answer reply body_cells same_tree with_given bound_sort first_site names_in standing_for sites_in context_in
returns-clause-random_left c = refl
