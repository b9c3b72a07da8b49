use Rattle.std.proofs.Common.{refl}
use Rattle.cv_syntax_trees.specs.Tree.{size, reads_only}
use Rattle.cv_meaning.specs.Tapes.{written, sum_below, count, total}
use Rattle.cv_meaning.specs.Memory.{put}
use Rattle.cv_meaning.specs.Terms.{value, values}
use Rattle.cv_meaning.specs.Binders.{bound_to}
use Rattle.cv_meaning.specs.Candidates.{tuples_up_to, candidates_at, candidates, chosen}
use Rattle.cv_meaning.specs.Inputs.{inputs_of}
use Rattle.cv_meaning.specs.Queries.{queries_in}
use Rattle.cv_meaning.specs.Serving.{step, serve}
use Rattle.cv_meaning.specs.Runs.{taken, moved, run_from}
use Rattle.cv_meaning.specs.Cells.{tuples_below, at_each_copy, cells}
use Rattle.cv_meaning.specs.Experiments.{run, holds_on}
use Rattle.cv_meaning.specs.Correspondences.{assignments, positions, ways, can_match, broken}
use Rattle.cv_meaning.specs.Advantage.{chance_of}
use Rattle.cv_scope_rules.specs.Made.{is_bound}
use Rattle.cv_scene.specs.Scenes.{has_some_new}
use Rattle.cv_query_certificates.specs.Secrets.{first_definition_but, first_other_read, sources}
use Rattle.cv_query_secrets.proofs.unread.worked_secrets.Goals as goal

pub returns-clause-chosen : goal.returns-clause-chosen
unfolding first_definition_but first_other_read sources size has_some_new queries_in is_bound
returns-clause-chosen c = record { chosen = refl; unread = refl }

pub returns-clause-copied : goal.returns-clause-copied
unfolding first_definition_but first_other_read sources size has_some_new queries_in is_bound
returns-clause-copied c = record { copies = refl; unread = refl }

pub returns-clause-one : goal.returns-clause-one
unfolding size reads_only written sum_below count total put value values bound_to tuples_up_to candidates_at candidates chosen inputs_of step serve taken moved run_from tuples_below at_each_copy cells run holds_on assignments positions ways can_match broken chance_of
returns-clause-one c = refl

pub returns-clause-many : goal.returns-clause-many
unfolding size reads_only written sum_below count total put value values bound_to tuples_up_to candidates_at candidates chosen inputs_of step serve taken moved run_from tuples_below at_each_copy cells run holds_on assignments positions ways can_match broken chance_of
returns-clause-many c = refl
