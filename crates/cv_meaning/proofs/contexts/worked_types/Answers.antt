use Rattle.std.proofs.Common.{refl}
use Rattle.cv_syntax_trees.specs.Tree.{size}
use Rattle.cv_meaning.specs.Tapes.{written, sum_below, count, total}
use Rattle.cv_meaning.specs.Candidates.{tuples_up_to}
use Rattle.cv_meaning.specs.contexts.Sites.{bounds_above, sites_from}
use Rattle.cv_meaning.specs.contexts.Frames.{put_at}
use Rattle.cv_meaning.specs.contexts.BodyTerms.{body_value, body_values}
use Rattle.cv_meaning.specs.contexts.Finds.{picks_at, picks, picked}
use Rattle.cv_meaning.specs.contexts.Bodies.{body_answer, branch_answer, reply}
use Rattle.cv_meaning.specs.contexts.Sides.{body_cells}
use Rattle.cv_meaning.proofs.contexts.worked_types.Goals as goal

pub returns-clause-shared : goal.returns-clause-shared
unfolding size written sum_below count total tuples_up_to bounds_above sites_from put_at body_value body_values picks_at picks picked body_answer branch_answer reply body_cells
returns-clause-shared c = λ i. refl

pub returns-clause-two_types : goal.returns-clause-two_types
unfolding size written sum_below count total tuples_up_to bounds_above sites_from put_at body_value body_values picks_at picks picked body_answer branch_answer reply body_cells
returns-clause-two_types c = λ i. refl

pub returns-clause-chosen_on_none : goal.returns-clause-chosen_on_none
unfolding size written sum_below count total tuples_up_to bounds_above sites_from put_at body_value body_values picks_at picks picked body_answer branch_answer reply body_cells
returns-clause-chosen_on_none c = refl

pub returns-clause-chosen_on_one : goal.returns-clause-chosen_on_one
unfolding size written sum_below count total tuples_up_to bounds_above sites_from put_at body_value body_values picks_at picks picked body_answer branch_answer reply body_cells
returns-clause-chosen_on_one c = refl
