use Rattle.std.proofs.Common.{refl}
use Rattle.cv_syntax_trees.specs.Tree.{size}
use Rattle.cv_meaning.specs.Tapes.{written, sum_below, count, total}
use Rattle.cv_meaning.specs.Candidates.{tuples_up_to}
use Rattle.cv_meaning.specs.contexts.Sites.{bounds_above, sites_from}
use Rattle.cv_meaning.specs.contexts.Frames.{put_at}
use Rattle.cv_meaning.specs.contexts.BodyTerms.{body_value, body_values}
use Rattle.cv_meaning.specs.contexts.Finds.{picks_at, picks, picked}
use Rattle.cv_meaning.specs.contexts.Bodies.{body_answer, branch_answer, reply}
use Rattle.cv_meaning.specs.contexts.Sides.{body_cells}
use Rattle.cv_meaning.proofs.contexts.worked_finds.Goals as goal

pub returns-clause-cells : goal.returns-clause-cells
unfolding size written sum_below count total tuples_up_to bounds_above sites_from put_at body_value body_values picks_at picks picked body_answer branch_answer reply body_cells
returns-clause-cells c = λ i. refl

pub returns-clause-by_tuple : goal.returns-clause-by_tuple
unfolding size written sum_below count total tuples_up_to bounds_above sites_from put_at body_value body_values picks_at picks picked body_answer branch_answer reply body_cells
returns-clause-by_tuple c = refl

pub returns-clause-by_length : goal.returns-clause-by_length
unfolding size written sum_below count total tuples_up_to bounds_above sites_from put_at body_value body_values picks_at picks picked body_answer branch_answer reply body_cells
returns-clause-by_length c = refl

pub returns-clause-by_site : goal.returns-clause-by_site
unfolding size written sum_below count total tuples_up_to bounds_above sites_from put_at body_value body_values picks_at picks picked body_answer branch_answer reply body_cells
returns-clause-by_site c = refl

pub returns-clause-by_branch : goal.returns-clause-by_branch
unfolding size written sum_below count total tuples_up_to bounds_above sites_from put_at body_value body_values picks_at picks picked body_answer branch_answer reply body_cells
returns-clause-by_branch c = refl

pub returns-clause-each_half : goal.returns-clause-each_half
unfolding size written sum_below count total tuples_up_to bounds_above sites_from put_at body_value body_values picks_at picks picked body_answer branch_answer reply body_cells
returns-clause-each_half c = refl

pub returns-clause-alike : goal.returns-clause-alike
unfolding size written sum_below count total tuples_up_to bounds_above sites_from put_at body_value body_values picks_at picks picked body_answer branch_answer reply body_cells
returns-clause-alike c = refl

pub returns-clause-one_alone : goal.returns-clause-one_alone
unfolding size written sum_below count total tuples_up_to bounds_above sites_from put_at body_value body_values picks_at picks picked body_answer branch_answer reply body_cells
returns-clause-one_alone c = refl

pub returns-clause-itself : goal.returns-clause-itself
unfolding size written sum_below count total tuples_up_to bounds_above sites_from put_at body_value body_values picks_at picks picked body_answer branch_answer reply body_cells
returns-clause-itself c = refl

pub returns-clause-bound_or_not : goal.returns-clause-bound_or_not
unfolding size written sum_below count total tuples_up_to bounds_above sites_from put_at body_value body_values picks_at picks picked body_answer branch_answer reply body_cells
returns-clause-bound_or_not c = refl

pub returns-clause-own_cells : goal.returns-clause-own_cells
unfolding size written sum_below count total tuples_up_to bounds_above sites_from put_at body_value body_values picks_at picks picked body_answer branch_answer reply body_cells
returns-clause-own_cells c = λ i. refl

pub returns-clause-own_choices : goal.returns-clause-own_choices
unfolding size written sum_below count total tuples_up_to bounds_above sites_from put_at body_value body_values picks_at picks picked body_answer branch_answer reply body_cells
returns-clause-own_choices c = refl
