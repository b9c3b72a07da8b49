use Rattle.std.proofs.Common.{refl}
use Rattle.cv_syntax_trees.specs.Tree.{size}
use Rattle.cv_meaning.specs.Tapes.{written, sum_below, count, total}
use Rattle.cv_meaning.specs.Candidates.{tuples_up_to}
use Rattle.cv_meaning.specs.contexts.Sites.{bounds_above, sites_from}
use Rattle.cv_meaning.specs.contexts.Frames.{put_at}
use Rattle.cv_meaning.specs.contexts.BodyTerms.{body_value, body_values}
use Rattle.cv_meaning.specs.contexts.Finds.{picks_at, picks, picked}
use Rattle.cv_meaning.specs.contexts.Bodies.{body_answer, branch_answer, reply}
use Rattle.cv_meaning.specs.contexts.Sides.{body_cells}
use Rattle.cv_meaning.proofs.contexts.worked_names.Goals as goal

pub returns-clause-over_coin : goal.returns-clause-over_coin
unfolding size written sum_below count total tuples_up_to bounds_above sites_from put_at body_value body_values picks_at picks picked body_answer branch_answer reply body_cells
returns-clause-over_coin c = λ i t v. refl

pub returns-clause-over_key : goal.returns-clause-over_key
unfolding size written sum_below count total tuples_up_to bounds_above sites_from put_at body_value body_values picks_at picks picked body_answer branch_answer reply body_cells
returns-clause-over_key c = λ i t v. refl

pub returns-clause-coin_over_key : goal.returns-clause-coin_over_key
unfolding size written sum_below count total tuples_up_to bounds_above sites_from put_at body_value body_values picks_at picks picked body_answer branch_answer reply body_cells
returns-clause-coin_over_key c = λ i t v. refl

pub returns-clause-over_argument : goal.returns-clause-over_argument
unfolding size written sum_below count total tuples_up_to bounds_above sites_from put_at body_value body_values picks_at picks picked body_answer branch_answer reply body_cells
returns-clause-over_argument c = λ i t v. refl

pub returns-clause-in_arrays : goal.returns-clause-in_arrays
unfolding size written sum_below count total tuples_up_to bounds_above sites_from put_at body_value body_values picks_at picks picked body_answer branch_answer reply body_cells
returns-clause-in_arrays c = refl
