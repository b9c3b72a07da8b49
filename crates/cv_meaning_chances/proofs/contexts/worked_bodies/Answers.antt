use Rattle.std.proofs.Common.{refl}
use Rattle.cv_syntax_trees.specs.Tree.{size}
use Rattle.cv_meaning.specs.Tapes.{written, sum_below, count, total}
use Rattle.cv_meaning.specs.Candidates.{tuples_up_to}
use Rattle.cv_meaning.specs.contexts.Sites.{bounds_above, sites_from}
use Rattle.cv_meaning.specs.contexts.Frames.{put_at}
use Rattle.cv_meaning.specs.contexts.BodyTerms.{body_value, body_values}
use Rattle.cv_meaning.specs.contexts.Finds.{picks_at, picks, picked}
use Rattle.cv_meaning.specs.contexts.Bodies.{body_answer, branch_answer, reply}
use Rattle.cv_meaning.specs.contexts.Sides.{body_cells}
use Rattle.cv_meaning_chances.proofs.contexts.worked_bodies.Goals as goal

pub returns-clause-bound_twice : goal.returns-clause-bound_twice
unfolding size written sum_below count total tuples_up_to bounds_above sites_from put_at body_value body_values picks_at picks picked body_answer branch_answer reply body_cells
returns-clause-bound_twice c = refl

pub returns-clause-constant : goal.returns-clause-constant
unfolding size written sum_below count total tuples_up_to bounds_above sites_from put_at body_value body_values picks_at picks picked body_answer branch_answer reply body_cells
returns-clause-constant c = λ i. refl
