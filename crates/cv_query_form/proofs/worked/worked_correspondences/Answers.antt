use Rattle.std.proofs.Common.{refl}
use Rattle.cv_syntax_trees.specs.sites.Sites.{first_site, bound_sort}
use Rattle.cv_query_form.specs.Tests.{are_distinct, count_of, is_left_event, passes, some_is_marked}
use Rattle.cv_query_form.proofs.worked.worked_correspondences.Goals as goal

pub returns-clause-distinct : goal.returns-clause-distinct
unfolding are_distinct count_of is_left_event some_is_marked passes first_site bound_sort
returns-clause-distinct c = refl

pub returns-clause-no_argument : goal.returns-clause-no_argument
unfolding are_distinct count_of is_left_event some_is_marked passes first_site bound_sort
returns-clause-no_argument c = refl

pub returns-clause-repeated : goal.returns-clause-repeated
unfolding are_distinct count_of is_left_event some_is_marked passes first_site bound_sort
returns-clause-repeated c = refl

pub returns-clause-constant : goal.returns-clause-constant
unfolding are_distinct count_of is_left_event some_is_marked passes first_site bound_sort
returns-clause-constant c = refl

pub returns-clause-applied : goal.returns-clause-applied
unfolding are_distinct count_of is_left_event some_is_marked passes first_site bound_sort
returns-clause-applied c = refl

pub returns-clause-both : goal.returns-clause-both
unfolding are_distinct count_of is_left_event some_is_marked passes first_site bound_sort
returns-clause-both c = refl

pub returns-clause-left_alone : goal.returns-clause-left_alone
unfolding are_distinct count_of is_left_event some_is_marked passes first_site bound_sort
returns-clause-left_alone c = refl

pub returns-clause-right_alone : goal.returns-clause-right_alone
unfolding are_distinct count_of is_left_event some_is_marked passes first_site bound_sort
returns-clause-right_alone c = refl

pub returns-clause-some_marked : goal.returns-clause-some_marked
unfolding are_distinct count_of is_left_event some_is_marked passes first_site bound_sort
returns-clause-some_marked c = refl

pub returns-clause-term_alone : goal.returns-clause-term_alone
unfolding are_distinct count_of is_left_event some_is_marked passes first_site bound_sort
returns-clause-term_alone c = refl
