use Rattle.std.proofs.Common.{refl}
use Rattle.cv_syntax_trees.specs.sites.Sites.{first_site, bound_sort}
use Rattle.cv_query_form.specs.Tests.{are_distinct, count_of, first_refused, is_left_event, passes, some_is_marked}
use Rattle.cv_query_form.proofs.worked.worked_alternatives.Goals as goal

pub returns-clause-one_marked : goal.returns-clause-one_marked
unfolding are_distinct count_of is_left_event some_is_marked passes first_site bound_sort first_refused
returns-clause-one_marked c = refl

pub returns-clause-marked_within : goal.returns-clause-marked_within
unfolding are_distinct count_of is_left_event some_is_marked passes first_site bound_sort first_refused
returns-clause-marked_within c = refl

pub returns-clause-none_marked : goal.returns-clause-none_marked
unfolding are_distinct count_of is_left_event some_is_marked passes first_site bound_sort first_refused
returns-clause-none_marked c = refl

pub returns-clause-right_alone : goal.returns-clause-right_alone
unfolding are_distinct count_of is_left_event some_is_marked passes first_site bound_sort first_refused
returns-clause-right_alone c = refl

pub returns-clause-most : goal.returns-clause-most
unfolding are_distinct count_of is_left_event some_is_marked passes first_site bound_sort first_refused
returns-clause-most c = refl

pub returns-clause-too_many : goal.returns-clause-too_many
unfolding are_distinct count_of is_left_event some_is_marked passes first_site bound_sort first_refused
returns-clause-too_many c = refl

pub returns-clause-most_multiplied : goal.returns-clause-most_multiplied
unfolding are_distinct count_of is_left_event some_is_marked passes first_site bound_sort first_refused
returns-clause-most_multiplied c = refl

pub returns-clause-too_many_multiplied : goal.returns-clause-too_many_multiplied
unfolding are_distinct count_of is_left_event some_is_marked passes first_site bound_sort first_refused
returns-clause-too_many_multiplied c = refl

pub returns-clause-far_too_many : goal.returns-clause-far_too_many
unfolding are_distinct count_of is_left_event some_is_marked passes first_site bound_sort first_refused
returns-clause-far_too_many c = refl

pub returns-clause-refused : goal.returns-clause-refused
unfolding are_distinct count_of is_left_event some_is_marked passes first_site bound_sort first_refused
returns-clause-refused c = refl
