use Rattle.std.proofs.Common.{refl}
use Rattle.cv_syntax_trees.specs.sites.Sites.{first_site, bound_sort}
use Rattle.cv_query_form.specs.Tests.{are_distinct, count_of, first_refused, is_left_event, passes, some_is_marked}
use Rattle.cv_query_form.proofs.worked.worked_secrets.Goals as goal

pub returns-clause-nonce : goal.returns-clause-nonce
unfolding are_distinct count_of is_left_event some_is_marked passes first_site bound_sort first_refused
returns-clause-nonce c = refl

pub returns-clause-once : goal.returns-clause-once
unfolding are_distinct count_of is_left_event some_is_marked passes first_site bound_sort first_refused
returns-clause-once c = refl

pub returns-clause-received : goal.returns-clause-received
unfolding are_distinct count_of is_left_event some_is_marked passes first_site bound_sort first_refused
returns-clause-received c = refl

pub returns-clause-index : goal.returns-clause-index
unfolding are_distinct count_of is_left_event some_is_marked passes first_site bound_sort first_refused
returns-clause-index c = refl

pub returns-clause-unknown : goal.returns-clause-unknown
unfolding are_distinct count_of is_left_event some_is_marked passes first_site bound_sort first_refused
returns-clause-unknown c = refl

pub returns-clause-no_query : goal.returns-clause-no_query
unfolding are_distinct count_of is_left_event some_is_marked passes first_site bound_sort first_refused
returns-clause-no_query c = refl

pub returns-clause-none : goal.returns-clause-none
unfolding are_distinct count_of is_left_event some_is_marked passes first_site bound_sort first_refused
returns-clause-none c = refl

pub returns-clause-all : goal.returns-clause-all
unfolding are_distinct count_of is_left_event some_is_marked passes first_site bound_sort first_refused
returns-clause-all c = refl

pub returns-clause-first : goal.returns-clause-first
unfolding are_distinct count_of is_left_event some_is_marked passes first_site bound_sort first_refused
returns-clause-first c = refl

pub returns-clause-second : goal.returns-clause-second
unfolding are_distinct count_of is_left_event some_is_marked passes first_site bound_sort first_refused
returns-clause-second c = refl
