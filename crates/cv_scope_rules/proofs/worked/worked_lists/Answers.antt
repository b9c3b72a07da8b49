use Rattle.std.proofs.Common.{refl}
use Rattle.cv_syntax.specs.faults.Walk.{first_fault}
use Rattle.cv_syntax_trees.specs.Tree.{same_tree, size}
use Rattle.cv_syntax_trees.specs.sites.Sites.{first_site, bound_sort}
use Rattle.cv_syntax_trees.specs.sites.Counting.{count}
use Rattle.cv_scope_rules.specs.Sites.{sites_from}
use Rattle.cv_scope_rules.specs.Scope.{is_untyped_in}
use Rattle.cv_scope_rules.proofs.worked.worked_lists.Goals as goal

pub returns-clause-earlier : goal.returns-clause-earlier
unfolding first_fault sites_from same_tree size first_site bound_sort count is_untyped_in
returns-clause-earlier c = refl

pub returns-clause-later : goal.returns-clause-later
unfolding first_fault sites_from same_tree size first_site bound_sort count is_untyped_in
returns-clause-later c = refl

pub returns-clause-tested : goal.returns-clause-tested
unfolding first_fault sites_from same_tree size first_site bound_sort count is_untyped_in
returns-clause-tested c = refl

pub returns-clause-condition : goal.returns-clause-condition
unfolding first_fault sites_from same_tree size first_site bound_sort count is_untyped_in
returns-clause-condition c = refl

pub returns-clause-no_list : goal.returns-clause-no_list
unfolding first_fault sites_from same_tree size first_site bound_sort count is_untyped_in
returns-clause-no_list c = refl

pub returns-clause-otherwise : goal.returns-clause-otherwise
unfolding first_fault sites_from same_tree size first_site bound_sort count is_untyped_in
returns-clause-otherwise c = refl

pub returns-clause-own : goal.returns-clause-own
unfolding first_fault sites_from same_tree size first_site bound_sort count is_untyped_in
returns-clause-own c = refl

pub returns-clause-not_own : goal.returns-clause-not_own
unfolding first_fault sites_from same_tree size first_site bound_sort count is_untyped_in
returns-clause-not_own c = refl
