use Rattle.std.proofs.Common.{refl}
use Rattle.cv_syntax.specs.faults.Walk.{first_fault}
use Rattle.cv_syntax_trees.specs.Tree.{same_tree, size}
use Rattle.cv_syntax_trees.specs.sites.Sites.{first_site, bound_sort}
use Rattle.cv_syntax_trees.specs.sites.Counting.{count}
use Rattle.cv_scope_rules.specs.Sites.{sites_from}
use Rattle.cv_scope_rules.specs.Scope.{is_untyped_in}
use Rattle.cv_scope_rules.proofs.worked.worked_replications.Goals as goal

pub returns-clause-eight : goal.returns-clause-eight
unfolding first_fault sites_from same_tree size first_site bound_sort count is_untyped_in
returns-clause-eight c = refl

pub returns-clause-nine : goal.returns-clause-nine
unfolding first_fault sites_from same_tree size first_site bound_sort count is_untyped_in
returns-clause-nine c = refl

pub returns-clause-again : goal.returns-clause-again
unfolding first_fault sites_from same_tree size first_site bound_sort count is_untyped_in
returns-clause-again c = refl

pub returns-clause-beside : goal.returns-clause-beside
unfolding first_fault sites_from same_tree size first_site bound_sort count is_untyped_in
returns-clause-beside c = refl

pub returns-clause-variable : goal.returns-clause-variable
unfolding first_fault sites_from same_tree size first_site bound_sort count is_untyped_in
returns-clause-variable c = refl

pub returns-clause-many_indices : goal.returns-clause-many_indices
unfolding first_fault sites_from same_tree size first_site bound_sort count is_untyped_in
returns-clause-many_indices c = refl

pub returns-clause-first : goal.returns-clause-first
unfolding first_fault sites_from same_tree size first_site bound_sort count is_untyped_in
returns-clause-first c = refl
