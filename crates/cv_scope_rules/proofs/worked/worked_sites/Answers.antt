use Rattle.std.proofs.Common.{refl}
use Rattle.cv_syntax.specs.faults.Walk.{first_fault}
use Rattle.cv_syntax_trees.specs.Tree.{same_tree, size}
use Rattle.cv_syntax_trees.specs.sites.Sites.{first_site, bound_sort}
use Rattle.cv_syntax_trees.specs.sites.Counting.{count}
use Rattle.cv_scope_rules.specs.Sites.{sites_from}
use Rattle.cv_scope_rules.specs.Scope.{is_untyped_in}
use Rattle.cv_scope_rules.proofs.worked.worked_sites.Goals as goal

pub returns-clause-branches : goal.returns-clause-branches
unfolding first_fault sites_from same_tree size first_site bound_sort count is_untyped_in
returns-clause-branches c = refl

pub returns-clause-below : goal.returns-clause-below
unfolding first_fault sites_from same_tree size first_site bound_sort count is_untyped_in
returns-clause-below c = refl

pub returns-clause-twice : goal.returns-clause-twice
unfolding first_fault sites_from same_tree size first_site bound_sort count is_untyped_in
returns-clause-twice c = refl

pub returns-clause-beside : goal.returns-clause-beside
unfolding first_fault sites_from same_tree size first_site bound_sort count is_untyped_in
returns-clause-beside c = refl

pub returns-clause-indices : goal.returns-clause-indices
unfolding first_fault sites_from same_tree size first_site bound_sort count is_untyped_in
returns-clause-indices c = refl

pub returns-clause-otherwise : goal.returns-clause-otherwise
unfolding first_fault sites_from same_tree size first_site bound_sort count is_untyped_in
returns-clause-otherwise c = refl

pub returns-clause-inside : goal.returns-clause-inside
unfolding first_fault sites_from same_tree size first_site bound_sort count is_untyped_in
returns-clause-inside c = refl

pub returns-clause-replicated : goal.returns-clause-replicated
unfolding first_fault sites_from same_tree size first_site bound_sort count is_untyped_in
returns-clause-replicated c = refl

pub returns-clause-labels : goal.returns-clause-labels
unfolding first_fault sites_from same_tree size first_site bound_sort count is_untyped_in
returns-clause-labels c = refl

pub returns-clause-labels_apart : goal.returns-clause-labels_apart
unfolding first_fault sites_from same_tree size first_site bound_sort count is_untyped_in
returns-clause-labels_apart c = refl
