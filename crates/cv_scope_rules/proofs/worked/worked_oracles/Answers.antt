use Rattle.std.proofs.Common.{refl}
use Rattle.cv_syntax.specs.faults.Walk.{first_fault}
use Rattle.cv_syntax_trees.specs.Tree.{same_tree, size}
use Rattle.cv_syntax_trees.specs.sites.Sites.{first_site, bound_sort}
use Rattle.cv_syntax_trees.specs.sites.Counting.{count}
use Rattle.cv_scope_rules.specs.Sites.{sites_from}
use Rattle.cv_scope_rules.specs.Scope.{is_untyped_in}
use Rattle.cv_scope_rules.proofs.worked.worked_oracles.Goals as goal

pub returns-clause-called : goal.returns-clause-called
unfolding first_fault sites_from same_tree size first_site bound_sort count is_untyped_in
returns-clause-called c = refl

pub returns-clause-unkeyed : goal.returns-clause-unkeyed
unfolding first_fault sites_from same_tree size first_site bound_sort count is_untyped_in
returns-clause-unkeyed c = refl

pub returns-clause-itself : goal.returns-clause-itself
unfolding first_fault sites_from same_tree size first_site bound_sort count is_untyped_in
returns-clause-itself c = refl

pub returns-clause-keyed_twice : goal.returns-clause-keyed_twice
unfolding first_fault sites_from same_tree size first_site bound_sort count is_untyped_in
returns-clause-keyed_twice c = refl

pub returns-clause-called_twice : goal.returns-clause-called_twice
unfolding first_fault sites_from same_tree size first_site bound_sort count is_untyped_in
returns-clause-called_twice c = refl

pub returns-clause-branches : goal.returns-clause-branches
unfolding first_fault sites_from same_tree size first_site bound_sort count is_untyped_in
returns-clause-branches c = refl

pub returns-clause-index : goal.returns-clause-index
unfolding first_fault sites_from same_tree size first_site bound_sort count is_untyped_in
returns-clause-index c = refl
