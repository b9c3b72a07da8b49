use Rattle.std.proofs.Common.{refl}
use Rattle.cv_syntax.specs.faults.Walk.{first_fault}
use Rattle.cv_syntax_trees.specs.Tree.{same_tree, size}
use Rattle.cv_syntax_trees.specs.sites.Sites.{first_site, bound_sort}
use Rattle.cv_syntax_trees.specs.sites.Counting.{count}
use Rattle.cv_scope_rules.specs.Sites.{sites_from}
use Rattle.cv_scope_rules.specs.Scope.{is_untyped_in}
use Rattle.cv_scope_rules.proofs.worked.worked_reads.Goals as goal

pub returns-clause-alone : goal.returns-clause-alone
unfolding first_fault sites_from same_tree size first_site bound_sort count is_untyped_in
returns-clause-alone c = refl

pub returns-clause-listed : goal.returns-clause-listed
unfolding first_fault sites_from same_tree size first_site bound_sort count is_untyped_in
returns-clause-listed c = refl

pub returns-clause-unlisted : goal.returns-clause-unlisted
unfolding first_fault sites_from same_tree size first_site bound_sort count is_untyped_in
returns-clause-unlisted c = refl

pub returns-clause-undefined : goal.returns-clause-undefined
unfolding first_fault sites_from same_tree size first_site bound_sort count is_untyped_in
returns-clause-undefined c = refl

pub returns-clause-defined : goal.returns-clause-defined
unfolding first_fault sites_from same_tree size first_site bound_sort count is_untyped_in
returns-clause-defined c = refl

pub returns-clause-itself : goal.returns-clause-itself
unfolding first_fault sites_from same_tree size first_site bound_sort count is_untyped_in
returns-clause-itself c = refl

pub returns-clause-received : goal.returns-clause-received
unfolding first_fault sites_from same_tree size first_site bound_sort count is_untyped_in
returns-clause-received c = refl

pub returns-clause-constant : goal.returns-clause-constant
unfolding first_fault sites_from same_tree size first_site bound_sort count is_untyped_in
returns-clause-constant c = refl

pub returns-clause-undeclared : goal.returns-clause-undeclared
unfolding first_fault sites_from same_tree size first_site bound_sort count is_untyped_in
returns-clause-undeclared c = refl

pub returns-clause-current : goal.returns-clause-current
unfolding first_fault sites_from same_tree size first_site bound_sort count is_untyped_in
returns-clause-current c = refl

pub returns-clause-past : goal.returns-clause-past
unfolding first_fault sites_from same_tree size first_site bound_sort count is_untyped_in
returns-clause-past c = refl

pub returns-clause-other : goal.returns-clause-other
unfolding first_fault sites_from same_tree size first_site bound_sort count is_untyped_in
returns-clause-other c = refl

pub returns-clause-ordered : goal.returns-clause-ordered
unfolding first_fault sites_from same_tree size first_site bound_sort count is_untyped_in
returns-clause-ordered c = refl

pub returns-clause-swapped : goal.returns-clause-swapped
unfolding first_fault sites_from same_tree size first_site bound_sort count is_untyped_in
returns-clause-swapped c = refl
