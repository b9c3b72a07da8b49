use Rattle.std.proofs.Common.{refl}
use Rattle.cv_syntax.specs.faults.Walk.{first_fault}
use Rattle.cv_syntax_trees.specs.Tree.{same_tree, size}
use Rattle.cv_syntax_trees.specs.sites.Sites.{first_site, bound_sort}
use Rattle.cv_syntax_trees.specs.sites.Counting.{count}
use Rattle.cv_scope_rules.specs.Sites.{sites_from}
use Rattle.cv_scope_rules.specs.Scope.{is_untyped_in}
use Rattle.cv_scope_rules.proofs.worked.worked_channels.Goals as goal

pub returns-clause-forgotten : goal.returns-clause-forgotten
unfolding first_fault sites_from same_tree size first_site bound_sort count is_untyped_in
returns-clause-forgotten c = refl

pub returns-clause-sent : goal.returns-clause-sent
unfolding first_fault sites_from same_tree size first_site bound_sort count is_untyped_in
returns-clause-sent c = refl

pub returns-clause-swapped : goal.returns-clause-swapped
unfolding first_fault sites_from same_tree size first_site bound_sort count is_untyped_in
returns-clause-swapped c = refl

pub returns-clause-beside : goal.returns-clause-beside
unfolding first_fault sites_from same_tree size first_site bound_sort count is_untyped_in
returns-clause-beside c = refl

pub returns-clause-branches : goal.returns-clause-branches
unfolding first_fault sites_from same_tree size first_site bound_sort count is_untyped_in
returns-clause-branches c = refl

pub returns-clause-types : goal.returns-clause-types
unfolding first_fault sites_from same_tree size first_site bound_sort count is_untyped_in
returns-clause-types c = refl
