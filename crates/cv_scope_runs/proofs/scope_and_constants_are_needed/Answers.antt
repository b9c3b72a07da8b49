use Rattle.std.proofs.Common.{◌≡◌, Option, Some, None, refl}
use Rattle.cv_syntax.specs.faults.Walk.{first_fault}
use Rattle.cv_syntax_trees.specs.Tree.{size, same_tree, reads_only}
use Rattle.cv_meaning.specs.Memory.{put}
use Rattle.cv_meaning.specs.Terms.{value}
use Rattle.cv_meaning.specs.Binders.{bound_to}
use Rattle.cv_meaning.specs.Inputs.{inputs_of}
use Rattle.cv_meaning.specs.Serving.{step, serve}
use Rattle.cv_meaning.specs.Runs.{taken, moved, run_from}
use Rattle.cv_meaning.specs.Experiments.{run, holds_on}
use Rattle.cv_meaning.specs.Correspondences.{assignments, broken}
use Rattle.cv_syntax_trees.specs.sites.Sites.{first_site, bound_sort}
use Rattle.cv_syntax_trees.specs.sites.Counting.{count}
use Rattle.cv_scope_rules.specs.Sites.{sites_from}
use Rattle.cv_scope_rules.specs.Standing.{at_root}
use Rattle.cv_scope_rules.specs.Scope.{is_untyped_in, names_of, IsScoped}
use Rattle.cv_scope_rules.specs.Worked.{constants}
use Rattle.cv_scope_rules.proofs.First.{scoped_where_none, none_where_scoped}
use Rattle.cv_scope_rules.specs.Phrases.{is_phrase, binds_none}
use Rattle.cv_scope_runs.specs.Worked.{assigned_again, constant_captured}
use Rattle.cv_scope_runs.proofs.scope_and_constants_are_needed.Goals as goal

some_none : {A : Type 0} (a : A) → ◌≡◌ {A = Option A} (Some a) None → ⊥
some_none a e = cc

unscoped : IsScoped constants assigned_again → ⊥
unfolding first_fault sites_from same_tree size first_site bound_sort count is_untyped_in
unscoped s = some_none _ (none_where_scoped (names_of constants assigned_again) at_root assigned_again s)

pub returns-clause-unscoped : goal.returns-clause-unscoped
returns-clause-unscoped c = unscoped

pub returns-clause-phrase : goal.returns-clause-phrase
unfolding is_phrase
returns-clause-phrase c = refl

pub returns-clause-unbound : goal.returns-clause-unbound
unfolding binds_none
returns-clause-unbound c = refl

pub returns-clause-broken : goal.returns-clause-broken
unfolding holds_on broken assignments run run_from moved taken serve step inputs_of bound_to value put reads_only
returns-clause-broken c = refl

pub returns-clause-captured_scope : goal.returns-clause-captured_scope
unfolding first_fault sites_from same_tree size first_site bound_sort count is_untyped_in
returns-clause-captured_scope c = scoped_where_none (names_of constants constant_captured) at_root constant_captured refl

pub returns-clause-captured_phrase : goal.returns-clause-captured_phrase
unfolding is_phrase
returns-clause-captured_phrase c = refl

pub returns-clause-captured : goal.returns-clause-captured
unfolding binds_none
returns-clause-captured c = refl

pub returns-clause-captured_broken : goal.returns-clause-captured_broken
unfolding holds_on broken assignments run run_from moved taken serve step inputs_of bound_to value put reads_only
returns-clause-captured_broken c = refl
