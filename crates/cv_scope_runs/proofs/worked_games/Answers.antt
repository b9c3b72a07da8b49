use Rattle.std.proofs.Common.{◌≡◌, false, [], ◌∷◌, refl}
use Rattle.std.proofs.lemmas.Bool.{both_ways}
use Rattle.cv_syntax.specs.faults.Walk.{first_fault}
use Rattle.cv_syntax_trees.specs.Tree.{size, same_tree}
use Rattle.cv_syntax_trees.specs.sites.Sites.{first_site, bound_sort}
use Rattle.cv_syntax_trees.specs.sites.Counting.{count}
use Rattle.cv_scope_rules.specs.Sites.{sites_from}
use Rattle.cv_scope_rules.specs.Standing.{at_root}
use Rattle.cv_scope_rules.specs.Scope.{is_untyped_in, names_of}
use Rattle.cv_scope_rules.specs.Worked.{cell_found, constants, finds}
use Rattle.cv_scope_rules.proofs.First.{scoped_where_none}
use Rattle.cv_scope_rules.specs.Phrases.{Inputs, is_phrase, is_oracle_phrase, binds_none, IsWellFormed}
use Rattle.cv_scope_runs.specs.Worked.{keyed, sessions, told}
use Rattle.cv_scope_runs.proofs.worked_games.Goals as goal

well : IsWellFormed [] sessions
unfolding first_fault sites_from same_tree size first_site bound_sort count is_untyped_in is_phrase binds_none
well = record { scoped = scoped_where_none (names_of [] sessions) at_root sessions refl; phrase = refl; constants = refl }

pub returns-clause-sessions : goal.returns-clause-sessions
returns-clause-sessions c = well

pub returns-clause-found : goal.returns-clause-found
unfolding first_fault sites_from same_tree size first_site bound_sort count is_untyped_in is_phrase binds_none
returns-clause-found c = let game = finds (cell_found ∷ []) in record { scoped = scoped_where_none (names_of [] game) at_root game refl; phrase = refl; constants = refl }

told_well : IsWellFormed constants told
unfolding first_fault sites_from same_tree size first_site bound_sort count is_untyped_in is_phrase binds_none
told_well = record { scoped = scoped_where_none (names_of constants told) at_root told refl; phrase = refl; constants = refl }

pub returns-clause-context : goal.returns-clause-context
unfolding first_fault sites_from same_tree size first_site bound_sort count is_untyped_in is_oracle_phrase binds_none
returns-clause-context c = record { scoped = scoped_where_none (names_of [] keyed) at_root keyed refl; phrase = refl; constants = refl }

no_game : is_phrase Inputs keyed ≡ false
unfolding is_phrase
no_game = refl

pub returns-clause-no_game : goal.returns-clause-no_game
returns-clause-no_game c = λ w. both_ways (is_phrase Inputs keyed) no_game w.phrase

pub returns-clause-terms : goal.returns-clause-terms
returns-clause-terms c = told_well
