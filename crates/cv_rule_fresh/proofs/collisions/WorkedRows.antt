-- The rows in small games are those that are said.
use Rattle.std.proofs.Common.{◌≡◌, refl}
use Rattle.std.specs.List.{AllByRecursion}
use Rattle.cv_syntax.specs.faults.Walk.{first_fault}
use Rattle.cv_syntax_trees.specs.Tree.{same_tree, size, subtree}
use Rattle.cv_meaning.specs.Replaced.{replaced}
use Rattle.cv_syntax_trees.specs.sites.Counting.{count}
use Rattle.cv_syntax_trees.specs.sites.Sites.{bound_sort, first_site, is_untyped_in}
use Rattle.cv_scope_rules.specs.Context.{context_at}
use Rattle.cv_scope_rules.specs.Phrases.{IsWellFormed, binds_none, is_phrase}
use Rattle.cv_scope_rules.specs.Scope.{names_of}
use Rattle.cv_scope_rules.specs.Sites.{sites_from}
use Rattle.cv_scope_rules.specs.Standing.{at_root}
use Rattle.cv_scope_rules.proofs.First.{scoped_where_none}
use Rattle.cv_steps.specs.Rewriting.{has_term_at}
use Rattle.cv_rule_fresh.specs.collisions.Choices.{choice_in}
use Rattle.cv_costs.specs.names.Reach.{is_in_scope}
use Rattle.cv_rule_fresh.specs.collisions.Fresh.{fresh_row}
use Rattle.cv_rule_fresh.specs.collisions.Worked.{cases, current, declared, guesses}

pub formed : IsWellFormed declared (guesses 5 (current 4) (current 9))
unfolding first_fault sites_from same_tree size first_site bound_sort count is_untyped_in is_phrase binds_none
formed = record {
  scoped = scoped_where_none (names_of declared (guesses 5 (current 4) (current 9))) at_root (guesses 5 (current 4) (current 9)) refl;
  phrase = refl;
  constants = refl;
}

pub rows : AllByRecursion (λ c. fresh_row c.0 c.1 ≡ c.2) cases
unfolding same_tree size subtree replaced first_site bound_sort is_untyped_in context_at has_term_at choice_in is_in_scope
rows = (refl, (refl, (refl, (refl, (refl, (refl, (refl, (refl, (refl, (refl, tt))))))))))
