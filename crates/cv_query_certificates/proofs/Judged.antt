-- The worked certificates fail as is said.
use Rattle.std.proofs.Common.{◌≡◌, refl}
use Rattle.std.specs.List.{AllByRecursion}
use Rattle.cv_syntax.specs.faults.Walk.{first_fault}
use Rattle.cv_syntax_trees.specs.Tree.{reads_only, size, subtree, same_tree}
use Rattle.cv_meaning.specs.Queries.{queries_in}
use Rattle.cv_syntax_trees.specs.sites.Sites.{bound_sort, first_index, first_site}
use Rattle.cv_scope_rules.specs.typing.Signature.{names_in}
use Rattle.cv_syntax_trees.specs.sites.Counting as counting
use Rattle.cv_scope_rules.specs.typing.Typing.{binders_differ}
use Rattle.cv_scope_rules.specs.Context.{context_at}
use Rattle.cv_scope_rules.specs.Made.{is_bound}
use Rattle.cv_scope_rules.specs.Phrases.{is_phrase}
use Rattle.cv_scope_rules.specs.Behind.{sites_in}
use Rattle.cv_scope_rules.specs.Above.{standing_at}
use Rattle.cv_scene.specs.Large.{first_other_site}
use Rattle.cv_scene.specs.Scenes.{has_some_new}
use Rattle.cv_scene.specs.Terms.{is_there}
use Rattle.cv_scene.specs.Derivations.{first_bad}
use Rattle.cv_scene.specs.lines.Given.{with_given}
use Rattle.cv_scene.specs.lines.Lines.{lines_of, statements}
use Rattle.cv_scene.specs.lines.Lines as lines
use Rattle.cv_query_certificates.specs.EventNodes.{event_places}
use Rattle.cv_query_certificates.specs.Failures.{first_failure}
use Rattle.cv_query_certificates.specs.Marks.{names_end, plain}
use Rattle.cv_query_certificates.specs.SecretPairs.{copies_in}
use Rattle.cv_query_certificates.specs.Secrets.{AreUnreadCopies, first_definition_but, first_other_read, sources}
use Rattle.cv_query_certificates.specs.WorkedSecrets.{Fails, copied, secret_cases}
use Rattle.cv_query_certificates.specs.WorkedAlternatives.{one_above, one_above_cases, two_branches, two_branches_cases}
use Rattle.cv_query_certificates.specs.Worked.{cell_cases, direct, direct_cases, one_site, two_sites, two_sites_cases}

pub direct_judged : AllByRecursion (λ c. first_failure direct c.0 c.1 ≡ c.2) direct_cases
unfolding first_fault size subtree same_tree first_index first_site bound_sort binders_differ counting.count context_at is_bound is_phrase is_there standing_at names_in sites_in with_given lines_of lines.count statements first_bad event_places reads_only first_definition_but first_other_site names_end plain
direct_judged = (refl, (refl, (refl, (refl, (refl, (refl, (refl, (refl, (refl, (refl, (refl, (refl, (refl, (refl, (refl, (refl, (refl, (refl, (refl, (refl, (refl, tt)))))))))))))))))))))

pub cells_judged : AllByRecursion (λ c. first_failure one_site c.0 c.1 ≡ c.2) cell_cases
unfolding first_fault size subtree same_tree first_index first_site bound_sort binders_differ counting.count context_at is_bound is_phrase is_there standing_at names_in sites_in with_given lines_of lines.count statements first_bad event_places reads_only first_definition_but first_other_site names_end plain
cells_judged = (refl, (refl, (refl, tt)))

pub two_sites_judged : AllByRecursion (λ c. first_failure two_sites c.0 c.1 ≡ c.2) two_sites_cases
unfolding first_fault size subtree same_tree first_index first_site bound_sort binders_differ counting.count context_at is_bound is_phrase is_there standing_at names_in sites_in with_given lines_of lines.count statements first_bad event_places reads_only first_definition_but first_other_site names_end plain
two_sites_judged = (refl, tt)

pub two_branches_judged : AllByRecursion (λ c. first_failure two_branches c.0 c.1 ≡ c.2) two_branches_cases
unfolding first_fault size subtree same_tree first_index first_site bound_sort binders_differ counting.count context_at is_bound is_phrase is_there standing_at names_in sites_in with_given lines_of lines.count statements first_bad event_places reads_only first_definition_but first_other_site names_end plain
two_branches_judged = (refl, (refl, (refl, (refl, (refl, (refl, (refl, (refl, (refl, (refl, (refl, (refl, tt))))))))))))

pub one_above_judged : AllByRecursion (λ c. first_failure one_above c.0 c.1 ≡ c.2) one_above_cases
unfolding first_fault size subtree same_tree first_index first_site bound_sort binders_differ counting.count context_at is_bound is_phrase is_there standing_at names_in sites_in with_given lines_of lines.count statements first_bad event_places reads_only first_definition_but first_other_site names_end plain
one_above_judged = (refl, (refl, (refl, (refl, tt))))

pub secrets_judged : AllByRecursion Fails secret_cases
unfolding first_fault size subtree same_tree first_index first_site bound_sort binders_differ counting.count context_at is_bound is_phrase is_there standing_at names_in sites_in with_given lines_of lines.count statements first_bad reads_only has_some_new queries_in first_other_read first_definition_but sources copies_in names_end plain
secrets_judged = ((refl, refl), ((refl, refl), ((refl, refl), ((refl, refl), ((refl, refl), ((refl, refl), ((refl, refl), ((refl, refl), ((refl, refl), ((refl, refl), ((refl, refl), ((refl, refl), ((refl, refl), ((refl, refl), ((refl, refl), ((refl, refl), ((refl, refl), tt)))))))))))))))))

-- where the variable copies another one, each of the second form's conditions holds
pub copies_unread : AreUnreadCopies copied 4
unfolding size is_bound has_some_new queries_in first_other_read first_definition_but sources
copies_unread = record { copies = refl; unread = refl }
