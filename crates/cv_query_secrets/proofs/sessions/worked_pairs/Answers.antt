use Rattle.std.proofs.Common.{◌≡◌, Bool, true, false, refl}
use Rattle.std.proofs.lemmas.Bool.{both_ways}
use Rattle.cv_syntax.specs.faults.Walk.{first_fault}
use Rattle.cv_syntax_trees.specs.Tree.{reads_only, same_tree, size, subtree}
use Rattle.cv_meaning.specs.Queries.{queries_in}
use Rattle.cv_syntax_trees.specs.sites.Counting as counting
use Rattle.cv_syntax_trees.specs.sites.Sites.{bound_sort, first_index, first_site}
use Rattle.cv_scope_rules.specs.Above.{standing_at}
use Rattle.cv_scope_rules.specs.Behind.{sites_in}
use Rattle.cv_scope_rules.specs.Context.{context_at}
use Rattle.cv_scope_rules.specs.Made.{is_bound}
use Rattle.cv_scope_rules.specs.Phrases.{is_phrase}
use Rattle.cv_scope_rules.specs.typing.Signature.{names_in}
use Rattle.cv_scope_rules.specs.typing.Typing.{binders_differ}
use Rattle.cv_scene.specs.Derivations.{first_bad}
use Rattle.cv_scene.specs.Scenes.{has_some_new}
use Rattle.cv_scene.specs.Terms.{is_there}
use Rattle.cv_scene.specs.lines.Given.{with_given}
use Rattle.cv_scene.specs.lines.Lines as lines
use Rattle.cv_scene.specs.lines.Lines.{lines_of, statements}
use Rattle.cv_query_certificates.specs.Marks.{names_end, plain}
use Rattle.cv_query_certificates.specs.SecretPairs.{copies_in}
use Rattle.cv_query_certificates.specs.Secrets.{first_definition_but, first_other_read, sources}
use Rattle.cv_query_secrets.proofs.sessions.worked_pairs.Goals as goal

pub returns-clause-unread : goal.returns-clause-unread
unfolding first_definition_but first_other_read sources size has_some_new queries_in is_bound
returns-clause-unread c = record { copies = refl; unread = refl }

pub returns-clause-paired : goal.returns-clause-paired
unfolding copies_in names_end plain first_fault size subtree same_tree first_index first_site bound_sort binders_differ counting.count context_at is_bound is_phrase is_there standing_at names_in sites_in with_given lines_of lines.count statements first_bad reads_only
returns-clause-paired c = ((refl, refl), tt)

pub returns-clause-missing : goal.returns-clause-missing
unfolding copies_in size
returns-clause-missing c = λ a. a

pub returns-clause-silent : goal.returns-clause-silent
unfolding copies_in names_end plain first_fault size subtree same_tree first_index first_site bound_sort binders_differ counting.count context_at is_bound is_phrase is_there standing_at names_in sites_in with_given lines_of lines.count statements first_bad reads_only
returns-clause-silent c = λ a. both_ways false refl a.0.1

pub returns-clause-elsewhere : goal.returns-clause-elsewhere
unfolding copies_in size
returns-clause-elsewhere c = λ a. both_ways false refl a.0.0

pub returns-clause-shared : goal.returns-clause-shared
unfolding copies_in names_end plain first_fault size subtree same_tree first_index first_site bound_sort binders_differ counting.count context_at is_bound is_phrase is_there standing_at names_in sites_in with_given lines_of lines.count statements first_bad reads_only
returns-clause-shared c = λ a. both_ways false refl a.0.1
