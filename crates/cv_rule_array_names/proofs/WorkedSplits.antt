-- The worked games are judged as is said.
use Rattle.std.proofs.Common.{◌≡◌, refl}
use Rattle.std.specs.List.{AllByRecursion}
use Rattle.cv_syntax_trees.specs.Tree.{size, depth, same_tree}
use Rattle.cv_syntax.specs.faults.Walk.{first_fault}
use Rattle.cv_meaning.specs.Queries.{queries_in}
use Rattle.cv_syntax_trees.specs.sites.Sites.{first_index, first_site, bound_sort, is_untyped_in}
use Rattle.cv_syntax_trees.specs.sites.Counting.{count}
use Rattle.cv_scope_rules.specs.typing.Parts.{first_in}
use Rattle.cv_scope_rules.specs.typing.Typing.{binders_differ}
use Rattle.cv_scope_rules.specs.Behind.{sites_in}
use Rattle.cv_scope_rules.specs.Sites.{sites_from}
use Rattle.cv_scope_rules.specs.Made.{is_bound}
use Rattle.cv_scope_rules.specs.Phrases.{is_phrase, binds_none}
use Rattle.cv_scene.specs.Scenes.{names}
use Rattle.cv_scene.specs.Terms.{is_there}
use Rattle.cv_steps.specs.Judgements.{judgement_of}
use Rattle.cv_steps.specs.Renaming.{renamed}
use Rattle.cv_edit_names.specs.Cells.{first_mixed, with_names}
use Rattle.cv_rule_array_names.specs.Row.{array_names_step}
use Rattle.cv_edit_names.specs.Splitting.{split_in, split_branches}
use Rattle.cv_rule_array_names.specs.Worked.{cases}

pub each : AllByRecursion (λ c. judgement_of c.0 (array_names_step c.1 c.2) ≡ c.3) cases
unfolding first_fault first_in size depth same_tree first_index first_site bound_sort binders_differ count sites_from sites_in is_bound is_phrase binds_none queries_in names is_there is_untyped_in renamed first_mixed with_names split_in split_branches
each = (refl, (refl, (refl, (refl, (refl, (refl, (refl, (refl, (refl, (refl, (refl, (refl, (refl, (refl, (refl, tt)))))))))))))))
