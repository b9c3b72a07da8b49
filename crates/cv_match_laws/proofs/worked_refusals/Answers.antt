use Rattle.std.proofs.Common.{refl}
use Rattle.cv_syntax_trees.specs.Tree.{same_tree, size}
use Rattle.cv_scene.specs.lines.Given.{with_given}
use Rattle.cv_syntax_trees.specs.sites.Sites.{bound_sort, first_site}
use Rattle.cv_scope_rules.specs.typing.Signature.{names_in}
use Rattle.cv_meaning.specs.Queries.{queries_in}
use Rattle.cv_scope_rules.specs.Made.{is_bound}
use Rattle.cv_scene.specs.Scenes.{first_reading}
use Rattle.cv_scene.specs.Instances.{standing_for}
use Rattle.cv_scene.specs.Sites.{sites_in}
use Rattle.cv_scene.specs.Refusals.{definitions_in, first_in_arguments, first_in_condition, first_use, uses}
use Rattle.cv_match_laws.proofs.worked_refusals.Goals as goal

pub returns-clause-keyless : goal.returns-clause-keyless
unfolding size same_tree with_given bound_sort first_site names_in standing_for sites_in first_reading definitions_in first_in_arguments first_in_condition first_use uses is_bound queries_in
returns-clause-keyless c = refl

pub returns-clause-argument : goal.returns-clause-argument
unfolding size same_tree with_given bound_sort first_site names_in standing_for sites_in first_reading definitions_in first_in_arguments first_in_condition first_use uses is_bound queries_in
returns-clause-argument c = refl
