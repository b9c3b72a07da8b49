use Rattle.std.proofs.Common.{refl}
use Rattle.cv_syntax_trees.specs.Tree.{same_tree, size}
use Rattle.cv_scene.specs.lines.Given.{with_given}
use Rattle.cv_syntax_trees.specs.sites.Sites.{bound_sort, first_site}
use Rattle.cv_scope_rules.specs.typing.Signature.{names_in}
use Rattle.cv_scene.specs.Instances.{standing_for}
use Rattle.cv_scene.specs.Sites.{sites_in}
use Rattle.cv_scene.specs.Contexts.{context_in}
use Rattle.cv_match_laws.proofs.worked_context.Goals as goal

pub returns-clause-tree : goal.returns-clause-tree
unfolding size same_tree with_given bound_sort first_site names_in standing_for sites_in context_in
returns-clause-tree c = refl

pub returns-clause-functions : goal.returns-clause-functions
unfolding size same_tree with_given bound_sort first_site names_in standing_for sites_in
returns-clause-functions c = refl

pub returns-clause-tags : goal.returns-clause-tags
unfolding size same_tree with_given bound_sort first_site names_in standing_for sites_in
returns-clause-tags c = refl

pub returns-clause-checks : goal.returns-clause-checks
unfolding size same_tree with_given bound_sort first_site names_in standing_for sites_in
returns-clause-checks c = refl
