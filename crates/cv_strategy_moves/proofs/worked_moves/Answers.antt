use Rattle.std.proofs.Common.{refl}
use Rattle.cv_syntax_trees.specs.Tree.{same_tree, size, subtree}
use Rattle.cv_syntax_trees.specs.sites.Sites.{bound_sort, first_site}
use Rattle.cv_meaning.specs.Queries.{queries_in}
use Rattle.cv_scope_rules.specs.Made.{is_bound}
use Rattle.cv_scope_rules.specs.typing.Signature.{names_in}
use Rattle.cv_scene.specs.Instances.{standing_for}
use Rattle.cv_scene.specs.Refusals.{definitions_in, first_use}
use Rattle.cv_scene.specs.Scenes.{first_reading}
use Rattle.cv_scene.specs.lines.Given.{with_given}
use Rattle.cv_settling_rules.specs.Variables.{reads_in}
use Rattle.cv_strategy_moves.specs.Uses.{reads_of_key}
use Rattle.cv_strategy_moves.proofs.worked_moves.Goals as goal

pub returns-clause-inside : goal.returns-clause-inside
unfolding size same_tree subtree with_given bound_sort first_site names_in standing_for reads_in first_reading definitions_in first_use is_bound queries_in reads_of_key
returns-clause-inside c = refl

pub returns-clause-sent : goal.returns-clause-sent
unfolding size same_tree subtree with_given bound_sort first_site names_in standing_for reads_in first_reading definitions_in first_use is_bound queries_in reads_of_key
returns-clause-sent c = refl

pub returns-clause-assigned : goal.returns-clause-assigned
unfolding size same_tree subtree with_given bound_sort first_site names_in standing_for reads_in first_reading definitions_in first_use is_bound queries_in reads_of_key
returns-clause-assigned c = refl

pub returns-clause-twice : goal.returns-clause-twice
unfolding size same_tree subtree with_given bound_sort first_site names_in standing_for reads_in first_reading definitions_in first_use is_bound queries_in reads_of_key
returns-clause-twice c = refl

pub returns-clause-shorter : goal.returns-clause-shorter
unfolding same_tree
returns-clause-shorter c = (refl, (refl, (refl, (refl, (refl, (refl, (refl, (refl, (refl, (refl, tt))))))))))
