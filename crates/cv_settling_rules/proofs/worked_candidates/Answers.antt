use Rattle.std.proofs.Common.{refl}
use Rattle.cv_syntax_trees.specs.Tree.{same_tree, size, subtree}
use Rattle.cv_syntax_trees.specs.sites.Sites.{bound_sort, first_index, first_site}
use Rattle.cv_scope_rules.specs.Behind.{sites_in}
use Rattle.cv_scope_rules.specs.Made.{is_bound}
use Rattle.cv_scene.specs.Instances.{standing_for}
use Rattle.cv_scene.specs.Late.{is_defined_in, is_late}
use Rattle.cv_scene.specs.Refusals.{first_in_condition}
use Rattle.cv_scene.specs.Scenes.{first_reading}
use Rattle.cv_scene.specs.lines.Given.{with_given}
use Rattle.cv_settling_rules.specs.Conjuncts.{parts_of}
use Rattle.cv_settling_rules.specs.Measure.{large_equalities}
use Rattle.cv_settling_rules.specs.Spots.{spots_in}
use Rattle.cv_settling_rules.specs.Variables.{definitions_in, reads_in}
use Rattle.cv_settling_rules.proofs.worked_candidates.Goals as goal

pub returns-clause-bodies : goal.returns-clause-bodies
unfolding spots_in parts_of size same_tree subtree sites_in is_late is_defined_in is_bound definitions_in reads_in first_reading first_in_condition standing_for with_given first_site bound_sort first_index
returns-clause-bodies c = (refl, (refl, (refl, (refl, (refl, (refl, (refl, (refl, (refl, (refl, (refl, (refl, tt))))))))))))

pub returns-clause-merged : goal.returns-clause-merged
unfolding spots_in parts_of size same_tree subtree sites_in is_late is_defined_in is_bound definitions_in reads_in first_reading first_in_condition standing_for with_given first_site bound_sort first_index
returns-clause-merged c = (refl, tt)

pub returns-clause-unnewed : goal.returns-clause-unnewed
unfolding spots_in parts_of size same_tree subtree sites_in is_late is_defined_in is_bound definitions_in reads_in first_reading first_in_condition standing_for with_given first_site bound_sort first_index
returns-clause-unnewed c = (refl, (refl, tt))

pub returns-clause-unlet : goal.returns-clause-unlet
unfolding spots_in parts_of size same_tree subtree sites_in is_late is_defined_in is_bound definitions_in reads_in first_reading first_in_condition standing_for with_given first_site bound_sort first_index
returns-clause-unlet c = (refl, (refl, (refl, (refl, (refl, (refl, (refl, tt)))))))

pub returns-clause-rewritten : goal.returns-clause-rewritten
unfolding spots_in parts_of size same_tree subtree sites_in is_late is_defined_in is_bound definitions_in reads_in first_reading first_in_condition standing_for with_given first_site bound_sort first_index
returns-clause-rewritten c = (refl, (refl, tt))

pub returns-clause-birthdays : goal.returns-clause-birthdays
unfolding spots_in parts_of size same_tree subtree sites_in is_late is_defined_in is_bound definitions_in reads_in first_reading first_in_condition standing_for with_given first_site bound_sort first_index
returns-clause-birthdays c = (refl, tt)

pub returns-clause-guesses : goal.returns-clause-guesses
unfolding spots_in parts_of size same_tree subtree sites_in is_late is_defined_in is_bound definitions_in reads_in first_reading first_in_condition standing_for with_given first_site bound_sort first_index
returns-clause-guesses c = (refl, tt)

pub returns-clause-freshes : goal.returns-clause-freshes
unfolding spots_in parts_of size same_tree subtree sites_in is_late is_defined_in is_bound definitions_in reads_in first_reading first_in_condition standing_for with_given first_site bound_sort first_index
returns-clause-freshes c = (refl, tt)

pub returns-clause-order : goal.returns-clause-order
unfolding spots_in parts_of size same_tree subtree sites_in is_late is_defined_in is_bound definitions_in reads_in first_reading first_in_condition standing_for with_given first_site bound_sort first_index
returns-clause-order c = refl

pub returns-clause-measure : goal.returns-clause-measure
unfolding spots_in parts_of size same_tree subtree sites_in is_late is_defined_in is_bound definitions_in reads_in first_reading first_in_condition standing_for with_given first_site bound_sort first_index large_equalities
returns-clause-measure c = refl
