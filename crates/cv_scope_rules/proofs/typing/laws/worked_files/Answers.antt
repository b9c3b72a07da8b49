use Rattle.std.proofs.Common.{refl}
use Rattle.cv_syntax_trees.specs.Tree.{size}
use Rattle.cv_syntax.specs.faults.Walk.{first_fault}
use Rattle.cv_scope_rules.specs.typing.Parts.{body_parts, first_in, local_in, results, sort_by_bound}
use Rattle.cv_scope_rules.specs.typing.Signature.{names_in}
use Rattle.cv_syntax_trees.specs.sites.Counting.{count}
use Rattle.cv_syntax_trees.specs.sites.Sites.{bound_sort, first_index, first_site}
use Rattle.cv_scope_rules.specs.typing.Typing.{binders_differ}
use Rattle.cv_scope_rules.specs.typing.Wants.{all_bound}
use Rattle.cv_scope_rules.proofs.typing.laws.worked_files.Goals as goal

pub returns : goal.returns
unfolding size body_parts first_in local_in results sort_by_bound count names_in bound_sort first_index first_site binders_differ first_fault all_bound
returns c = refl
