use Rattle.std.proofs.Common.{refl}
use Rattle.cv_syntax_trees.specs.Tree.{same_tree}
use Rattle.cv_group_rules.specs.Rules.{all_agree, are_cells, defines, each_function, has_name, has_read, have_one_index, is_asked, is_bound, names_of, range_of, reads}
use Rattle.cv_group_rules.specs.Faults.{group_fault}
use Rattle.cv_group_rules.proofs.worked_calls.Goals as goal

pub returns-clause-left : goal.returns-clause-left
unfolding group_fault each_function have_one_index all_agree same_tree is_bound are_cells has_read has_name range_of is_asked names_of defines reads
returns-clause-left c = refl

pub returns-clause-right : goal.returns-clause-right
unfolding group_fault each_function have_one_index all_agree same_tree is_bound are_cells has_read has_name range_of is_asked names_of defines reads
returns-clause-right c = refl

pub returns-clause-nested : goal.returns-clause-nested
unfolding group_fault each_function have_one_index all_agree same_tree is_bound are_cells has_read has_name range_of is_asked names_of defines reads
returns-clause-nested c = refl

pub returns-clause-defined : goal.returns-clause-defined
unfolding group_fault each_function have_one_index all_agree same_tree is_bound are_cells has_read has_name range_of is_asked names_of defines reads
returns-clause-defined c = refl

pub returns-clause-tested : goal.returns-clause-tested
unfolding group_fault each_function have_one_index all_agree same_tree is_bound are_cells has_read has_name range_of is_asked names_of defines reads
returns-clause-tested c = refl

pub returns-clause-condition : goal.returns-clause-condition
unfolding group_fault each_function have_one_index all_agree same_tree is_bound are_cells has_read has_name range_of is_asked names_of defines reads
returns-clause-condition c = refl

pub returns-clause-bound : goal.returns-clause-bound
unfolding group_fault each_function have_one_index all_agree same_tree is_bound are_cells has_read has_name range_of is_asked names_of defines reads
returns-clause-bound c = refl

pub returns-clause-known : goal.returns-clause-known
unfolding group_fault each_function have_one_index all_agree same_tree is_bound are_cells has_read has_name range_of is_asked names_of defines reads
returns-clause-known c = refl
