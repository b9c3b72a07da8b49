use Rattle.std.proofs.Common.{refl}
use Rattle.cv_syntax_trees.specs.Tree.{same_tree}
use Rattle.cv_group_rules.specs.Rules.{all_agree, are_cells, defines, each_function, has_name, has_read, have_one_index, is_asked, is_bound, names_of, range_of, reads}
use Rattle.cv_group_rules.specs.Faults.{group_fault}
use Rattle.cv_group_rules.proofs.worked_shapes.Goals as goal

pub returns-clause-left_test : goal.returns-clause-left_test
unfolding group_fault each_function have_one_index all_agree same_tree is_bound are_cells has_read has_name range_of is_asked names_of defines reads
returns-clause-left_test c = refl

pub returns-clause-no_index : goal.returns-clause-no_index
unfolding group_fault each_function have_one_index all_agree same_tree is_bound are_cells has_read has_name range_of is_asked names_of defines reads
returns-clause-no_index c = refl

pub returns-clause-two_indices : goal.returns-clause-two_indices
unfolding group_fault each_function have_one_index all_agree same_tree is_bound are_cells has_read has_name range_of is_asked names_of defines reads
returns-clause-two_indices c = refl

pub returns-clause-number : goal.returns-clause-number
unfolding group_fault each_function have_one_index all_agree same_tree is_bound are_cells has_read has_name range_of is_asked names_of defines reads
returns-clause-number c = refl

pub returns-clause-name : goal.returns-clause-name
unfolding group_fault each_function have_one_index all_agree same_tree is_bound are_cells has_read has_name range_of is_asked names_of defines reads
returns-clause-name c = refl

pub returns-clause-bound : goal.returns-clause-bound
unfolding group_fault each_function have_one_index all_agree same_tree is_bound are_cells has_read has_name range_of is_asked names_of defines reads
returns-clause-bound c = refl

pub returns-clause-replication : goal.returns-clause-replication
unfolding group_fault each_function have_one_index all_agree same_tree is_bound are_cells has_read has_name range_of is_asked names_of defines reads
returns-clause-replication c = refl

pub returns-clause-index : goal.returns-clause-index
unfolding group_fault each_function have_one_index all_agree same_tree is_bound are_cells has_read has_name range_of is_asked names_of defines reads
returns-clause-index c = refl

pub returns-clause-argument : goal.returns-clause-argument
unfolding group_fault each_function have_one_index all_agree same_tree is_bound are_cells has_read has_name range_of is_asked names_of defines reads
returns-clause-argument c = refl

pub returns-clause-argument_type : goal.returns-clause-argument_type
unfolding group_fault each_function have_one_index all_agree same_tree is_bound are_cells has_read has_name range_of is_asked names_of defines reads
returns-clause-argument_type c = refl

pub returns-clause-shared : goal.returns-clause-shared
unfolding group_fault each_function have_one_index all_agree same_tree is_bound are_cells has_read has_name range_of is_asked names_of defines reads
returns-clause-shared c = refl
