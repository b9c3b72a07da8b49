use Rattle.std.proofs.Common.{refl}
use Rattle.cv_syntax_trees.specs.Tree.{same_tree}
use Rattle.cv_group_rules.specs.Rules.{all_agree, are_cells, defines, each_function, has_name, has_read, have_one_index, is_asked, is_bound, names_of, range_of, reads}
use Rattle.cv_group_rules.specs.Faults.{group_fault}
use Rattle.cv_group_rules.proofs.worked_names.Goals as goal

pub returns-clause-other_argument : goal.returns-clause-other_argument
unfolding group_fault each_function have_one_index all_agree same_tree is_bound are_cells has_read has_name range_of is_asked names_of defines reads
returns-clause-other_argument c = refl

pub returns-clause-own_index : goal.returns-clause-own_index
unfolding group_fault each_function have_one_index all_agree same_tree is_bound are_cells has_read has_name range_of is_asked names_of defines reads
returns-clause-own_index c = refl

pub returns-clause-no_cell : goal.returns-clause-no_cell
unfolding group_fault each_function have_one_index all_agree same_tree is_bound are_cells has_read has_name range_of is_asked names_of defines reads
returns-clause-no_cell c = refl

pub returns-clause-unread_cell : goal.returns-clause-unread_cell
unfolding group_fault each_function have_one_index all_agree same_tree is_bound are_cells has_read has_name range_of is_asked names_of defines reads
returns-clause-unread_cell c = refl

pub returns-clause-other_bound : goal.returns-clause-other_bound
unfolding group_fault each_function have_one_index all_agree same_tree is_bound are_cells has_read has_name range_of is_asked names_of defines reads
returns-clause-other_bound c = refl

pub returns-clause-key_cell : goal.returns-clause-key_cell
unfolding group_fault each_function have_one_index all_agree same_tree is_bound are_cells has_read has_name range_of is_asked names_of defines reads
returns-clause-key_cell c = refl

pub returns-clause-in_else : goal.returns-clause-in_else
unfolding group_fault each_function have_one_index all_agree same_tree is_bound are_cells has_read has_name range_of is_asked names_of defines reads
returns-clause-in_else c = refl

pub returns-clause-rebound : goal.returns-clause-rebound
unfolding group_fault each_function have_one_index all_agree same_tree is_bound are_cells has_read has_name range_of is_asked names_of defines reads
returns-clause-rebound c = refl

pub returns-clause-own_term : goal.returns-clause-own_term
unfolding group_fault each_function have_one_index all_agree same_tree is_bound are_cells has_read has_name range_of is_asked names_of defines reads
returns-clause-own_term c = refl

pub returns-clause-unread_key : goal.returns-clause-unread_key
unfolding group_fault each_function have_one_index all_agree same_tree is_bound are_cells has_read has_name range_of is_asked names_of defines reads
returns-clause-unread_key c = refl

pub returns-clause-hidden : goal.returns-clause-hidden
unfolding group_fault each_function have_one_index all_agree same_tree is_bound are_cells has_read has_name range_of is_asked names_of defines reads
returns-clause-hidden c = refl
