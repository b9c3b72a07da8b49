use Rattle.std.proofs.Common.{refl}
use Rattle.cv_syntax_trees.specs.Tree.{same_tree}
use Rattle.cv_group_rules.specs.Rules.{all_agree, are_cells, defines, each_function, has_name, has_read, have_one_index, is_asked, is_bound, names_of, range_of, reads}
use Rattle.cv_group_rules.specs.Faults.{group_fault}
use Rattle.cv_group_rules.proofs.worked_accepted.Goals as goal

pub returns-clause-encryption : goal.returns-clause-encryption
unfolding group_fault each_function have_one_index all_agree same_tree is_bound are_cells has_read has_name range_of is_asked names_of defines reads
returns-clause-encryption c = refl

pub returns-clause-authentication : goal.returns-clause-authentication
unfolding group_fault each_function have_one_index all_agree same_tree is_bound are_cells has_read has_name range_of is_asked names_of defines reads
returns-clause-authentication c = refl

pub returns-clause-guess : goal.returns-clause-guess
unfolding group_fault each_function have_one_index all_agree same_tree is_bound are_cells has_read has_name range_of is_asked names_of defines reads
returns-clause-guess c = refl

pub returns-clause-constant : goal.returns-clause-constant
unfolding group_fault each_function have_one_index all_agree same_tree is_bound are_cells has_read has_name range_of is_asked names_of defines reads
returns-clause-constant c = refl

pub returns-clause-nested : goal.returns-clause-nested
unfolding group_fault each_function have_one_index all_agree same_tree is_bound are_cells has_read has_name range_of is_asked names_of defines reads
returns-clause-nested c = refl

pub returns-clause-defined : goal.returns-clause-defined
unfolding group_fault each_function have_one_index all_agree same_tree is_bound are_cells has_read has_name range_of is_asked names_of defines reads
returns-clause-defined c = refl

pub returns-clause-bare : goal.returns-clause-bare
unfolding group_fault each_function have_one_index all_agree same_tree is_bound are_cells has_read has_name range_of is_asked names_of defines reads
returns-clause-bare c = refl
