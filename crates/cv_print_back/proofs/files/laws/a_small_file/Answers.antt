use Rattle.std.proofs.Common.{[], refl, arith}
use Rattle.cv_syntax_trees.specs.Tree.{depth}
use Rattle.cv_print_back.proofs.files.Back.{comes_back, shallow_is_flat}
use Rattle.cv_print_back.proofs.files.Small.{file}
use Rattle.cv_print_back.specs.files.Worked.{small_content, small_declared, small_file, small_game, small_names}
use Rattle.cv_print_back.proofs.files.laws.a_small_file.Goals as goal

pub returns-clause-file : goal.returns-clause-file
returns-clause-file c = file

pub returns-clause-declared : goal.returns-clause-declared
returns-clause-declared c = refl

pub returns-clause-back : goal.returns-clause-back
unfolding depth
returns-clause-back c = comes_back 10000 small_file small_names small_content [] small_declared file refl (shallow_is_flat small_game (omega arith))
