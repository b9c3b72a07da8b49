use Rattle.std.proofs.Common.{refl}
use Rattle.cv_syntax_trees.specs.Tree.{size}
use Rattle.cv_directory.specs.Definitions.{bound_definitions, definitions_from}
use Rattle.cv_syntax_trees.specs.sites.Sites.{first_index}
use Rattle.cv_directory.proofs.laws.worked_directories.Goals as goal

pub returns : goal.returns
unfolding size bound_definitions definitions_from first_index
returns c = refl
