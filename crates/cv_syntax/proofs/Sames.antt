-- What a comparison of two trees cites.
use Rattle.cv_syntax.proofs.ChildReads.{same_tree_Empty}
use Rattle.cv_syntax.proofs.Trees.{tree_of_NoTree, same_open}

pub ruleset sames = (tree_of_NoTree, same_open, same_tree_Empty)
