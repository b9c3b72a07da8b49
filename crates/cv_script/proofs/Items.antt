-- The items of a step.
use Rattle.std.proofs.Common.{◌≡◌, true, false, refl, Some, None}
use Rattle.cv_syntax_trees.specs.Children.{is_empty}
use Rattle.cv_syntax_trees.specs.Tree.{Tree, Empty, Node}
use Rattle.cv_syntax.proofs.Trees.{tree_of_NoTree}
use Rattle.cv_script.specs.Views.{tree_in}

pub tree_missing : (t : Tree) → is_empty t ≡ true → tree_in t ≡ None
tree_missing Empty e = refl
tree_missing (Node h a b) e = absurd (cc)

pub tree_there : (t : Tree) → is_empty t ≡ false → tree_in t ≡ Some t
tree_there Empty e = absurd (cc)
tree_there (Node h a b) e = refl

pub ruleset item_laws = (tree_missing, tree_there, tree_of_NoTree)
