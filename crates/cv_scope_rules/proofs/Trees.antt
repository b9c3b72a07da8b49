-- Equality of trees as a test.
use Rattle.std.proofs.Common.{◌≡◌, true, subst}
use Rattle.cv_syntax_trees.specs.Tree.{Tree, same_tree}
use Rattle.cv_syntax_trees.proofs.Equality.{same_tree_exact}
use Rattle.cv_syntax_trees.proofs.Equality.{same_tree_self}

pub tree_same : (a b : Tree) → same_tree a b ≡ true → a ≡ b
tree_same a b e = same_tree_exact a b e

pub same_tree_law : (a b : Tree) → a ≡ b → same_tree a b ≡ true
same_tree_law a b e = subst (λ t. same_tree a t ≡ true) e (same_tree_self a)
