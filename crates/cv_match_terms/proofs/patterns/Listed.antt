-- Names of a side and of a function, node by node.
use Rattle.std.proofs.Common.{◌≡◌, ℕ, refl, ap₂}
use Rattle.std.specs.Prelude.{◌||◌}
use Rattle.cv_syntax_trees.specs.declared.head.Head.TheVariants.{Binder}
use Rattle.cv_syntax_trees.specs.Tree.{Tree, Empty, Node}
use Rattle.cv_syntax.proofs.Trees.{tree_of_NoTree}
use Rattle.cv_syntax_trees.proofs.lists.Tests.{equals_comm}
use Rattle.cv_meaning.specs.Correspondences.{typed_names}
use Rattle.cv_scope_rules.specs.Made.{is_bound}
use Rattle.cv_scene.specs.Refusals.{is_among}

pub listed_bound : (t : Tree) (y : ℕ) → is_bound t y ≡ is_among (typed_names t) y
unfolding is_bound
listed_bound Empty y = refl
listed_bound (Node (Binder x T) a b) y = ap₂ (λ p q. p || q) (equals_comm y x) (listed_bound b y)
listed_bound (Node h a b) y = refl

pub ruleset listed = (tree_of_NoTree, listed_bound)
