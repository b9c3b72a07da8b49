-- Counting along a list in a tree.
use Rattle.std.proofs.Common.{◌≡◌, ◌+◌, ap}
use Rattle.cv_syntax_trees.specs.declared.head.Head.{Head}
use Rattle.cv_syntax_trees.specs.Tree.{Tree, Empty, Node}
use Rattle.cv_syntax_trees.specs.sites.Counting.{count}

pub count_step : (t : Tree) (h : Head) (a b : Tree) → t ≡ Node h a b → count t ≡ count b + 1
unfolding count
count_step t h a b e = ap count e

pub count_end : (t : Tree) → t ≡ Empty → count t ≡ 0
unfolding count
count_end t e = ap count e
