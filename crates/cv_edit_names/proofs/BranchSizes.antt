-- Lists that begin with a branch: how large they are.
use Rattle.std.proofs.Common.{◌≡◌, ℕ, ◌+◌, ◌*◌, List, ◌∷◌, Option, Some, None, refl, ap, ◌∙◌, arith}
use Rattle.cv_pool.specs.KindTree.{KindTree}
use Rattle.cv_syntax_trees.specs.Tree.{Tree, Node, size}
use Rattle.cv_syntax.specs.PoolTrees.{tree_at}
use Rattle.cv_edit_names.specs.declared.branches.Branch.{Branch}
use Rattle.cv_edit_names.specs.Cells.{cells_in}
use Rattle.cv_edit_names.specs.Kept.{branches_of}
use Rattle.cv_edit_names.specs.Splitting.{body_place}
use Rattle.cv_edit_names.specs.Sizes.{copies_with, first_other, named_with, size_of_copies, size_of_copy}

pub size_branches_of : (trees : List KindTree) (b : Branch) → size (branches_of trees b) ≡ 1 + size (tree_at trees b.indices) + size (tree_at trees b.cells) + size (tree_at trees b.condition) + size (tree_at trees b.body) + size (tree_at trees b.more)
unfolding size
size_branches_of trees b = omega arith

module _ (x k : ℕ) (named : List Tree) (us cells c body : Tree) where
  abbrev all : Option Tree → ℕ
  all o = copies_with k o * size_of_copy x k (named_with named o) us cells c body

  pub copies_some : (cell : Tree) → first_other named (cells_in x cells) ≡ Some cell → size_of_copies x k named us cells c body ≡ k * size_of_copy x k (cell ∷ named) us cells c body
  copies_some cell e = ap all e

  pub copies_none : first_other named (cells_in x cells) ≡ None → size_of_copies x k named us cells c body ≡ 1 * size_of_copy x k named us cells c body
  copies_none e = ap all e

pub place_of_body : (p : ℕ) (us cells c : Tree) → body_place p us cells c ≡ p + 1 + size us + size cells + size c
place_of_body p us cells c = omega arith
