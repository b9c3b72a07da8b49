-- A game with another name of a variable has its size and depth.
use Rattle.std.proofs.Common.{◌≡◌, ℕ, ◌+◌, max, refl}
use Rattle.cv_syntax_trees.specs.declared.head.Head.{Head}
use Rattle.cv_syntax_trees.specs.declared.head.Head.TheVariants.{Binder, Call, Key, Leaf, Let, Name, New, Read, Repl}
use Rattle.cv_syntax_trees.specs.Head.{weight}
use Rattle.cv_syntax_trees.specs.Tree.{Tree, Empty, Node, size, depth}
use Rattle.cv_steps.specs.Renaming.{renamed_head, renamed}

weight_same : (x y : ℕ) (h : Head) → weight (renamed_head x y h) ≡ weight h
weight_same x y (Repl i n) = refl
weight_same x y (Name i) = refl
weight_same x y (New z T) = refl
weight_same x y (Let z T) = refl
weight_same x y (Binder z T) = refl
weight_same x y (Leaf z) = refl
weight_same x y (Read z) = refl
weight_same x y (Key z) = refl
weight_same x y (Call z l) = refl
weight_same x y h = refl

pub size_same : (x y : ℕ) (t : Tree) → size (renamed x y t) ≡ size t
unfolding size renamed
size_same x y Empty = refl
size_same x y (Node h a b) = λ i. weight_same x y h i + size_same x y a i + size_same x y b i

pub depth_same : (x y : ℕ) (t : Tree) → depth (renamed x y t) ≡ depth t
unfolding depth renamed
depth_same x y Empty = refl
depth_same x y (Node h a b) = λ i. weight_same x y h i + max (depth_same x y a i) (depth_same x y b i)
