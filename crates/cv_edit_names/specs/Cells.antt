-- The cells of a variable in `defined` lists, and reads of cells whose name is known.
use Rattle.std.specs.Prelude.{ℕ, Bool, false, not, if◌then◌else◌, List, [], ◌∷◌, Option, Some, None, is_some}
use Rattle.std.specs.List.{list_any}
use Rattle.cv_syntax_trees.specs.declared.head.Head.{Head}
use Rattle.cv_syntax_trees.specs.declared.head.Head.TheVariants.{Branch, Leaf, Read}
use Rattle.cv_syntax_trees.specs.Tree.{Tree, Empty, Node, first, first_place, same_tree, second_place}
use Rattle.cv_syntax_trees.specs.sites.Sites.{first_of}
use Rattle.cv_scene.specs.Scenes.{head_reads}

-- a cell of the variable
abbrev pub is_cell_of : (x : ℕ) → Tree → Bool
is_cell_of x Empty = false
is_cell_of x (Node h a b) = head_reads x h

-- those of a list, in order
abbrev pub cells_in : (x : ℕ) → (cells : Tree) → List Tree
cells_in x Empty = []
cells_in x (Node h c more) = if is_cell_of x c then c ∷ cells_in x more else cells_in x more

-- two of them have different indices
abbrev pub are_mixed : List Tree → Bool
are_mixed [] = false
are_mixed (c ∷ cs) = list_any (λ d. not (same_tree c d)) cs

-- the first branch of a tree that stands at a place whose list has cells of the variable at different indices
unfoldable pub first_mixed : (x place : ℕ) → Tree → Option ℕ
first_mixed x p Empty = None
first_mixed x p (Node Branch us rest) =
    if are_mixed (cells_in x (first rest)) then Some p else first_of (first_mixed x (first_place p Branch) us) (first_mixed x (second_place p Branch us) rest)
first_mixed x p (Node h a b) = first_of (first_mixed x (first_place p h) a) (first_mixed x (second_place p h a) b)

-- the name of a cell, of several with their names
abbrev pub name_of : List (Tree × ℕ) → Tree → Option ℕ
name_of [] t = None
name_of (d ∷ ds) t = if same_tree d.0 t then Some d.1 else name_of ds t

-- the first cell without a name among these
abbrev pub first_unnamed : List (Tree × ℕ) → List Tree → Option Tree
first_unnamed named [] = None
first_unnamed named (c ∷ cs) = if is_some (name_of named c) then first_unnamed named cs else Some c

-- a read of the variable becomes one of the name
abbrev pub called_head : Head → Option ℕ → Head
called_head (Leaf x) (Some y) = Leaf y
called_head (Read x) (Some y) = Read y
called_head h name = h

-- the tree where each read of a cell that has a name is one of that name; cells in its indices too
unfoldable pub with_names : List (Tree × ℕ) → Tree → Tree
with_names named Empty = Empty
with_names named (Node h a b) = Node (called_head h (name_of named (Node h a b))) (with_names named a) (with_names named b)
