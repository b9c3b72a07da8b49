-- How many syntax nodes a game has in which each definition of a variable has its own name. This profile's own.
use Rattle.std.specs.Prelude.{ℕ, ◌+◌, ◌*◌, if◌then◌else◌, Bool, List, [], ◌∷◌, map, Option, Some, None}
use Rattle.std.specs.List.{list_any}
use Rattle.cv_syntax_trees.specs.declared.head.Head.{Head}
use Rattle.cv_syntax_trees.specs.declared.head.Head.TheVariants.{Branch, Cons, Find, Par}
use Rattle.cv_syntax_trees.specs.Head.{weight}
use Rattle.cv_syntax_trees.specs.Tree.{Tree, Empty, Node, same_tree, size}
use Rattle.cv_edit_names.specs.Cells.{cells_in}

-- the cells that have names
abbrev pub cells_named : List (Tree × ℕ) → List Tree
cells_named named = map (λ (d : Tree × ℕ). d.0) named

abbrev pub is_among : List Tree → Tree → Bool
is_among named c = list_any (λ d. same_tree d c) named

-- the first cell that is none of these
abbrev pub first_other : List Tree → (cells : List Tree) → Option Tree
first_other named [] = None
first_other named (c ∷ cs) = if is_among named c then first_other named cs else Some c

-- how many copies a branch has that looks for a cell without a name, or for none
abbrev pub copies_with : (count : ℕ) → Option Tree → ℕ
copies_with k None = 1
copies_with k (Some c) = k

-- the cells that have a name in the copies
abbrev pub named_with : List Tree → Option Tree → List Tree
named_with named None = named
named_with named (Some c) = c ∷ named

-- what a branch has before its body
abbrev pub before_body : (binders cells condition : Tree) → ℕ
before_body us cells c = 1 + size us + size cells + size c

-- where these cells have names, whichever, and so many names are new
unfoldable mutual
  pub size_in : (x count : ℕ) → List Tree → Tree → ℕ
  size_in x k named Empty = 0
  size_in x k named (Node Par a b) = weight Par + size_in x k named a + size_in x k named b
  size_in x k named (Node Cons a b) = weight Cons + size_in x k named a + size_in x k named b
  size_in x k named (Node (Find l) a b) = weight (Find l) + sizes_in x k named a + size_in x k named b
  size_in x k named (Node h a b) = weight h + size a + size_in x k named b

  -- the branches of a `find`
  pub sizes_in : (x count : ℕ) → List Tree → Tree → ℕ
  sizes_in x k named (Node Cons (Node Branch us (Node Cons cells (Node Cons c body))) more) =
      copies_with k (first_other named (cells_in x cells))
      * (before_body us cells c + size_in x k (named_with named (first_other named (cells_in x cells))) body)
      + sizes_in x k named more
  sizes_in x k named branches = size branches

-- one copy of a branch, and all of them
abbrev pub size_of_copy : (x count : ℕ) → List Tree → (binders cells condition body : Tree) → ℕ
size_of_copy x k named us cells c body = before_body us cells c + size_in x k named body

abbrev pub size_of_copies : (x count : ℕ) → List Tree → (binders cells condition body : Tree) → ℕ
size_of_copies x k named us cells c body =
    copies_with k (first_other named (cells_in x cells))
    * size_of_copy x k (named_with named (first_other named (cells_in x cells))) us cells c body

-- the first child of a process
abbrev pub size_of_first : (x count : ℕ) → List Tree → Head → (first : Tree) → ℕ
size_of_first x k named Par a = size_in x k named a
size_of_first x k named Cons a = size_in x k named a
size_of_first x k named (Find l) a = sizes_in x k named a
size_of_first x k named h a = size a
