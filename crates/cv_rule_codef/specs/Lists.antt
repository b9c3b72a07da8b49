-- The `defined` list of a branch, with a cell more or less. This profile's own.
use Rattle.std.specs.Prelude.{Bool, false, ◌||◌, if◌then◌else◌}
use Rattle.cv_syntax_trees.specs.declared.head.Head.TheVariants.{Branch, Cons}
use Rattle.cv_syntax_trees.specs.Tree.{Tree, Empty, Node, first, same_tree}

-- a list has the cell
abbrev pub has_cell : (cell cells : Tree) → Bool
has_cell c Empty = false
has_cell c (Node h item more) = same_tree item c || has_cell c more

-- the list with the cell last
abbrev pub with_cell : (cell cells : Tree) → Tree
with_cell c Empty = Node Cons c Empty
with_cell c (Node h item more) = Node h item (with_cell c more)

-- the list without the cell where it first has it
abbrev pub without_cell : (cell cells : Tree) → Tree
without_cell c Empty = Empty
without_cell c (Node h item more) = if same_tree item c then more else Node h item (without_cell c more)

-- whether a cell is added or dropped
abbrev pub relisted : (adds : Bool) → (cell cells : Tree) → Tree
relisted adds c cells = if adds then with_cell c cells else without_cell c cells

-- a branch whose list has the cell
abbrev pub lists : (cell branch : Tree) → Bool
lists c (Node Branch us rest) = has_cell c (first rest)
lists c t = false

-- a branch with another list
abbrev pub with_list : (change : Tree → Tree) → (branch : Tree) → Tree
with_list change (Node Branch us (Node h cells rest)) = Node Branch us (Node h (change cells) rest)
with_list change t = t
