-- A game with another name in the place of a variable's: where it is defined, where it is read, and in `defined` lists. Blanchet, TDSC
-- 2008, section 3.
use Rattle.std.specs.Prelude.{ℕ, ◌==◌, if◌then◌else◌}
use Rattle.cv_syntax_trees.specs.declared.head.Head.{Head}
use Rattle.cv_syntax_trees.specs.declared.head.Head.TheVariants.{Binder, Call, Key, Leaf, Let, Name, New, Read, Repl}
use Rattle.cv_syntax_trees.specs.Tree.{Tree, Empty, Node}

-- a name, and y for x
abbrev pub renamed_name : (x y : ℕ) → ℕ → ℕ
renamed_name x y z = if z == x then y else z

-- the node with y as the name of a variable or of an index where it has x
abbrev pub renamed_head : (x y : ℕ) → Head → Head
renamed_head x y (Repl i n) = Repl (renamed_name x y i) n
renamed_head x y (Name i) = Name (renamed_name x y i)
renamed_head x y (New z T) = New (renamed_name x y z) T
renamed_head x y (Let z T) = Let (renamed_name x y z) T
renamed_head x y (Binder z T) = Binder (renamed_name x y z) T
renamed_head x y (Leaf z) = Leaf (renamed_name x y z)
renamed_head x y (Read z) = Read (renamed_name x y z)
renamed_head x y (Key z) = Key (renamed_name x y z)
renamed_head x y (Call z l) = Call (renamed_name x y z) l
renamed_head x y h = h

-- so of each node of the tree
unfoldable pub renamed : (x y : ℕ) → Tree → Tree
renamed x y Empty = Empty
renamed x y (Node h a b) = Node (renamed_head x y h) (renamed x y a) (renamed x y b)
