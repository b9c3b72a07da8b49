-- A tree with another subtree at a place, and the subtrees that are output processes.
use Rattle.std.specs.Prelude.{ℕ, ◌+◌, ◌-◌, Bool, true, false, nat_lt, if◌then◌else◌}
use Rattle.cv_syntax_trees.specs.declared.head.Head.TheVariants.{Yield, Out, Event, New, Let, If, Find, Key, Call}
use Rattle.cv_syntax_trees.specs.Head.{weight}
use Rattle.cv_syntax_trees.specs.Tree.{Tree, Empty, Node, size}

-- the tree with another subtree at a place
unfoldable pub replaced : Tree → ℕ → Tree → Tree
replaced Empty p new = Empty
replaced (Node h a b) p new =
    if nat_lt p (weight h) then new else
    if nat_lt p (weight h + size a) then Node h (replaced a (p - weight h) new) b else Node h a (replaced b (p - (weight h + size a)) new)

-- an output process
abbrev pub is_output : Tree → Bool
is_output (Node Yield a b) = true
is_output (Node (Out c) a b) = true
is_output (Node (Event e) a b) = true
is_output (Node (New x T) a b) = true
is_output (Node (Let x T) a b) = true
is_output (Node If a b) = true
is_output (Node (Find l) a b) = true
is_output (Node (Key x) a b) = true
is_output (Node (Call x l) a b) = true
is_output b = false
