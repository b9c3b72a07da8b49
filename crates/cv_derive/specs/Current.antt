-- The cited lines that are left behind a current index.
use Rattle.std.specs.Prelude.{ℕ, if◌then◌else◌, List, Option, Some, None}
use Rattle.cv_syntax_trees.specs.declared.head.Head.TheVariants.{Eq, Leaf}
use Rattle.cv_syntax_trees.specs.Tree.{Tree, Node, lone, same_tree}
use Rattle.cv_scene.specs.lines.Inferences.{Visible}
use Rattle.cv_scene.specs.Late.{is_next, without_next}

-- the lines behind a term that is the index itself, or of which the next line says that it is equal to it
abbrev pub left_behind : Visible → (index : ℕ) → (term : Tree) → (lines : List Tree) → Option (List Tree)
left_behind v i m ls =
    if same_tree m (lone (Leaf i)) then Some ls
    else if is_next v ls (Node Eq m (lone (Leaf i))) then Some (without_next ls) else None
