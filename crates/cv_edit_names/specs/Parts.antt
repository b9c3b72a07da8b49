-- A game in which each definition of a variable has its own name, node by node. This profile's own.
use Rattle.std.specs.Prelude.{ℕ, Bool, true, false, List, map}
use Rattle.cv_syntax_trees.specs.declared.head.Head.{Head}
use Rattle.cv_syntax_trees.specs.declared.head.Head.TheVariants.{Branch, Cons, Find, In, Par, Repl}
use Rattle.cv_syntax_trees.specs.Tree.{Tree, Empty, Node, first_place}
use Rattle.cv_steps.specs.Renaming.{renamed_head}
use Rattle.cv_edit_names.specs.Cells.{with_names}
use Rattle.cv_edit_names.specs.Naming.{Naming, name_at}
use Rattle.cv_edit_names.specs.Splitting.{Around, behind, body_place, copies_of, in_replication, message_with_name, names_known, split_branches, split_in, with_name}

-- the head of a process that stands at a place
abbrev pub split_head : Naming → (place : ℕ) → Head → Head
split_head n p (Repl i m) = Repl i m
split_head n p h = renamed_head n.variable (name_at n p) h

-- its first child
abbrev pub split_first : Naming → Around → (place : ℕ) → Head → (first : Tree) → Tree
split_first n e p (Repl i m) a = a
split_first n e p Par a = split_in n e (first_place p Par) a
split_first n e p Cons a = split_in n e (first_place p Cons) a
split_first n e p (In c) a = message_with_name n p a
split_first n e p (Find l) a = split_branches n e (first_place p (Find l)) a
split_first n e p h a = with_names (names_known e) a

-- around its second child
abbrev pub around_second : Naming → (place : ℕ) → Head → (first : Tree) → Around → Around
around_second n p (Repl i m) a e = in_replication (Repl i m) e
around_second n p h a e = behind n p h a e

-- a copy of a branch, with this around it
abbrev pub branch_copy : Naming → (place : ℕ) → (binders cells condition body : Tree) → Around → Tree
branch_copy n p us cells c body d =
    Node Branch (with_name n p us)
    (Node Cons (with_names (names_known d) cells)
    (Node Cons (with_names (names_known d) c) (split_in n d (body_place p us cells c) body)))

abbrev pub branch_copies : Naming → Around → (place : ℕ) → (binders cells condition body : Tree) → List Tree
branch_copies n e p us cells c body =
    map (branch_copy n p us cells c body) (copies_of n (behind n p Branch us e) cells)

abbrev pub is_link : Tree → Bool
is_link (Node Cons item more) = true
is_link t = false

-- a list begins with a branch that has a list of cells and a condition
abbrev pub begins_with_branch : Tree → Bool
begins_with_branch (Node Cons (Node Branch us (Node Cons cells (Node Cons c body))) more) = true
begins_with_branch t = false
