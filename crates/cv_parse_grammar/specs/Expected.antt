-- What the worked files say.
use Rattle.std.specs.Prelude.{ℕ, true, false, List, [], ◌∷◌, Some, None}
use Rattle.cv_syntax_trees.specs.Declarations.{Declaration, Named, Equation, Equiv, Query}
use Rattle.cv_syntax_trees.specs.Tree.{Tree, Empty, Node, lone, chain, names, binders}
use Rattle.cv_syntax_trees.specs.declared.class.Class.TheVariants as class
use Rattle.cv_syntax_trees.specs.declared.head.Head.{Head}
use Rattle.cv_syntax_trees.specs.declared.head.Head.TheVariants.{Stop, Yield, Par, Repl, In, Out, Event, New, Let, If, Find, Branch, Leaf, Read, Apply, Eq, And, Or, Not, Yes, No, Cons, Forall, Query as Correspondence, Occurs, OccursOnce, Secret, Equivalence, Bound, Single, Oracle}

-- terms

abbrev variable : ℕ → Tree
variable x = lone (Leaf x)

abbrev cell : ℕ → List Tree → Tree
cell x l = Node (Read x) (chain l) Empty

abbrev call : ℕ → List Tree → Tree
call f l = Node (Apply f) (chain l) Empty

abbrev equal : Tree → Tree → Tree
equal l r = Node Eq l r

abbrev negated : Tree → Tree
negated t = Node Not t Empty

-- processes

abbrev on : Head → List ℕ → Tree → Tree → Tree
on h is l t = Node h (Node Cons (names is) l) t

abbrev branch : Tree → Tree → Tree → Tree → Tree
branch is l c t = Node Branch is (Node Cons l (Node Cons c t))

-- each kind of declaration; `compos` is `data`, and `bounded` has no effect
abbrev pub declared : List Declaration
declared =
    Named 1 class.Param Empty None
    ∷ Named 2 class.Channel Empty None
    ∷ Named 3 class.Channel Empty None
    ∷ Named 4 class.Proba Empty None
    ∷ Named 5 (class.TypeName true true) Empty None
    ∷ Named 6 (class.Fun false) Empty (Some 5)
    ∷ Named 7 (class.Fun true) (names (5 ∷ 0 ∷ [])) (Some 5)
    ∷ Named 8 class.Event (names (5 ∷ [])) None
    ∷ Equation (Node Forall (binders ((9, 5) ∷ [])) (equal (call 7 (variable 9 ∷ lone Yes ∷ [])) (variable 9)))
    ∷ Query (lone (Secret 10))
    ∷ []

-- a function of an equivalence
abbrev oracle : ℕ → Head → List (ℕ × ℕ) → List (ℕ × ℕ) → Tree → Tree
oracle f bound chosen arguments t = Node (Oracle f) (Node bound (binders chosen) (binders arguments)) t

abbrev group : Head → List (ℕ × ℕ) → List Tree → Tree
group bound key functions = Node bound (binders key) (chain functions)

-- a collision is an equivalence with one function, all under its name
abbrev collided : Tree → Tree
collided t = group (Single 5) ((6, 1) ∷ []) (oracle 5 (Single 5) [] ((7, 1) ∷ []) t ∷ [])

-- the left side has its `new` in the list, the right side at the front of the body
abbrev left_side : Tree
left_side = group (Bound 9 10) ((11, 1) ∷ []) (oracle 12 (Bound 13 14) ((15, 1) ∷ []) ((16, 1) ∷ []) (call 3 (variable 16 ∷ [])) ∷ [])

abbrev right_side : Tree
right_side = group (Bound 9 10) ((11, 1) ∷ []) (oracle 12 (Bound 13 14) [] ((16, 1) ∷ []) (Node (New 15 1) Empty (variable 15)) ∷ [])

abbrev happened : Head → Tree
happened h = Node h (chain (variable 17 ∷ [])) Empty

abbrev pub equated : List Declaration
equated =
    Named 1 (class.TypeName true false) Empty None
    ∷ Named 2 class.Proba Empty None
    ∷ Named 3 (class.Fun false) (names (1 ∷ [])) (Some 1)
    ∷ Named 4 class.Event (names (1 ∷ [])) None
    ∷ Equiv 5 (Node (Equivalence 2) (collided (equal (variable 6) (variable 7))) (collided (lone No)))
    ∷ Equiv 8 (Node (Equivalence 2) left_side right_side)
    ∷ Query (Node Correspondence (binders ((17, 1) ∷ [])) (Node Cons (happened (OccursOnce 4)) (chain (happened (Occurs 4) ∷ equal (variable 17) (variable 17) ∷ []))))
    ∷ []

-- a channel and an event
abbrev pub tested : List Declaration
tested = Named 1 class.Channel Empty None ∷ Named 2 class.Event Empty None ∷ []

abbrev inner_test : Tree
inner_test = Node If (negated (equal (variable 3) (lone Yes))) (chain (on (Out 1) [] (chain (variable 3 ∷ [])) (lone Stop) ∷ Node (Event 2) Empty (lone Yield) ∷ []))

-- the `else` is that of the inner test; the outer test gets `yield`, and the output `0`
abbrev pub testing : Tree
testing = on (In 1) [] (binders ((3, 0) ∷ [])) (Node If (Node And (variable 3) (Node And (variable 3) (negated (variable 3)))) (chain (inner_test ∷ lone Yield ∷ [])))

-- a parameter, a type and two channels
abbrev pub searched : List Declaration
searched = Named 1 class.Param Empty None ∷ Named 2 (class.TypeName true false) Empty None ∷ Named 3 class.Channel Empty None ∷ Named 4 class.Channel Empty None ∷ []

-- x[i], under the replication with the index i
abbrev read_under : ℕ → ℕ → Tree
read_under x i = cell x (variable i ∷ [])

abbrev sender : Tree
sender = Node (Repl 6 1) Empty (on (In 3) (6 ∷ []) Empty (Node (New 7 2) Empty (on (Out 4) (6 ∷ []) (chain (read_under 7 6 ∷ [])) (lone Stop))))

-- x[u[j]]
abbrev found_cell : Tree
found_cell = cell 7 (read_under 9 8 ∷ [])

abbrev first_branch : Tree
first_branch = branch (binders ((9, 1) ∷ [])) (chain (found_cell ∷ [])) (lone Yes) (on (Out 4) (8 ∷ []) (chain (found_cell ∷ [])) (lone Stop))

abbrev second_branch : Tree
second_branch = branch Empty Empty (equal (read_under 7 8) (read_under 7 8)) (lone Yield)

abbrev searcher : Tree
searcher = Node (Repl 8 1) Empty (on (In 3) (8 ∷ []) Empty (Node (Find 1) (chain (first_branch ∷ second_branch ∷ [])) (lone Yield)))

-- each plain read and each plain channel has the current index
abbrev pub searching : Tree
searching = Node Par sender searcher

-- two parameters, a type, a constant, a function and two channels
abbrev pub arrayed : List Declaration
arrayed =
    Named 1 class.Param Empty None
    ∷ Named 2 class.Param Empty None
    ∷ Named 3 (class.TypeName true false) Empty None
    ∷ Named 4 (class.Fun false) Empty (Some 3)
    ∷ Named 5 (class.Fun false) (names (3 ∷ [])) (Some 3)
    ∷ Named 6 class.Channel Empty None
    ∷ Named 7 class.Channel Empty None
    ∷ []

-- x[i, j], under the replications with the indices i and j
abbrev read_inside : ℕ → Tree
read_inside x = cell x (variable 8 ∷ variable 10 ∷ [])

-- y[u[i, j], v[i, j]]
abbrev pair_cell : Tree
pair_cell = cell 11 (read_inside 14 ∷ read_inside 15 ∷ [])

abbrev pair_condition : Tree
pair_condition = Node Or (equal pair_cell (read_under 9 8)) (equal (variable 4) (read_inside 12))

abbrev pair_branch : Tree
pair_branch = branch (binders ((14, 1) ∷ ((15, 2) ∷ []))) (chain (cell 9 (read_inside 14 ∷ []) ∷ pair_cell ∷ [])) pair_condition (on (Out 7) (8 ∷ 10 ∷ []) (chain (read_inside 13 ∷ read_under 9 8 ∷ [])) (lone Stop))

abbrev inner_receiver : Tree
inner_receiver = Node (Repl 10 2) Empty (on (In 6) (8 ∷ 10 ∷ []) (binders ((11, 3) ∷ ((12, 3) ∷ []))) (Node (Let 13 3) (call 5 (variable 4 ∷ [])) (Node (Find 7) (chain (pair_branch ∷ [])) (lone Yield))))

-- a plain read of the variable 9, which stands under one replication, has the first index alone
abbrev pub arraying : Tree
arraying = Node (Repl 8 1) Empty (on (In 6) (8 ∷ []) Empty (Node (New 9 3) Empty (on (Out 7) (8 ∷ []) Empty inner_receiver)))
