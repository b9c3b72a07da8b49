-- Definitions that get their own names in small games, with what is said of each. Names are numbers: 3 is a channel, 5 a type, 4 a nonce,
-- 1 a replication's index and 2 its parameter, 11 is the variable, 12 and 13 are indices of branches, 21 and 22 new names; the file has
-- the names below 10.
use Rattle.std.specs.Prelude.{ℕ, true, false, nat_lt, List, [], ◌∷◌, ◌++◌, None}
use Rattle.cv_syntax_trees.specs.declared.class.Class.TheVariants as class
use Rattle.cv_syntax_trees.specs.declared.head.Head.TheVariants as head
use Rattle.cv_syntax_trees.specs.declared.head.Head.TheVariants.{Eq, Secret, Stop, Yes, Yield}
use Rattle.cv_syntax_trees.specs.Builders.{branch, find, input, leaf, output, read}
use Rattle.cv_syntax_trees.specs.Declarations.{Declaration, Named, Query}
use Rattle.cv_syntax_trees.specs.Tree.{Tree, Empty, Node, lone}
use Rattle.cv_meaning_runs.specs.Replacement.{if_tree}
use Rattle.cv_scene.specs.Scenes.{Scene}
use Rattle.cv_steps.specs.Judgements.{Accepted, Judgement, Refused}
use Rattle.cv_steps.specs.Steps.{Zero}

-- type 0 [fixed]. type 5 [fixed]. param 2.
abbrev pub types_declared : List Declaration
types_declared = Named 0 (class.TypeName true false) Empty None ∷ Named 5 (class.TypeName true false) Empty None ∷ Named 2 class.Param Empty None ∷ []

abbrev pub scene_of : List Declaration → Tree → Scene
scene_of queries game = record { declarations = types_declared ++ queries; known = λ x. nat_lt x 10; game = game }

-- !1<=2 in(3[1], ()); new 4: 5; and the process
abbrev pub copies : Tree → Tree
copies process = Node (head.Repl 1 2) Empty (input 3 (1 ∷ []) [] (Node (head.New 4 5) Empty process))

abbrev pub draws : (x : ℕ) → Tree → Tree
draws x process = Node (head.New x 5) Empty process

-- x[1]; x[u[1]]
abbrev pub here : (x : ℕ) → Tree
here x = read x (leaf 1 ∷ [])

abbrev pub there : (x u : ℕ) → Tree
there x u = read x (here u ∷ [])

abbrev pub sends : List Tree → Tree
sends terms = output 3 (1 ∷ []) terms (lone Stop)

abbrev pub yields : Tree
yields = lone Yield

abbrev pub equal : (left right : Tree) → Tree
equal l r = Node Eq l r

-- u<=2 suchthat defined(cells) && the condition then the process
abbrev pub looks : (u : ℕ) → (cells : List Tree) → (condition process : Tree) → Tree
looks u cells c process = branch ((u, 2) ∷ []) cells c process

abbrev pub finds : (branches : List Tree) → Tree
finds branches = find 1 branches yields

-- the first definition, which is sent, and the second with a process behind it
abbrev pub two : (first second : ℕ) → Tree → Tree
two y z process = copies (if_tree (lone Yes) (draws y (sends (here y ∷ []))) (draws z process))

abbrev pub two_of : Tree → Tree
two_of process = two 11 11 process

abbrev pub split_two : Tree → Tree
split_two process = two 21 22 process

-- a copy of the variable is looked for and sent, and the current one with it
abbrev pub looks_for : (x current : ℕ) → Tree
looks_for x y = looks 12 (there x 12 ∷ []) (lone Yes) (sends (there x 12 ∷ here y ∷ []))

-- the same copy is looked for again below
abbrev pub looks_again : (x : ℕ) → Tree
looks_again x = looks 12 (there x 12 ∷ here 4 ∷ there x 12 ∷ []) (lone Yes) (find 2 (branch [] (there x 12 ∷ []) (equal (there x 12) (here 4)) yields ∷ []) yields)

-- and another one below
abbrev pub looks_below : (x y : ℕ) → Tree
looks_below x y = looks 13 (there y 13 ∷ []) (equal (there x 12) (there y 13)) yields

abbrev pub looks_twice : (x : ℕ) → (below : List Tree) → Tree
looks_twice x below = looks 12 (there x 12 ∷ []) (lone Yes) (find 2 below yields)

-- the current copy is looked for
abbrev pub looks_here : (x : ℕ) → Tree
looks_here x = branch [] (here x ∷ []) (equal (here x) (here 4)) (sends (here x ∷ []))

abbrev pub finds_here : (branches : List Tree) → (x : ℕ) → Tree
finds_here branches x = find 1 branches (sends (here x ∷ []))

-- the index of a branch itself, at another copy
abbrev pub looks_for_own : (own x : ℕ) → Tree
looks_for_own u x = looks u (there 4 u ∷ there x u ∷ []) (equal (there 4 u) (here 4)) yields

abbrev pub looks_for_nonce : (own : ℕ) → Tree
looks_for_nonce u = looks u (there 4 u ∷ []) (lone Yes) yields

-- two copies in one list
abbrev pub looks_for_two : Tree
looks_for_two = branch ((12, 2) ∷ (13, 2) ∷ []) (there 11 12 ∷ there 11 13 ∷ []) (lone Yes) yields

-- a variable, its new names and what is said
abbrev pub asks : Scene → (x : ℕ) → (names : List ℕ) → Judgement → Scene × ℕ × List ℕ × Judgement
asks s x ys j = (s, x, ys, j)

abbrev pub split_as : (game next : Tree) → Scene × ℕ × List ℕ × Judgement
split_as game next = asks (scene_of [] game) 11 (21 ∷ 22 ∷ []) (Accepted next Zero)

abbrev pub refused : List Declaration → (game : Tree) → (x : ℕ) → (names : List ℕ) → (condition place : ℕ) → Scene × ℕ × List ℕ × Judgement
refused queries game x ys c p = asks (scene_of queries game) x ys (Refused c p)

abbrev pub cases : List (Scene × ℕ × List ℕ × Judgement)
cases =
    split_as (two_of yields) (split_two yields)
    -- one branch for each name in its place, before the branch behind it; what a list looks for wins over a definition above
    ∷ split_as (two_of (finds (looks_for 11 11 ∷ looks_for_nonce 13 ∷ []))) (split_two (finds (looks_for 21 22 ∷ looks_for 22 22 ∷ looks_for_nonce 13 ∷ [])))
    ∷ split_as (two_of (finds_here (looks_here 11 ∷ []) 11)) (split_two (finds_here (looks_here 21 ∷ looks_here 22 ∷ []) 22))
    -- a cell that a list above looks for keeps its name, another one below has both
    ∷ split_as (two_of (finds (looks_again 11 ∷ []))) (split_two (finds (looks_again 21 ∷ looks_again 22 ∷ [])))
    ∷ split_as (two_of (finds (looks_twice 11 (looks_below 11 11 ∷ []) ∷ [])))
    (split_two (finds (looks_twice 21 (looks_below 21 21 ∷ looks_below 21 22 ∷ []) ∷ looks_twice 22 (looks_below 22 21 ∷ looks_below 22 22 ∷ []) ∷ [])))
    -- the index of a branch has the branch's name in its own list, whatever the list looks for
    ∷ split_as (copies (finds (looks_for_own 11 11 ∷ looks_for_nonce 11 ∷ []))) (copies (finds (looks_for_own 21 21 ∷ looks_for_own 21 22 ∷ looks_for_nonce 22 ∷ [])))
    -- a name that is nowhere; one definition; too few names, too many, one of the file, one twice
    ∷ refused [] (two_of yields) 40 (21 ∷ 22 ∷ []) 0 0
    ∷ refused [] (two_of yields) 4 (21 ∷ []) 1 0
    ∷ refused [] (two_of yields) 11 (21 ∷ []) 1 0
    ∷ refused [] (two_of yields) 11 (21 ∷ 22 ∷ 23 ∷ []) 1 0
    ∷ refused [] (two_of yields) 11 (21 ∷ 4 ∷ []) 1 0
    ∷ refused [] (two_of yields) 11 (21 ∷ 21 ∷ []) 1 0
    -- a query; two copies in a list, and one of them looked for above
    ∷ refused (Query (lone (Secret 11)) ∷ []) (two_of (finds (looks_for_two ∷ []))) 11 (21 ∷ 22 ∷ []) 2 0
    ∷ refused [] (two_of (finds (looks_for_two ∷ []))) 11 (21 ∷ 22 ∷ []) 3 12
    ∷ refused [] (two_of (finds (looks_twice 11 (looks 13 (there 11 13 ∷ there 11 12 ∷ []) (lone Yes) yields ∷ []) ∷ []))) 11 (21 ∷ 22 ∷ []) 3 18
    ∷ []
