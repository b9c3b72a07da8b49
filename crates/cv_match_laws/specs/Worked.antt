-- A small protocol: one party sends messages with a tag, another accepts those with a right one; and an equivalence for
-- authentication. Names are numbers: 0 to 3 are types, 4 and 5 parameters, 10 to 13 functions, 20 to 24 channels, 30 and 31
-- events, 40 to 43 variables, 44 and 45 indices, 60 to 73 names of the equivalence, 80 and 81 answers of calls.
use Rattle.std.specs.Prelude.{ℕ, true, false, nat_lt, ◌+◌, List, [], ◌∷◌, Some, None}
use Rattle.cv_syntax_trees.specs.declared.class.Class.TheVariants as class
use Rattle.cv_syntax_trees.specs.declared.head.Head.TheVariants.{Apply, Bound, Call, Equivalence, If, Key, New, Oracle, Par, Repl, Stop, Yes, No, And, Eq}
use Rattle.cv_syntax_trees.specs.Builders.{branch, event, find, input, leaf, output, read}
use Rattle.cv_syntax_trees.specs.Declarations.{Declaration, Named}
use Rattle.cv_syntax_trees.specs.Tree.{Tree, Empty, Node, binders, chain, lone, names}
use Rattle.cv_meaning.specs.contexts.Groups.{Left, side_group}
use Rattle.cv_scene.specs.Scenes.{Scene}
use Rattle.cv_scene.specs.Instances.{Matching}
use Rattle.cv_scene.specs.Sites.{Site}

abbrev pub apply : ℕ → List Tree → Tree
apply f ms = Node (Apply f) (chain ms) Empty

-- 10(5 message, key): tag and 11(message, key, tag): bool; 12 and 13 are of the same types

abbrev pub function : ℕ → List ℕ → ℕ → Declaration
function f types result = Named f (class.Fun false) (names types) (Some result)

abbrev pub declarations : List Declaration
declarations =
    Named 0 (class.TypeName true false) Empty None
    ∷ Named 1 (class.TypeName true false) Empty None
    ∷ Named 2 (class.TypeName true true) Empty None
    ∷ Named 3 (class.TypeName false false) Empty None
    ∷ Named 4 class.Param Empty None
    ∷ Named 5 class.Param Empty None
    ∷ function 10 (1 ∷ 2 ∷ []) 3
    ∷ function 11 (1 ∷ 2 ∷ 3 ∷ []) 0
    ∷ function 12 (1 ∷ 2 ∷ []) 3
    ∷ function 13 (1 ∷ 2 ∷ 3 ∷ []) 0
    ∷ []

-- !61<=62 new 63: 2; (64: !65<=66 (67: 1) -> tags | 68: !69<=70 (71: 1, 72: 3) -> checks)
abbrev pub group : (tags checks : Tree) → Tree
group tags checks =
    Node (Bound 61 62) (binders ((63, 2) ∷ []))
    (chain (Node (Oracle 64) (Node (Bound 65 66) Empty (binders ((67, 1) ∷ []))) tags
    ∷ Node (Oracle 68) (Node (Bound 69 70) Empty (binders ((71, 1) ∷ (72, 3) ∷ []))) checks
    ∷ []))

-- on the right a message is accepted if a tag was asked for it: find 73<=66 suchthat defined(67[73]) && ..
abbrev pub was_tagged : Tree
was_tagged =
    find 1
    (branch ((73, 66) ∷ []) (read 67 (leaf 73 ∷ []) ∷ [])
    (Node And (Node Eq (leaf 71) (read 67 (leaf 73 ∷ []))) (apply 13 (read 67 (leaf 73 ∷ []) ∷ leaf 63 ∷ leaf 72 ∷ [])))
    (lone Yes) ∷ [])
    (lone No)

abbrev pub authentication : Tree
authentication =
    Node (Equivalence 60)
    (group (apply 10 (leaf 67 ∷ leaf 63 ∷ [])) (apply 11 (leaf 71 ∷ leaf 63 ∷ leaf 72 ∷ [])))
    (group (apply 12 (leaf 67 ∷ leaf 63 ∷ [])) was_tagged)

-- in(20, ()); new 40: 2; out(20, (what)); ( !44<=4 in(21, (41: 1)); event 31(41); out(22, (tag))
-- | !45<=5 in(23, (42: 1, 43: 3)); if test then event 30(42); out(24, ()) )

abbrev pub sender : (tag : Tree) → Tree
sender tag = input 21 (44 ∷ []) ((41, 1) ∷ []) (event 31 (read 41 (leaf 44 ∷ []) ∷ []) tag)

abbrev pub receiver : (tested : Tree) → Tree
receiver tested = input 23 (45 ∷ []) ((42, 1) ∷ (43, 3) ∷ []) tested

abbrev pub parties : (sends accepts : Tree) → Tree
parties sends accepts = Node Par (Node (Repl 44 4) Empty (sender sends)) (Node (Repl 45 5) Empty (receiver accepts))

abbrev pub sends : Tree → Tree
sends tag = output 22 (44 ∷ []) (tag ∷ []) (lone Stop)

abbrev pub accepts : Tree → Tree
accepts tested =
    Node If tested (chain (event 30 (read 42 (leaf 45 ∷ []) ∷ []) (output 24 (45 ∷ []) [] (lone Stop)) ∷ output 24 (45 ∷ []) [] (lone Stop) ∷ []))

abbrev pub game_with : (chosen : Tree → Tree) → (told : List Tree) → Tree → Tree
game_with chosen told rest = input 20 [] [] (chosen (output 20 [] told rest))

abbrev pub new_key : Tree → Tree
new_key p = Node (New 40 2) Empty p

abbrev pub tag_of_message : Tree
tag_of_message = apply 10 (read 41 (leaf 44 ∷ []) ∷ leaf 40 ∷ [])

abbrev pub is_tag_right : Tree
is_tag_right = apply 11 (read 42 (leaf 45 ∷ []) ∷ leaf 40 ∷ read 43 (leaf 45 ∷ []) ∷ [])

abbrev pub game : (told : List Tree) → Tree
game told = game_with new_key told (parties (sends tag_of_message) (accepts is_tag_right))

-- the same without the key's `new`, and where the tag that is tested is made with the key
abbrev pub keyless : Tree
keyless = game_with (λ p. p) [] (parties (sends tag_of_message) (accepts is_tag_right))

abbrev pub is_made_tag : Tree
is_made_tag = apply 11 (read 42 (leaf 45 ∷ []) ∷ leaf 40 ∷ apply 10 (read 42 (leaf 45 ∷ []) ∷ leaf 40 ∷ []) ∷ [])

abbrev pub tested_with_key : Tree
tested_with_key = game_with new_key [] (parties (sends tag_of_message) (accepts is_made_tag))

abbrev pub scene : Tree → Scene
scene t = record { declarations = declarations; known = λ x. nat_lt x 80; game = t }

abbrev pub matching : Tree → Matching
matching t = record { scene = scene t; group = side_group Left authentication; key = 40 }

-- the same as a context: 80 and 81 are the answers of the calls

abbrev pub choose_key : Tree → Tree
choose_key p = Node (Key 40) Empty p

abbrev pub call : (answer site : ℕ) → List Tree → Tree → Tree
call x s ms p = Node (Call x s) (chain (leaf 40 ∷ ms)) p

abbrev pub context : Tree
context =
    game_with choose_key []
    (parties
    (call 80 0 (read 41 (leaf 44 ∷ []) ∷ []) (sends (read 80 (leaf 44 ∷ []))))
    (call 81 1 (read 42 (leaf 45 ∷ []) ∷ read 43 (leaf 45 ∷ []) ∷ []) (accepts (read 81 (leaf 45 ∷ [])))))

abbrev pub answer : ℕ → ℕ
answer k = 80 + k

abbrev pub place_of : Site → ℕ × ℕ
place_of s = (s.place, s.call.position)
