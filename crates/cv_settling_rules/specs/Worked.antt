-- Candidates of small games. Names are numbers: 0 is `bool`, 5 a type and 7 a large one, 2 a parameter; 1 and 8 are indices of
-- replications, 14 and 15 those of branches; 3 and 6 are channels; 4, 9 and 10 are variables; 13, 16 and 17 are functions, 20 is a
-- constant, and 21 and 22 are variables of equations.
use Rattle.std.specs.Prelude.{ℕ, true, false, nat_lt, List, [], ◌∷◌, Some, None}
use Rattle.cv_syntax_trees.specs.declared.class.Class.TheVariants as class
use Rattle.cv_syntax_trees.specs.declared.head.Head.TheVariants.{And, Apply, Eq, Forall, If, Let, New, No, Not, Par, Repl, Stop, Yes, Yield}
use Rattle.cv_syntax_trees.specs.Builders.{branch, find, input, leaf, output, read}
use Rattle.cv_syntax_trees.specs.Declarations.{Declaration, Equation, Named}
use Rattle.cv_syntax_trees.specs.Tree.{Tree, Empty, Node, binders, chain, lone, names}
use Rattle.cv_scene.specs.Pruning.{Branch, Else, Then}
use Rattle.cv_scene.specs.Scenes.{Scene}
use Rattle.cv_settling_rules.specs.Candidates.{Birthday, Candidate, Fresh, Guess, Merge, Prune, Rewrite, Unlet, Unnew}
use Rattle.cv_settling_rules.specs.Measure.{Measure}

-- terms

abbrev pub equal : Tree → Tree → Tree
equal m n = Node Eq m n

abbrev pub both : Tree → Tree → Tree
both m n = Node And m n

abbrev pub negation : Tree → Tree
negation m = Node Not m Empty

abbrev pub applied : (function : ℕ) → List Tree → Tree
applied f ms = Node (Apply f) (chain ms) Empty

-- a variable below the first replication, and below the second
abbrev pub own : ℕ → Tree
own x = read x (leaf 1 ∷ [])

abbrev pub other : ℕ → Tree
other x = read x (leaf 8 ∷ [])

-- 13(9[1]), of type `bool`
abbrev pub holds : Tree
holds = applied 13 (own 9 ∷ [])

-- 16(the term), of type 5
abbrev pub image : Tree → Tree
image m = applied 16 (m ∷ [])

-- files

-- forall 21: 5; 16(16(21)) = 16(21). forall 21: 5, 22: 5; 16(21) = 17(21, 22). forall 21: 5; 16(21) = 20.
abbrev pub equations : List Declaration
equations =
    Equation (Node Forall (binders ((21, 5) ∷ [])) (equal (image (image (leaf 21))) (image (leaf 21))))
    ∷ Equation (Node Forall (binders ((21, 5) ∷ (22, 5) ∷ [])) (equal (image (leaf 21)) (applied 17 (leaf 21 ∷ leaf 22 ∷ []))))
    ∷ Equation (Node Forall (binders ((21, 5) ∷ [])) (equal (image (leaf 21)) (leaf 20)))
    ∷ []

abbrev pub declared : List Declaration
declared =
    Named 0 (class.TypeName true false) Empty None
    ∷ Named 5 (class.TypeName true false) Empty None
    ∷ Named 7 (class.TypeName true true) Empty None
    ∷ Named 2 class.Param Empty None
    ∷ Named 13 (class.Fun false) (names (5 ∷ [])) (Some 0)
    ∷ Named 16 (class.Fun false) (names (5 ∷ [])) (Some 5)
    ∷ Named 17 (class.Fun false) (names (5 ∷ 5 ∷ [])) (Some 5)
    ∷ Named 20 (class.Fun false) Empty (Some 5)
    ∷ equations

abbrev pub scene_of : Tree → Scene
scene_of game = record { declarations = declared; known = λ x. nat_lt x 30; game = game }

-- processes

abbrev pub yields : Tree
yields = lone Yield

-- out(6[1], the terms); 0
abbrev pub sends : List Tree → Tree
sends ms = output 6 (1 ∷ []) ms (lone Stop)

abbrev pub sends_own : Tree
sends_own = sends (own 9 ∷ [])

abbrev pub tests : (condition then_body else_body : Tree) → Tree
tests c t e = Node If c (chain (t ∷ e ∷ []))

-- new 4: the type; the process
abbrev pub chooses : (type : ℕ) → Tree → Tree
chooses T process = Node (New 4 T) Empty process

-- let 10: 5 = the term in the process
abbrev pub assigns : (term process : Tree) → Tree
assigns m process = Node (Let 10 5) m process

-- !1 <= 2 in(3[1], (9: 5)); the process, which stands at 2
abbrev pub copies : Tree → Tree
copies process = Node (Repl 1 2) Empty (input 3 (1 ∷ []) ((9, 5) ∷ []) process)

-- beside that !8 <= 2 in(6[8], ()); another process
abbrev pub beside : (process another : Tree) → Tree
beside process another = Node Par (copies process) (Node (Repl 8 2) Empty (input 6 (8 ∷ []) [] another))

-- find 14 <= 2 suchthat defined(the cells) && the condition then yield else the process
abbrev pub finds : (cells : List Tree) → (condition otherwise : Tree) → Tree
finds cells c otherwise = find 1 (branch ((14, 2) ∷ []) cells c yields ∷ []) otherwise

-- bodies that are not reached

-- The condition is known at the inner test: it stands above, or in an `&&` above, or its negation does. A branch that isn't taken, one for a cell
-- behind a test that fails, and one for a cell that comes later, at the current index or at one that is equal to it.
abbrev pub bodies : List (Tree × List Candidate)
bodies =
    (copies (tests holds (tests holds sends_own yields) (tests holds yields sends_own)), Prune 6 Else ∷ Prune 15 Then ∷ [])
    ∷ (copies (tests (both holds (equal (own 9) (leaf 20))) (tests (negation holds) sends_own yields) yields), Prune 11 Then ∷ [])
    ∷ (copies (tests (both holds (equal (own 9) (leaf 20))) (tests (both holds (equal (own 9) (leaf 20))) sends_own yields) yields), [])
    ∷ (copies (assigns (leaf 20) (tests (equal (own 10) (leaf 20)) sends_own yields)), Prune 4 Else ∷ [])
    ∷ (copies (tests (lone No) (tests (lone Yes) yields yields) yields), Prune 2 Then ∷ Prune 4 Else ∷ [])
    ∷ (copies (finds (own 9 ∷ []) (lone No) yields), Prune 2 (Branch 1) ∷ [])
    ∷ (beside (tests (lone No) (chooses 5 sends_own) yields) (finds (read 4 (other 14 ∷ []) ∷ []) (lone Yes) yields), Prune 3 Then ∷ Prune 13 (Branch 1) ∷ [])
    ∷ (copies (finds (own 4 ∷ []) (lone Yes) (chooses 5 sends_own)), Prune 2 (Branch 1) ∷ [])
    ∷ (copies (finds (read 4 (own 14 ∷ []) ∷ []) (equal (own 14) (leaf 1)) (chooses 5 sends_own)), Prune 2 (Branch 1) ∷ [])
    -- at another index; behind an input of its own; an index of the branch
    ∷ (copies (finds (read 4 (own 14 ∷ []) ∷ []) (lone Yes) (chooses 5 sends_own)), [])
    ∷ (beside (chooses 5 sends_own) (finds (other 4 ∷ []) (lone Yes) yields), [])
    ∷ (copies (finds (own 14 ∷ []) (lone Yes) yields), [])
    ∷ []

-- each test, whatever its bodies are
abbrev pub merged : List (Tree × List Candidate)
merged = (copies (tests holds (finds [] (lone Yes) yields) yields), Merge 2 ∷ Merge 6 ∷ []) ∷ []

-- variables

-- in the order of the text
abbrev pub unnewed : List (Tree × List Candidate)
unnewed =
    (copies (assigns (own 9) (chooses 5 (finds [] (lone Yes) yields))), Unnew 9 ∷ Unnew 10 ∷ Unnew 4 ∷ Unnew 14 ∷ [])
    ∷ (copies (tests holds (chooses 5 yields) (assigns (own 9) (chooses 5 yields))), Unnew 9 ∷ Unnew 4 ∷ Unnew 10 ∷ [])
    ∷ []

-- a function that is read once; twice; in a condition of a `find`; a constant, and a read with as many indices, read twice; a read with more
-- nodes, read twice; two definitions
abbrev pub unlet : List (Tree × List Candidate)
unlet =
    (copies (assigns (image (own 9)) (sends (own 10 ∷ []))), Unlet 10 ∷ [])
    ∷ (copies (assigns (image (own 9)) (sends (own 10 ∷ own 10 ∷ []))), [])
    ∷ (copies (assigns (image (own 9)) (finds [] (equal (own 10) (leaf 20)) yields)), [])
    ∷ (copies (assigns (leaf 20) (sends (own 10 ∷ own 10 ∷ []))), Unlet 10 ∷ [])
    ∷ (copies (assigns (own 9) (sends (own 10 ∷ own 10 ∷ []))), Unlet 10 ∷ [])
    ∷ (copies (assigns (read 9 (own 14 ∷ [])) (sends (own 10 ∷ own 10 ∷ []))), [])
    ∷ (copies (tests holds (assigns (leaf 20) yields) (assigns (leaf 20) yields)), [])
    ∷ []

-- equations

-- true && 13(9[1])
abbrev pub with_true : Tree
with_true = both (lone Yes) holds

-- Each term may become an equality with `true`, if it is a truth value. An equation whose variables don't all stand on the left is passed over.
abbrev pub rewritten : List (Tree × List Candidate)
rewritten =
    (copies (sends (with_true ∷ [])), Rewrite 3 (equal with_true (lone Yes)) ∷ Rewrite 3 holds ∷ Rewrite 4 (equal (lone Yes) (lone Yes)) ∷ Rewrite 5 (equal holds (lone Yes)) ∷ [])
    ∷ (copies (sends (image (image (own 9)) ∷ [])), Rewrite 3 (image (own 9)) ∷ Rewrite 3 (leaf 20) ∷ Rewrite 4 (leaf 20) ∷ [])
    ∷ []

-- equalities

-- an array of random values of the large type, two of which are compared, and one with what comes in
abbrev pub compared : Tree
compared =
    beside (chooses 7 sends_own)
    (find 1 (branch ((14, 2) ∷ (15, 2) ∷ []) (read 4 (other 14 ∷ []) ∷ read 4 (other 15 ∷ []) ∷ []) (equal (read 4 (other 14 ∷ [])) (read 4 (other 15 ∷ [])))
    (tests (equal (read 4 (other 14 ∷ [])) (leaf 20)) yields yields) ∷ []) yields)

abbrev pub by_chance : List (Tree × List Candidate × List Candidate × List Candidate)
by_chance = (
  compared,
  Birthday 9 [] ∷ Birthday 4 (18 ∷ []) ∷ Birthday 14 [] ∷ Birthday 15 [] ∷ [],
  Guess 9 [] ∷ Guess 4 (18 ∷ 26 ∷ []) ∷ Guess 14 [] ∷ Guess 15 [] ∷ [],
  Fresh 18 ∷ Fresh 26 ∷ [],
)
    ∷ []

-- all kinds, in their order
abbrev pub small : Tree
small = copies (tests (lone Yes) (chooses 5 yields) yields)

abbrev pub all_kinds : List Candidate
all_kinds =
    Prune 2 Else ∷ Merge 2
    ∷ Unnew 9 ∷ Unnew 4
    ∷ Rewrite 3 (equal (lone Yes) (lone Yes))
    ∷ Birthday 9 [] ∷ Birthday 4 []
    ∷ Guess 9 [] ∷ Guess 4 []
    ∷ []

-- measures

abbrev pub of_compared : Measure
of_compared = record { equalities = 2; nodes = 34 }
