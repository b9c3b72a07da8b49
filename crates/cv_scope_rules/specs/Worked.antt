-- Worked games and contexts.
-- Names are numbers: 1 and 7 are replication indices, 2 is a parameter, 3 and 8 are channels of inputs, 6 and 12 of
-- outputs, 4 and 10 are variables, 5 and 13 are types, 9 is an index variable or a received message, 11 is an event,
-- and 20 is a constant where it is declared.
use Rattle.std.specs.Prelude.{ℕ, false, List, [], ◌∷◌, Some}
use Rattle.cv_syntax_trees.specs.declared.class.Class.TheVariants.{Fun}
use Rattle.cv_syntax_trees.specs.declared.head.Head.TheVariants.{Stop, Yield, Par, Repl, New, Let, If, Yes, Key, Call}
use Rattle.cv_syntax_trees.specs.Declarations.{Declaration, Named}
use Rattle.cv_syntax_trees.specs.Tree.{Tree, Empty, Node, lone, chain}
use Rattle.cv_syntax_trees.specs.Builders.{leaf, read, input, output, branch, find}

abbrev pub constants : List Declaration
constants = Named 20 (Fun false) Empty (Some 5) ∷ []

abbrev pub repl : ℕ → Tree → Tree
repl i q = Node (Repl i 2) Empty q

abbrev pub restriction : ℕ → Tree → Tree
restriction x p = Node (New x 5) Empty p

abbrev pub assignment : ℕ → Tree → Tree → Tree
assignment x m p = Node (Let x 5) m p

-- key x; p
abbrev pub key : ℕ → Tree → Tree
key x p = Node (Key x) Empty p

-- x <- the call of a site with a key and arguments; p
abbrev pub call : (x site : ℕ) → List Tree → Tree → Tree
call x site ms p = Node (Call x site) (chain ms) p

abbrev pub test : Tree → Tree → Tree
test p q = Node If (lone Yes) (chain (p ∷ q ∷ []))

-- in(3, ()); p
abbrev pub starts : Tree → Tree
starts p = input 3 [] [] p

-- out(6, (x))
abbrev pub sends : ℕ → Tree
sends x = output 6 [] (leaf x ∷ []) (lone Stop)

-- !1<=2 in(3[1], ()); new 4:5; out(6[1], (4[1])) | another process
abbrev pub sender_and : Tree → Tree
sender_and q = Node Par (repl 1 (input 3 (1 ∷ []) [] (restriction 4 (output 6 (1 ∷ []) (read 4 (leaf 1 ∷ []) ∷ []) (lone Stop))))) q

-- !7<=2 in(8[7], ()); out(12[7], (4[7]))
abbrev pub reads_without_definition : Tree
reads_without_definition = sender_and (repl 7 (input 8 (7 ∷ []) [] (output 12 (7 ∷ []) (read 4 (leaf 7 ∷ []) ∷ []) (lone Stop))))

-- !7<=2 in(8[7], ()); find 9<=2 suchthat defined(cells) && true then out(12[7], (4[9[7]]))
abbrev pub cell_found : Tree
cell_found = read 4 (read 9 (leaf 7 ∷ []) ∷ [])

abbrev pub finds : List Tree → Tree
finds cells = sender_and (repl 7 (input 8 (7 ∷ []) [] (find 1 (branch ((9, 2) ∷ []) cells (lone Yes) (output 12 (7 ∷ []) (cell_found ∷ []) (lone Stop)) ∷ []) (lone Yield))))

-- !1<=2 !7<=2 in(3[1, 7], ()); new 4:5; out(6[1, 7], (4[indices]))
abbrev pub reads_below_two : List Tree → Tree
reads_below_two indices = repl 1 (repl 7 (input 3 (1 ∷ 7 ∷ []) [] (restriction 4 (output 6 (1 ∷ 7 ∷ []) (read 4 indices ∷ []) (lone Stop)))))

-- find suchthat defined(cells) && condition then yield else otherwise
abbrev pub tests_cells : List Tree → Tree → Tree → Tree
tests_cells cells condition otherwise = find 1 (branch [] cells condition (lone Yield) ∷ []) otherwise

-- a branch 9<=2 suchthat true then yield
abbrev pub finds_index : Tree
finds_index = branch ((9, 2) ∷ []) [] (lone Yes) (lone Yield)

-- in(3, ()); if true then out(6, ()); in(8, (4:T)) else out(6, ()); in(8, (4:U))
abbrev pub answers : ℕ → Tree
answers T = output 6 [] [] (input 8 [] ((4, T) ∷ []) (lone Yield))

abbrev pub answers_twice : ℕ → ℕ → Tree
answers_twice T U = starts (test (answers T) (answers U))

-- replications with these indices, one below the other
abbrev pub replicated : List ℕ → Tree
replicated [] = lone Stop
replicated (i ∷ is) = repl i (replicated is)
