-- Worked queries.
-- Names are numbers: 3 and 8 are channels of inputs, 4 is a nonce and 5 its type, 6 is a channel of outputs, 9 is an
-- index variable of a find, 2 its parameter, 10 is what the second input receives, 20 is a constant, 11 and 12 are events,
-- and 21, 22 and 23 are variables of a query.
use Rattle.std.specs.Prelude.{ℕ, zero, suc, Bool, false, List, [], ◌∷◌}
use Rattle.cv_syntax_trees.specs.declared.head.Head.TheVariants.{Yield, New, Yes, No, Cons, Query, Secret, SecretOnce, Apply, SomeOf}
use Rattle.cv_syntax_trees.specs.Tree.{Tree, Empty, Node, lone, binders, chain}
use Rattle.cv_syntax_trees.specs.Builders.{leaf, input, output, branch, find, occurs}

-- in(3, ()); new 4:5; out(6, ()); in(8, (10:5)); find 9<=2 suchthat true then yield
abbrev pub game : Tree
game =
    input 3 [] [] (Node (New 4 5) Empty (output 6 [] [] (input 8 [] ((10, 5) ∷ [])
    (find 1 (branch ((9, 2) ∷ []) [] (lone Yes) (lone Yield) ∷ []) (lone Yield)))))

-- 21, 22 and 23 are the query's variables
abbrev pub asks_some : Tree → Tree → Tree
asks_some left right = Node Query (binders ((21, 5) ∷ (22, 5) ∷ (23, 5) ∷ [])) (Node Cons left right)

abbrev pub asks : Tree → List Tree → Tree
asks left atoms = asks_some left (chain atoms)

-- event 11(terms) ==> event 12(22), with `inj` on the left and on the right
abbrev pub begins_before : Bool → Bool → List Tree → Tree
begins_before left right terms = asks (occurs left 11 terms) (occurs right 12 (leaf 22 ∷ []) ∷ [])

abbrev pub two_variables : List Tree
two_variables = leaf 21 ∷ leaf 22 ∷ []

-- the right side, so often and once more, each time as an alternative
abbrev pub or_more : ℕ → Tree → Tree
or_more zero right = right
or_more (suc n) right = Node SomeOf right (or_more n right)

-- a conjunction of so many pairs of alternatives
abbrev pub choices : ℕ → List Tree
choices zero = []
choices (suc n) = or_more 1 (lone No) ∷ choices n

abbrev pub asks_alternatives : Tree → Tree
asks_alternatives right = asks_some (occurs false 11 []) right

abbrev pub applied : Tree
applied = Node (Apply 4) (Node Cons (leaf 21) Empty) Empty

abbrev pub secret : ℕ → Tree
secret x = lone (Secret x)

abbrev pub secret_once : ℕ → Tree
secret_once x = lone (SecretOnce x)
