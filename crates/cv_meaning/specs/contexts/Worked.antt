-- Worked equivalences, calls and contexts.
-- Names are numbers. Of groups: 20 to 29 are functions with their indices and bounds, 30 is a key, 31 to 35
-- are variables of bodies, 36 and 37 are indices of finds. 40 and 41 are functions, 6 is a constant, 0, 5
-- and 38 are types, 2 is a parameter. Of contexts: 1 and 7 are replication indices, 3, 6, 8, 9, 10 and 12 channels, 4 is a key, 13 to
-- 17 are variables, 11 is an event.
use Rattle.std.specs.Prelude.{ℕ, ◌%◌, ◌==◌, if◌then◌else◌, List, [], ◌∷◌, Option, Some, None}
use Rattle.std.specs.List.{sum}
use Rattle.cv_syntax_trees.specs.declared.head.Head.{Head}
use Rattle.cv_syntax_trees.specs.declared.head.Head.TheVariants.{Yield, Stop, Par, Repl, New, Let, If, Apply, Eq, And, Or, Not, Yes, No, Equivalence, Bound, Single, Oracle, Key, Call}
use Rattle.cv_syntax_trees.specs.Tree.{Tree, Empty, Node, lone, chain, binders}
use Rattle.cv_meaning.specs.Tapes.{Tape, Picked_at, blank, written}
use Rattle.cv_meaning.specs.Side.{CallNumber, Arrays, OracleCall, OracleAnswer, Side}
use Rattle.cv_meaning.specs.Interpretation.{Interpretation, Setting, setting_of}
use Rattle.cv_meaning.specs.Memory.{no_memory}
use Rattle.cv_meaning.specs.Terms.{bit}
use Rattle.cv_meaning.specs.Serving.{Sent}
use Rattle.cv_meaning.specs.Runs.{Move, Calls, Tests, Guesses, Answer, Replied, Told}
use Rattle.cv_syntax_trees.specs.Builders.{leaf, read, input, output, event, branch, find}
use Rattle.cv_meaning.specs.contexts.Groups.{group_of}
use Rattle.cv_meaning.specs.contexts.Sites.{Site}
use Rattle.cv_meaning.specs.contexts.Sides.{Context, side_from}

-- terms and trees

abbrev pub equal : Tree → Tree → Tree
equal m n = Node Eq m n

abbrev pub both : Tree → Tree → Tree
both m n = Node And m n

abbrev pub apply : ℕ → List Tree → Tree
apply f ms = Node (Apply f) (chain ms) Empty

abbrev pub test : Tree → Tree → Tree → Tree
test m then_tree else_tree = Node If m (chain (then_tree ∷ else_tree ∷ []))

abbrev pub oracle : ℕ → Head → List (ℕ × ℕ) → List (ℕ × ℕ) → Tree → Tree
oracle f bound coins arguments body = Node (Oracle f) (Node bound (binders coins) (binders arguments)) body

-- !20<=21 new 30: 5; ( functions )
abbrev pub group : List Tree → Tree
group functions = Node (Bound 20 21) (binders ((30, 5) ∷ [])) (chain functions)

abbrev pub equivalence : Tree → Tree → Tree
equivalence left right = Node (Equivalence 19) left right

-- 31[u]
abbrev pub argument_at : ℕ → Tree
argument_at u = read 31 (leaf u ∷ [])

-- 41 tests whether a sum is even, and other functions are sums modulo 2
abbrev pub parities : ℕ → List ℕ → ℕ
parities f vs = if f == 41 then bit (sum vs % 2 == 0) else sum vs % 2

-- all sizes and parameters are 2
abbrev pub parity : Interpretation
parity = record { type_size = λ T. 2; parameter_value = λ n. 2; table = parities; choices = 2 }

-- calls of a side

abbrev pub at_site : ℕ → List ℕ → CallNumber
at_site l u = record { tuple = u; site = l }

abbrev pub call_with : List ℕ → CallNumber → List ℕ → OracleCall
call_with key number arguments = record { key = key; number = number; arguments = arguments }

-- the answers to calls that are made one after another
abbrev pub answers_from : Side → Tape → Arrays → List OracleCall → List ℕ
answers_from s t m [] = []
answers_from s t m (c ∷ cs) = let r : OracleAnswer = s.reply t m c in r.value ∷ answers_from s t r.arrays cs

abbrev pub answers : Side → Tape → List OracleCall → List ℕ
answers s t cs = answers_from s t no_memory.arrays cs

abbrev pub site : ℕ → ℕ → List ℕ → Site
site l f bounds = record { number = l; function = f; bounds = bounds }

abbrev pub side_at : Setting → List Site → Tree → Side
side_at g sites functions = side_from (record { setting = g; group = group_of functions; sites = sites })

-- encryption, with coins on the left, and a `new` before the arguments on the right
-- 22: !23<=24 new 34: 38; (31: 5) -> 40(31, 30, 34) | 25: () -> 30
abbrev pub encrypting : List (ℕ × ℕ) → Tree → Tree
encrypting coins body = group (oracle 22 (Bound 23 24) coins ((31, 5) ∷ []) body ∷ oracle 25 (Single 25) [] [] (leaf 30) ∷ [])

abbrev pub encryption : Tree
encryption = apply 40 (leaf 31 ∷ leaf 30 ∷ leaf 34 ∷ [])

abbrev pub chosen_after : Tree
chosen_after = Node (New 34 38) Empty encryption

abbrev pub encryption_equivalence : Tree
encryption_equivalence = equivalence (encrypting ((34, 38) ∷ []) encryption) (encrypting [] chosen_after)

-- two sites that encrypt, and one that tells the key
abbrev pub encrypter : Interpretation → Tree → Side
encrypter i g = side_at (setting_of [] i) (site 0 0 (2 ∷ []) ∷ site 1 0 (2 ∷ []) ∷ site 2 1 [] ∷ []) g

-- message authentication
-- 22: !23<=24 (31: 5) -> 40(31, 30) | 25: !26<=27 (32: 5, 33: 5) -> checks
abbrev pub authentication : Tree → Tree
authentication checks =
    group (oracle 22 (Bound 23 24) [] ((31, 5) ∷ []) (apply 40 (leaf 31 ∷ leaf 30 ∷ [])) ∷ oracle 25 (Bound 26 27) [] ((32, 5) ∷ (33, 5) ∷ []) checks ∷ [])

-- 41(32, 30, 33)
abbrev pub checked : Tree
checked = apply 41 (leaf 32 ∷ leaf 30 ∷ leaf 33 ∷ [])

-- find 36<=24 suchthat defined(31[36]) && 32 = 31[36] && 41(31[36], 30, 33) then true else false
abbrev pub was_authenticated : Tree
was_authenticated =
    find 1 (branch ((36, 24) ∷ []) (argument_at 36 ∷ []) (both (equal (leaf 32) (argument_at 36)) (apply 41 (argument_at 36 ∷ leaf 30 ∷ leaf 33 ∷ []))) (lone Yes) ∷ []) (lone No)

abbrev pub authentication_equivalence : Tree
authentication_equivalence = equivalence (authentication checked) (authentication was_authenticated)

-- a site for each function, under the replication of the key and one of its own
abbrev pub authenticating : Interpretation → Tree → Side
authenticating i checks = side_at (setting_of [] i) (site 0 0 (2 ∷ 2 ∷ []) ∷ site 1 1 (2 ∷ 2 ∷ []) ∷ []) (authentication checks)

-- under key j: the tag of a message is asked for, a message is checked with a tag
abbrev pub tag : ℕ → ℕ → OracleCall
tag j m = call_with (j ∷ []) (at_site 0 (j ∷ 0 ∷ [])) (m ∷ [])

abbrev pub check : ℕ → ℕ → ℕ → OracleCall
check j m z = call_with (j ∷ []) (at_site 1 (j ∷ 1 ∷ [])) (m ∷ z ∷ [])

-- values that are put, and found again
-- 22: !23<=24 (31: 5) -> 31 | 25: !26<=27 (31: 5) -> got
abbrev pub keeping : Tree → Tree
keeping got = group (oracle 22 (Bound 23 24) [] ((31, 5) ∷ []) (leaf 31) ∷ oracle 25 (Bound 26 27) [] ((31, 5) ∷ []) got ∷ [])

-- 36<=24 suchthat defined(31[36]) && true then body
abbrev pub any_put : Tree → Tree
any_put body = branch ((36, 24) ∷ []) (argument_at 36 ∷ []) (lone Yes) body

abbrev pub one_put : Tree
one_put = find 1 (any_put (argument_at 36) ∷ []) (lone No)

-- with a second branch, by which the value is 0
abbrev pub one_of_two_branches : Tree
one_of_two_branches = find 1 (any_put (argument_at 36) ∷ any_put (lone No) ∷ []) (lone No)

-- whether there are two calls with one value
-- find 36<=24 suchthat defined(31[36]) && true then
--   find 37<=24 suchthat defined(31[37]) && 31[37] = 31[36] && not(37 = 36) then true else false
-- else false
abbrev pub two_alike : Tree
two_alike =
    find 1 (any_put (find 2 (branch ((37, 24) ∷ []) (argument_at 37 ∷ []) (both (equal (argument_at 37) (argument_at 36)) (Node Not (equal (leaf 37) (leaf 36)) Empty)) (lone Yes) ∷ []) (lone No)) ∷ []) (lone No)

-- whether the call finds itself
-- find 36<=27 suchthat defined(31[36]) && 31[36] = 31 then true else false
abbrev pub itself : Tree
itself = find 1 (branch ((36, 27) ∷ []) (argument_at 36 ∷ []) (equal (argument_at 36) (leaf 31)) (lone Yes) ∷ []) (lone No)

-- whether 34 is assigned at this call
-- find 36<=24 suchthat defined(31[36], 34) && true then true else false
abbrev pub is_bound_here : Tree
is_bound_here = find 1 (branch ((36, 24) ∷ []) (argument_at 36 ∷ leaf 34 ∷ []) (lone Yes) (lone Yes) ∷ []) (lone No)

abbrev pub bound_or_not : Tree
bound_or_not = test (leaf 31) (Node (Let 34 0) (lone Yes) is_bound_here) is_bound_here

-- two finds of one body under one label: whether both pick one call
-- find 36<=24 suchthat defined(31[36]) && true then
--   find 37<=24 suchthat defined(31[37]) && true then 37 = 36 else false
-- else false
abbrev pub one_label : Tree
one_label =
    find 1 (any_put (find 1 (branch ((37, 24) ∷ []) (argument_at 37 ∷ []) (lone Yes) (equal (leaf 37) (leaf 36)) ∷ []) (lone No)) ∷ []) (lone No)

-- new 34: T; 34
abbrev pub choosing : ℕ → Tree
choosing T = Node (New 34 T) Empty (leaf 34)

-- a variable that both branches choose: of the type 38, and of a given type
-- if 31 then new 34: 38; 34 else new 34: T; 34
abbrev pub choosing_twice : ℕ → Tree
choosing_twice T = test (leaf 31) (choosing 38) (choosing T)

-- type 38 has one value, and each other type two
abbrev pub uneven : Interpretation
uneven = record parity { type_size = λ T. if T == 38 then 1 else 2 }

-- two replicated sites and one without a replication that put, and one that gets
abbrev pub kept_by : Interpretation → Tree → Side
kept_by i g = side_at (setting_of [] i) (site 0 0 (2 ∷ []) ∷ site 1 0 (2 ∷ []) ∷ site 2 1 [] ∷ site 3 0 [] ∷ []) g

abbrev pub keeper : Interpretation → Tree → Side
keeper i got = kept_by i (keeping got)

abbrev pub put : ℕ → List ℕ → ℕ → OracleCall
put l u v = call_with [] (at_site l u) (v ∷ [])

abbrev pub get : ℕ → OracleCall
get v = call_with [] (at_site 2 []) (v ∷ [])

-- the tape of zeros, with a value by which the find of that call picks
abbrev pub picking : ℕ → Tape
picking v = written blank (Picked_at 0 [] 2) v

-- the last answer, or 0
abbrev pub last_of : List ℕ → ℕ
last_of [] = 0
last_of (v ∷ []) = v
last_of (v ∷ w ∷ vs) = last_of (w ∷ vs)

-- a body that binds a name twice, tests it, and reads a name that it doesn't bind
-- let 34: bool = true in let 34: bool = 31 in if false || 34 then 40(34, 35) else true
abbrev pub bound_twice : Tree
bound_twice = Node (Let 34 0) (lone Yes) (Node (Let 34 0) (leaf 31) (test (Node Or (lone No) (leaf 34)) (apply 40 (leaf 34 ∷ leaf 35 ∷ [])) (lone Yes)))

-- a function that answers a name which it binds again
-- 22: !23<=24 coins; (x: 5) -> body
abbrev pub binding_again : List (ℕ × ℕ) → ℕ → Tree → Tree
binding_again coins x body = group (oracle 22 (Bound 23 24) coins ((x, 5) ∷ []) body ∷ [])

abbrev pub binder_again : Interpretation → Tree → Side
binder_again i g = side_at (setting_of [] i) (site 0 0 [] ∷ []) g

-- 22: !23<=24 (31: 5) -> let 31: bool = true in 31 | 25: !26<=27 (31: 5) -> got
abbrev pub renewing : Tree → Tree
renewing got = group (oracle 22 (Bound 23 24) [] ((31, 5) ∷ []) (Node (Let 31 0) (lone Yes) (leaf 31)) ∷ oracle 25 (Bound 26 27) [] ((31, 5) ∷ []) got ∷ [])

-- a function that answers a constant
abbrev pub constant_group : Tree
constant_group = group (oracle 22 (Bound 23 24) [] [] (leaf 6) ∷ [])

-- guesses of a key, that are never right on the other side
-- 22: !23<=24 (31: 5) -> 30 = 31, and false
abbrev pub guessing : Tree → Tree
guessing body = group (oracle 22 (Bound 23 24) [] ((31, 5) ∷ []) body ∷ [])

abbrev pub is_key : Tree
is_key = equal (leaf 30) (leaf 31)

abbrev pub guess_equivalence : Tree
guess_equivalence = equivalence (guessing is_key) (guessing (lone No))

-- in(3, (14: 5)); key 4; 13 = call at site 0 of (4, 14); let 15: bool = 13 in if 13 then event 11; yield else yield
abbrev pub guess_game : Tree
guess_game =
    input 3 [] ((14, 5) ∷ []) (Node (Key 4) Empty (Node (Call 13 0) (chain (leaf 4 ∷ leaf 14 ∷ []))
    (Node (Let 15 0) (leaf 13) (test (leaf 13) (event 11 [] (lone Yield)) (lone Yield)))))

abbrev pub guess_context : Tree → Context
guess_context equivalence = record { game = guess_game; equivalence = equivalence; functions = 0 ∷ [] }

abbrev pub guesses_zero : List Answer → Option Move
guesses_zero [] = Some (Calls 3 [] (0 ∷ []))
guesses_zero _ = None

-- and then tells what a test of 15 told
abbrev pub tells_the_test : List Answer → Option Move
tells_the_test [] = Some (Calls 3 [] (0 ∷ []))
tells_the_test (a ∷ []) = Some (Tests [])
tells_the_test (a ∷ Told v ∷ []) = Some (Guesses v)
tells_the_test _ = None

-- in(3, ()); key 4; out(6, ());
-- ( in(8, (14: 5)); 13 = call at site 0 of (4, 14); out(9, (13))
-- | in(10, (15: 5, 16: 5)); 17 = call at site 1 of (4, 15, 16); if 17 then event 11; yield else yield )
abbrev pub authentication_game : Tree
authentication_game =
    input 3 [] [] (Node (Key 4) Empty (output 6 [] [] (Node Par
    (input 8 [] ((14, 5) ∷ []) (Node (Call 13 0) (chain (leaf 4 ∷ leaf 14 ∷ [])) (output 9 [] (leaf 13 ∷ []) (lone Stop))))
    (input 10 [] ((15, 5) ∷ (16, 5) ∷ []) (Node (Call 17 1) (chain (leaf 4 ∷ leaf 15 ∷ leaf 16 ∷ [])) (test (leaf 17) (event 11 [] (lone Yield)) (lone Yield)))))))

abbrev pub authentication_context : Context
authentication_context = record { game = authentication_game; equivalence = authentication_equivalence; functions = 0 ∷ 1 ∷ [] }

-- a check of a message whose tag was not asked for
abbrev pub forges : List Answer → Option Move
forges [] = Some (Calls 3 [] [])
forges (a ∷ []) = Some (Calls 10 [] (0 ∷ 0 ∷ []))
forges _ = None

-- a check of a message with its tag
abbrev pub asks : List Answer → Option Move
asks [] = Some (Calls 3 [] [])
asks (a ∷ []) = Some (Calls 8 [] (0 ∷ []))
asks (a ∷ Replied (Sent c u (z ∷ [])) ∷ []) = Some (Calls 10 [] (0 ∷ z ∷ []))
asks _ = None

-- sites under replications, out of order, and a number without a call
-- !1<=2 in(3[1], ()); key 4; 13 = call at site 1 of (4[1]); out(6[1], ());
--   !7<=2 in(8[1, 7], ()); 14 = call at site 0 of (4[1]); yield
-- | in(10, ()); 15 = call at site 3 of (4); yield
abbrev pub replicated_game : Tree
replicated_game =
    Node Par
    (Node (Repl 1 2) Empty (input 3 (1 ∷ []) [] (Node (Key 4) Empty (Node (Call 13 1) (chain (read 4 (leaf 1 ∷ []) ∷ [])) (output 6 (1 ∷ []) []
    (Node (Repl 7 2) Empty (input 8 (1 ∷ 7 ∷ []) [] (Node (Call 14 0) (chain (read 4 (leaf 1 ∷ []) ∷ [])) (lone Yield)))))))))
    (input 10 [] [] (Node (Call 15 3) (chain (leaf 4 ∷ [])) (lone Yield)))
