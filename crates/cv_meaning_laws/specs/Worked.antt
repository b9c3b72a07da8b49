-- Worked games, queries and adversaries.
-- Names are numbers: 1 and 7 are replication indices, 2 is a parameter, 3 and 8 are channels of inputs,
-- 6, 10 and 12 of outputs, 4 is a nonce and 5 its type, 9 and 10 are index variables of a find or a
-- received message, and 11, 12 and 13 are events.
use Rattle.std.specs.Prelude.{ℕ, Bool, true, false, List, [], ◌∷◌, ◌++◌, Option, Some, None, ◌==◌, if◌then◌else◌}
use Rattle.cv_syntax_trees.specs.declared.head.Head.TheVariants.{Stop, Yield, Par, Repl, New, If, Apply, Eq, And, Not, Yes, No, Cons, Forall, Query, Key, Call, SomeOf}
use Rattle.cv_syntax_trees.specs.Tree.{Tree, Empty, Node, lone, chain, names, binders}
use Rattle.cv_syntax_trees.specs.Builders.{leaf, read, input, output, event, branch, find, correspondence, occurs}
use Rattle.cv_syntax_trees.specs.declared.class.Class.TheVariants as class
use Rattle.cv_syntax_trees.specs.Declarations.{Declaration, Named, Equation}
use Rattle.cv_meaning.specs.Tapes.{Key_at, Made_at}
use Rattle.cv_meaning.specs.Side.{Side}
use Rattle.cv_meaning.specs.Interpretation.{Interpretation, Setting, setting_of, setting_with}
use Rattle.cv_meaning.specs.Memory.{Happened}
use Rattle.cv_meaning.specs.Serving.{Sent}
use Rattle.cv_meaning.specs.Runs.{Adversary, Move, Calls, Tests, Guesses, Answer, Replied, Told}

-- all types of one size, all parameters of one value
abbrev pub sized : ℕ → ℕ → ℕ → Setting
sized size value choices = setting_of [] (record { type_size = λ T. size; parameter_value = λ n. value; table = λ f vs. 0; choices = choices })

-- an adversary without coins
abbrev pub adversary : ℕ → (List Answer → Option Move) → Adversary
adversary moves next = record { coins = []; coins_have_values = tt; moves = moves; next = λ coins. next }

-- two nonces of size 2 are equal
-- !1<=2 in(3[1], ()); new 4:5; out(6[1], (4[1]))
-- | !7<=2 in(8[7], ()); find 9<=2, 10<=2 suchthat defined(4[9[7]], 4[10[7]]) && condition
--   then event 11; out(12[7], ())
abbrev pub sender : Tree
sender = Node (Repl 1 2) Empty (input 3 (1 ∷ []) [] (Node (New 4 5) Empty (output 6 (1 ∷ []) (read 4 (leaf 1 ∷ []) ∷ []) (lone Stop))))

abbrev pub own : ℕ → Tree
own u = read u (leaf 7 ∷ [])

abbrev pub nonce_at : ℕ → Tree
nonce_at u = read 4 (own u ∷ [])

abbrev pub apart_indices : Tree
apart_indices = Node Not (Node Eq (own 9) (own 10)) Empty

abbrev pub finder : Tree → Tree
finder condition =
    Node (Repl 7 2) Empty (input 8 (7 ∷ []) []
    (find 1 (branch ((9, 2) ∷ (10, 2) ∷ []) (nonce_at 9 ∷ nonce_at 10 ∷ []) condition (event 11 [] (output 12 (7 ∷ []) [] (lone Stop))) ∷ [])
    (lone Yield)))

abbrev pub colliding_game : Tree
colliding_game = Node Par sender (finder (Node And (Node Eq (nonce_at 9) (nonce_at 10)) apart_indices))

-- the equation of the two nonces became one of their indices
abbrev pub game_after_collision : Tree
game_after_collision = Node Par sender (finder (Node And (Node Eq (own 9) (own 10)) apart_indices))

-- event 11 ==> false
abbrev pub never_query : Tree
never_query = correspondence [] (occurs false 11 []) (lone No ∷ [])

abbrev pub sends_twice : List Answer → Option Move
sends_twice [] = Some (Calls 3 (0 ∷ []) [])
sends_twice (a ∷ []) = Some (Calls 3 (1 ∷ []) [])
sends_twice (a ∷ b ∷ []) = Some (Calls 8 (0 ∷ []) [])
sends_twice _ = None

-- the choice among two candidates, by a cell of three values
-- !1<=2 in(3[1], ()); find 9<=2 suchthat true then if 9[1] = 1 then event 11
abbrev pub choosing_game : Tree
choosing_game =
    Node (Repl 1 2) Empty (input 3 (1 ∷ []) []
    (find 1 (branch ((9, 2) ∷ []) [] (lone Yes) (Node If (Node Eq (read 9 (leaf 1 ∷ [])) (leaf 1)) (chain (event 11 [] (lone Yield) ∷ lone Yield ∷ []))) ∷ [])
    (lone Yield)))

abbrev pub calls_copy : ℕ → List Answer → Option Move
calls_copy v [] = Some (Calls 3 (v ∷ []) [])
calls_copy v _ = None

-- a find whose `defined` list names its own index variable takes its else body
-- in(3, ()); find 9<=2 suchthat defined(9) && true then event 11
abbrev pub own_index_game : Tree
own_index_game = input 3 [] [] (find 1 (branch ((9, 2) ∷ []) (leaf 9 ∷ []) (lone Yes) (event 11 [] (lone Yield)) ∷ []) (lone Yield))

abbrev pub calls_once : List Answer → Option Move
calls_once [] = Some (Calls 3 [] [])
calls_once _ = None

-- a nonce in two events, and then sent
-- in(3, ()); new 4:5; event f(4); event e(4); out(6, (4))
abbrev pub two_events_game : ℕ → ℕ → Tree
two_events_game f e = input 3 [] [] (Node (New 4 5) Empty (event f (leaf 4 ∷ []) (event e (leaf 4 ∷ []) (output 6 [] (leaf 4 ∷ []) (lone Stop)))))

-- event 12(x) ==> event 11(x), plain or injective
abbrev pub authentication_query : Bool → Tree
authentication_query inj = correspondence ((1, 5) ∷ []) (occurs inj 12 (leaf 1 ∷ [])) (occurs inj 11 (leaf 1 ∷ []) ∷ [])

-- event 12(x) ==> event 11(y)
abbrev pub some_query : Tree
some_query = correspondence ((1, 5) ∷ (2, 5) ∷ []) (occurs false 12 (leaf 1 ∷ [])) (occurs false 11 (leaf 2 ∷ []) ∷ [])

-- a right side with alternatives, behind event 12(x), plain or injective

abbrev pub right_atom : Bool → ℕ → Tree
right_atom inj f = occurs inj f (leaf 1 ∷ [])

abbrev pub one_of : Bool → ℕ → ℕ → Tree
one_of inj f e = Node SomeOf (chain (right_atom inj f ∷ [])) (chain (right_atom inj e ∷ []))

abbrev pub query_with : Bool → Tree → Tree
query_with inj right = Node Query (binders ((1, 5) ∷ [])) (Node Cons (occurs inj 12 (leaf 1 ∷ [])) right)

-- which of two right events comes before the left one is by a test of two messages
-- in(3, (4:5, 9:5)); if 4 = 9 then event 11(4); event 12(4); out(6, ()) else event 13(4); event 12(4); out(6, ())
abbrev pub left_after : ℕ → Tree
left_after f = event f (leaf 4 ∷ []) (event 12 (leaf 4 ∷ []) (output 6 [] [] (lone Stop)))

abbrev pub two_ways_game : Tree
two_ways_game = input 3 [] ((4, 5) ∷ (9, 5) ∷ []) (Node If (Node Eq (leaf 4) (leaf 9)) (chain (left_after 11 ∷ left_after 13 ∷ [])))

abbrev pub sends_pair : ℕ → ℕ → List Answer → Option Move
sends_pair v w [] = Some (Calls 3 [] (v ∷ w ∷ []))
sends_pair v w _ = None

-- one right event, and two left ones
abbrev pub left_twice : List Happened
left_twice = record { event = 11; values = 0 ∷ [] } ∷ record { event = 12; values = 0 ∷ [] } ∷ record { event = 12; values = 0 ∷ [] } ∷ []

-- two receivers of one message: the left event comes twice for one right event
-- in(3, ()); new 4:5; event 11(4); out(6, (4)); !7<=2 in(8[7], (9:5)); event 12(9[7]); out(10[7], ())
abbrev pub replay_game : Tree
replay_game =
    input 3 [] [] (Node (New 4 5) Empty (event 11 (leaf 4 ∷ []) (output 6 [] (leaf 4 ∷ [])
    (Node (Repl 7 2) Empty (input 8 (7 ∷ []) ((9, 5) ∷ []) (event 12 (read 9 (leaf 7 ∷ []) ∷ []) (output 10 (7 ∷ []) [] (lone Stop))))))))

abbrev pub replays : List Answer → Option Move
replays [] = Some (Calls 3 [] [])
replays (Replied (Sent c u (v ∷ [])) ∷ []) = Some (Calls 8 (0 ∷ []) (v ∷ []))
replays (Replied (Sent c u (v ∷ [])) ∷ b ∷ []) = Some (Calls 8 (1 ∷ []) (v ∷ []))
replays _ = None

-- secrecy of a nonce that is sent: the adversary tests it and compares
abbrev pub compares : List Answer → Option Move
compares [] = Some (Calls 3 [] [])
compares (Replied r ∷ []) = Some (Tests [])
compares (Replied (Sent c u (v ∷ [])) ∷ Told w ∷ []) = Some (Guesses (if v == w then 1 else 0))
compares _ = None

-- secrecy of nonces that are not sent, in two sessions
-- !1<=2 in(3[1], ()); new 4:5; yield
abbrev pub sessions_game : Tree
sessions_game = Node (Repl 1 2) Empty (input 3 (1 ∷ []) [] (Node (New 4 5) Empty (lone Yield)))

-- tests of the sessions 0 and v, and the guess that they are equal
abbrev pub tests_sessions : ℕ → List Answer → Option Move
tests_sessions v [] = Some (Calls 3 (0 ∷ []) [])
tests_sessions v (a ∷ []) = Some (Calls 3 (1 ∷ []) [])
tests_sessions v (a ∷ b ∷ []) = Some (Tests (0 ∷ []))
tests_sessions v (a ∷ b ∷ Told x ∷ []) = Some (Tests (v ∷ []))
tests_sessions v (a ∷ b ∷ Told x ∷ Told y ∷ []) = Some (Guesses (if x == y then 1 else 0))
tests_sessions v _ = None

-- declared files and an interpretation of them
-- param 2. type 3. fun 4(3): 3 [data].
abbrev pub data_file : List Declaration
data_file = Named 2 class.Param Empty None ∷ Named 3 (class.TypeName true true) Empty None ∷ Named 4 (class.Fun true) (names (3 ∷ [])) (Some 3) ∷ []

-- and const 6: 3. equation forall 5: 3; 4(5) = 5.
abbrev pub declared_file : List Declaration
declared_file =
    data_file
    ++ (Named 6 (class.Fun false) Empty (Some 3)
    ∷ Equation (Node Forall (binders ((5, 3) ∷ [])) (Node Eq (Node (Apply 4) (chain (leaf 5 ∷ [])) Empty) (leaf 5)))
    ∷ [])

abbrev pub first_value : List ℕ → ℕ
first_value [] = 0
first_value (v ∷ vs) = v

-- types of size 2, and the function as given
abbrev pub with_function : (ℕ → ℕ) → Interpretation
with_function f = record { type_size = λ T. 2; parameter_value = λ n. 2; table = λ g vs. f (first_value vs); choices = 1 }

-- the function is the identity
abbrev pub interpretation_of_file : Interpretation
interpretation_of_file = with_function (λ v. v)

-- a context: a key, and a call of it
-- in(3, ()); key 4; 13 = call at site 0 of (4); event 11(13); yield
abbrev pub context_game : Tree
context_game = input 3 [] [] (Node (Key 4) Empty (Node (Call 13 0) (chain (leaf 4 ∷ [])) (event 11 (leaf 13 ∷ []) (lone Yield))))

-- each call draws a value, and answers whether it is the key
abbrev pub guessing_side : Side
guessing_side =
    record {
      reply = λ t arrays call. record { value = if t (Key_at call.key) == t (Made_at 7 call.number.tuple call.number.site) then 1 else 0; arrays = arrays };
      cells = λ number. (Made_at 7 number.tuple number.site, 2) ∷ [];
      key_size = 2;
    }

abbrev pub context_setting : Setting
context_setting = setting_with declared_file interpretation_of_file guessing_side

-- event 11(x) ==> x = 6, where 6 is a constant
abbrev pub constant_query : Tree
constant_query = correspondence ((1, 3) ∷ []) (occurs false 11 (leaf 1 ∷ [])) (Node Eq (leaf 1) (leaf 6) ∷ [])
