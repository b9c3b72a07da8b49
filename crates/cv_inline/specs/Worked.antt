-- Worked contexts with their next games.
-- Names are numbers. 0 to 3 are types, 4 and 5 are parameters, 10 to 12 are functions, 20 to 24 channels, 25 and 26 events.
-- Of equivalences: 31, 32, 35, 36 and 39 are indices and bounds, 33 is the key, 34 and 38 are functions, 37, 40, 41 and 43 to 45
-- are variables, 42 and 46 to 48 are indices of finds. Of games: 50 is the key, 51 and 53 are indices, 52, 54 and 55 variables,
-- 60 to 62 answers. 71 to 80 are the drawn names, by number.
use Rattle.std.specs.Prelude.{ℕ, List, [], ◌∷◌, map}
use Rattle.cv_syntax_trees.specs.declared.head.Head.TheVariants.{Stop, Yield, Par, Repl, New, Let, Yes, No, Cons, Equivalence, Bound, Key, Call}
use Rattle.cv_syntax_trees.specs.Tree.{Tree, Empty, Node, lone, chain, binders}
use Rattle.cv_syntax_trees.specs.Builders.{leaf, read, input, output, event, branch, find}
use Rattle.cv_meaning.specs.contexts.Groups.{Right, side_group}
use Rattle.cv_meaning.specs.contexts.Sides.{Context}
use Rattle.cv_meaning.specs.contexts.Worked.{apply, both, equal, oracle, test}
use Rattle.cv_inline.specs.NextGame.{callings_of, next_of}
use Rattle.cv_inline.specs.Draws.{Draw, draws_of, label_draws, labels_in, labels_from, drawn_by}

-- trees

-- x[i], and x[u[i]]
abbrev pub at : ℕ → ℕ → Tree
at x i = read x (leaf i ∷ [])

abbrev pub at_found : ℕ → ℕ → ℕ → Tree
at_found x u i = read x (at u i ∷ [])

abbrev pub replicated : ℕ → ℕ → Tree → Tree
replicated i n t = Node (Repl i n) Empty t

abbrev pub side_by_side : Tree → Tree → Tree
side_by_side t u = Node Par t u

abbrev pub choose : ℕ → ℕ → Tree → Tree
choose x T t = Node (New x T) Empty t

abbrev pub assign : ℕ → ℕ → Tree → Tree → Tree
assign x T m t = Node (Let x T) m t

abbrev pub call : ℕ → ℕ → Tree → List Tree → Tree → Tree
call x site key ms t = Node (Call x site) (Node Cons key (chain ms)) t

-- a right side alone; a new game doesn't look at the left one
abbrev pub with_right : Tree → Tree
with_right g = Node (Equivalence 30) Empty g

abbrev pub context : Tree → Tree → List ℕ → Context
context game right functions = record { game = game; equivalence = with_right right; functions = functions }

-- the draws of a context
abbrev pub draws_for : Context → List Draw
draws_for c = draws_of (side_group Right c.equivalence) (callings_of c)

abbrev pub bases_for : Context → List ℕ
bases_for c = map (λ (d : Draw). d.base) (draws_for c)

-- the next game of a context with the key 50, where these are the drawn names
abbrev pub next_with : Context → List ℕ → Tree
next_with c names =
    next_of c 50 (drawn_by (draws_for c) names (label_draws (callings_of c)) (labels_from (labels_in c.game) 1 (label_draws (callings_of c))))

-- message authentication
-- !31<=32 new 33: 2; ( !35<=36 (37: 1) -> 10(37, 33) | !35<=39 (40: 1, 41: 3) -> checks )
abbrev pub authentication : Tree → Tree
authentication checks =
    Node (Bound 31 32) (binders ((33, 2) ∷ []))
    (chain (oracle 34 (Bound 35 36) [] ((37, 1) ∷ []) (apply 10 (leaf 37 ∷ leaf 33 ∷ [])) ∷ oracle 38 (Bound 35 39) [] ((40, 1) ∷ (41, 3) ∷ []) checks ∷ []))

-- 42<=36 suchthat defined(37[42]) && 40 = 37[42] && 11(37[42], 33, 41) then body
abbrev pub was_asked : Tree → Tree
was_asked body = branch ((42, 36) ∷ []) (at 37 42 ∷ []) (both (equal (leaf 40) (at 37 42)) (apply 11 (at 37 42 ∷ leaf 33 ∷ leaf 41 ∷ []))) body

abbrev pub was_authenticated : Tree
was_authenticated = find 1 (was_asked (lone Yes) ∷ []) (lone No)

-- one sender and one receiver

-- in(20, ()); key 50; out(20, ());
-- ( !51<=4 in(21[51], (52: 1)); event 26(52[51]); 60 = call 0 (50, 52[51]); out(22[51], (60[51])); 0
-- | !53<=5 in(23[53], (54: 1, 55: 3)); 61 = call 1 (50, 54[53], 55[53]); if 61[53] then event 25(54[53]); out(24[53], ()); 0 else yield )
abbrev pub one_sender : Context
one_sender =
    context
    (input 20 [] [] (Node (Key 50) Empty (output 20 [] [] (side_by_side
    (replicated 51 4 (input 21 (51 ∷ []) ((52, 1) ∷ []) (event 26 (at 52 51 ∷ []) (call 60 0 (leaf 50) (at 52 51 ∷ []) (output 22 (51 ∷ []) (at 60 51 ∷ []) (lone Stop))))))
    (replicated 53 5 (input 23 (53 ∷ []) ((54, 1) ∷ (55, 3) ∷ []) (call 61 1 (leaf 50) (at 54 53 ∷ at 55 53 ∷ [])
    (test (at 61 53) (event 25 (at 54 53 ∷ []) (output 24 (53 ∷ []) [] (lone Stop))) (lone Yield)))))))))
    (authentication was_authenticated) (0 ∷ 1 ∷ [])

abbrev pub received : Tree
received = event 25 (at 54 53 ∷ []) (output 24 (53 ∷ []) [] (lone Stop))

-- the receiver looks for the message among those that were sent
abbrev pub one_sender_next : Tree
one_sender_next =
    input 20 [] [] (choose 71 2 (output 20 [] [] (side_by_side
    (replicated 51 4 (input 21 (51 ∷ []) ((52, 1) ∷ []) (event 26 (at 52 51 ∷ []) (assign 72 1 (at 52 51) (output 22 (51 ∷ []) (apply 10 (at 72 51 ∷ leaf 71 ∷ []) ∷ []) (lone Stop))))))
    (replicated 53 5 (input 23 (53 ∷ []) ((54, 1) ∷ (55, 3) ∷ []) (assign 73 1 (at 54 53) (assign 74 3 (at 55 53)
    (find 1 (branch ((75, 4) ∷ []) (at_found 72 75 53 ∷ []) (both (equal (at 73 53) (at_found 72 75 53)) (apply 11 (at_found 72 75 53 ∷ leaf 71 ∷ at 74 53 ∷ [])))
    (test (lone Yes) received (lone Yield)) ∷ [])
    (test (lone No) received (lone Yield))))))))))

-- two senders: the second one in a statement that comes behind a receiver's call, of which the bodies are copied

-- in(20, ()); key 50; out(20, ());
-- ( !51<=4 in(21[51], (52: 1)); 60 = call 0 (50, 52[51]); out(22[51], (60[51])); 0
-- | !53<=5 in(23[53], (54: 1, 55: 3)); 61 = call 1 (50, 54[53], 55[53]);
--     if 61[53] then 62 = call 2 (50, 54[53]); out(24[53], (62[53])); 0 else yield )
abbrev pub two_senders : Context
two_senders =
    context
    (input 20 [] [] (Node (Key 50) Empty (output 20 [] [] (side_by_side
    (replicated 51 4 (input 21 (51 ∷ []) ((52, 1) ∷ []) (call 60 0 (leaf 50) (at 52 51 ∷ []) (output 22 (51 ∷ []) (at 60 51 ∷ []) (lone Stop)))))
    (replicated 53 5 (input 23 (53 ∷ []) ((54, 1) ∷ (55, 3) ∷ []) (call 61 1 (leaf 50) (at 54 53 ∷ at 55 53 ∷ [])
    (test (at 61 53) (call 62 2 (leaf 50) (at 54 53 ∷ []) (output 24 (53 ∷ []) (at 62 53 ∷ []) (lone Stop))) (lone Yield)))))))))
    (authentication was_authenticated) (0 ∷ 1 ∷ 0 ∷ [])

abbrev pub sent_on : Tree
sent_on = assign 77 1 (at 54 53) (output 24 (53 ∷ []) (apply 10 (at 77 53 ∷ leaf 71 ∷ []) ∷ []) (lone Stop))

-- x was sent by calls at u, for an index of a find under 53
abbrev pub was_sent : ℕ → ℕ → Tree
was_sent x u = both (equal (at 73 53) (at_found x u 53)) (apply 11 (at_found x u 53 ∷ leaf 71 ∷ at 74 53 ∷ []))

abbrev pub two_senders_next : Tree
two_senders_next =
    input 20 [] [] (choose 71 2 (output 20 [] [] (side_by_side
    (replicated 51 4 (input 21 (51 ∷ []) ((52, 1) ∷ []) (assign 72 1 (at 52 51) (output 22 (51 ∷ []) (apply 10 (at 72 51 ∷ leaf 71 ∷ []) ∷ []) (lone Stop)))))
    (replicated 53 5 (input 23 (53 ∷ []) ((54, 1) ∷ (55, 3) ∷ []) (assign 73 1 (at 54 53) (assign 74 3 (at 55 53)
    (find 1
    (branch ((75, 4) ∷ []) (at_found 72 75 53 ∷ []) (was_sent 72 75) (test (lone Yes) sent_on (lone Yield))
    ∷ branch ((76, 5) ∷ []) (at_found 77 76 53 ∷ []) (was_sent 77 76) (test (lone Yes) sent_on (lone Yield)) ∷ [])
    (test (lone No) sent_on (lone Yield))))))))))

-- a key under a replication: only calls under the same key are found

-- !51<=4 in(20[51], (52: 1)); key 50; 60 = call 0 (50[51], 52[51]); out(21[51], (60[51]));
--   in(22[51], (54: 1, 55: 3)); 61 = call 1 (50[51], 54[51], 55[51]); if 61[51] then event 25(54[51]); yield else yield
abbrev pub many_keys : Context
many_keys =
    context
    (replicated 51 4 (input 20 (51 ∷ []) ((52, 1) ∷ []) (Node (Key 50) Empty (call 60 0 (at 50 51) (at 52 51 ∷ []) (output 21 (51 ∷ []) (at 60 51 ∷ [])
    (input 22 (51 ∷ []) ((54, 1) ∷ (55, 3) ∷ []) (call 61 1 (at 50 51) (at 54 51 ∷ at 55 51 ∷ []) (test (at 61 51) (event 25 (at 54 51 ∷ []) (lone Yield)) (lone Yield)))))))))
    (authentication was_authenticated) (0 ∷ 1 ∷ [])

abbrev pub many_keys_next : Tree
many_keys_next =
    replicated 51 4 (input 20 (51 ∷ []) ((52, 1) ∷ []) (choose 71 2 (assign 72 1 (at 52 51) (output 21 (51 ∷ []) (apply 10 (at 72 51 ∷ at 71 51 ∷ []) ∷ [])
    (input 22 (51 ∷ []) ((54, 1) ∷ (55, 3) ∷ []) (assign 73 1 (at 54 51) (assign 74 3 (at 55 51)
    (find 1 (branch ((75, 4) ∷ []) (at_found 72 75 51 ∷ [])
    (both (equal (at 75 51) (leaf 51)) (both (equal (at 73 51) (at_found 72 75 51)) (apply 11 (at_found 72 75 51 ∷ at 71 51 ∷ at 74 51 ∷ []))))
    (test (lone Yes) (event 25 (at 54 51 ∷ []) (lone Yield)) (lone Yield)) ∷ [])
    (test (lone No) (event 25 (at 54 51 ∷ []) (lone Yield)) (lone Yield))))))))))

-- a key that is read at what a find has found: the cells that this takes stand in the list of the branch
-- ( !51<=4 in(20[51], ()); key 50; out(20[51], ()); 0
-- | !53<=5 in(23[53], (54: 1, 55: 3)); find @2 56<=4 suchthat defined(50[56[53]]) && true then
--     60 = call 0 (50[56[53]], 54[53]); out(22[53], (60[53])); in(24[53], ());
--     61 = call 1 (50[56[53]], 54[53], 55[53]); if 61[53] then yield else yield
--   else yield )
abbrev pub found_key : Context
found_key =
    context
    (side_by_side
    (replicated 51 4 (input 20 (51 ∷ []) [] (Node (Key 50) Empty (output 20 (51 ∷ []) [] (lone Stop)))))
    (replicated 53 5 (input 23 (53 ∷ []) ((54, 1) ∷ (55, 3) ∷ []) (find 2 (branch ((56, 4) ∷ []) (at_found 50 56 53 ∷ []) (lone Yes)
    (call 60 0 (at_found 50 56 53) (at 54 53 ∷ []) (output 22 (53 ∷ []) (at 60 53 ∷ []) (input 24 (53 ∷ []) []
    (call 61 1 (at_found 50 56 53) (at 54 53 ∷ at 55 53 ∷ []) (test (at 61 53) (lone Yield) (lone Yield)))))) ∷ []) (lone Yield)))))
    (authentication was_authenticated) (0 ∷ 1 ∷ [])

abbrev pub found_key_next : Tree
found_key_next =
    side_by_side
    (replicated 51 4 (input 20 (51 ∷ []) [] (choose 71 2 (output 20 (51 ∷ []) [] (lone Stop)))))
    (replicated 53 5 (input 23 (53 ∷ []) ((54, 1) ∷ (55, 3) ∷ []) (find 2 (branch ((56, 4) ∷ []) (at_found 71 56 53 ∷ []) (lone Yes)
    (assign 72 1 (at 54 53) (output 22 (53 ∷ []) (apply 10 (at 72 53 ∷ at_found 71 56 53 ∷ []) ∷ []) (input 24 (53 ∷ []) []
    (assign 73 1 (at 54 53) (assign 74 3 (at 55 53)
    (find 1 (branch ((75, 5) ∷ []) (at_found 56 75 53 ∷ at_found 72 75 53 ∷ [])
    (both (equal (at_found 56 75 53) (at 56 53)) (both (equal (at 73 53) (at_found 72 75 53)) (apply 11 (at_found 72 75 53 ∷ at_found 71 56 53 ∷ at 74 53 ∷ []))))
    (test (lone Yes) (lone Yield) (lone Yield)) ∷ [])
    (test (lone No) (lone Yield) (lone Yield)))))))) ∷ []) (lone Yield))))

-- no call that a find could find: its else stands, and the names of its branch are drawn all the same

-- find .. then let 43: 0 = true in 43 else let 44: 0 = false in 44
abbrev pub with_lets : Tree
with_lets = find 1 (was_asked (assign 43 0 (lone Yes) (leaf 43)) ∷ []) (assign 44 0 (lone No) (leaf 44))

-- in(20, ()); key 50; out(20, ()); !53<=5 in(23[53], (54: 1, 55: 3)); 60 = call 0 (50, 54[53], 55[53]); if 60[53] then yield else yield
abbrev pub no_sender : Context
no_sender =
    context
    (input 20 [] [] (Node (Key 50) Empty (output 20 [] [] (replicated 53 5 (input 23 (53 ∷ []) ((54, 1) ∷ (55, 3) ∷ []) (call 60 0 (leaf 50) (at 54 53 ∷ at 55 53 ∷ []) (test (at 60 53) (lone Yield) (lone Yield))))))))
    (authentication with_lets) (1 ∷ [])

abbrev pub no_sender_next : Tree
no_sender_next =
    input 20 [] [] (choose 71 2 (output 20 [] [] (replicated 53 5 (input 23 (53 ∷ []) ((54, 1) ∷ (55, 3) ∷ []) (assign 72 1 (at 54 53) (assign 73 3 (at 55 53)
    (assign 75 0 (lone No) (test (at 75 53) (lone Yield) (lone Yield)))))))))

-- two sites in one statement, with a body of two results: the second call is copied with its names

-- !31<=32 new 33: 2; ( !35<=36 (37: 1) -> if 37 = 12 then 10(12, 33) else new 45: 1; 10(45, 33) )
abbrev pub hiding : Tree
hiding =
    Node (Bound 31 32) (binders ((33, 2) ∷ []))
    (chain (oracle 34 (Bound 35 36) [] ((37, 1) ∷ []) (test (equal (leaf 37) (leaf 12)) (apply 10 (leaf 12 ∷ leaf 33 ∷ [])) (choose 45 1 (apply 10 (leaf 45 ∷ leaf 33 ∷ [])))) ∷ []))

-- in(20, ()); key 50; out(20, ()); !51<=4 in(21[51], (52: 1, 54: 1)); 60 = call 0 (50, 52[51]); 61 = call 1 (50, 54[51]); out(22[51], (60[51], 61[51])); 0
abbrev pub one_statement : Context
one_statement =
    context
    (input 20 [] [] (Node (Key 50) Empty (output 20 [] [] (replicated 51 4 (input 21 (51 ∷ []) ((52, 1) ∷ (54, 1) ∷ [])
    (call 60 0 (leaf 50) (at 52 51 ∷ []) (call 61 1 (leaf 50) (at 54 51 ∷ []) (output 22 (51 ∷ []) (at 60 51 ∷ at 61 51 ∷ []) (lone Stop)))))))))
    hiding (0 ∷ 0 ∷ [])

abbrev pub hidden : Tree → Tree
hidden m = apply 10 (m ∷ leaf 71 ∷ [])

-- behind the first result
abbrev pub second_call : Tree → Tree
second_call first_result =
    assign 74 1 (at 54 51) (test (equal (at 74 51) (leaf 12))
    (output 22 (51 ∷ []) (first_result ∷ hidden (leaf 12) ∷ []) (lone Stop))
    (choose 75 1 (output 22 (51 ∷ []) (first_result ∷ hidden (at 75 51) ∷ []) (lone Stop))))

abbrev pub one_statement_next : Tree
one_statement_next =
    input 20 [] [] (choose 71 2 (output 20 [] [] (replicated 51 4 (input 21 (51 ∷ []) ((52, 1) ∷ (54, 1) ∷ [])
    (assign 72 1 (at 52 51) (test (equal (at 72 51) (leaf 12)) (second_call (hidden (leaf 12))) (choose 73 1 (second_call (hidden (at 73 51))))))))))

-- finds in finds: names are drawn for all indices of a find, by site and then by branch, before those of its bodies

-- !31<=32 new 33: 2; ( !35<=36 (37: 1) -> let 43: 3 = 10(37, 33) in 43
-- | !35<=39 (40: 1, 41: 3) ->
--     find 42<=36 suchthat defined(37[42], 43[42]) && 43[42] = 41 then
--       find 46<=39 suchthat defined(40[46]) && 40[46] = 37[42] then true
--       orfind 47<=36 suchthat defined(37[47], 43[42]) && true then 37[47] = 37[42] else false
--     orfind 48<=39 suchthat defined(41[48], 40[48]) && 41[48] = 41 then let 44: 0 = (40[48] = 40) in 44
--     else false )
abbrev pub finds_in_finds : Tree
finds_in_finds =
    Node (Bound 31 32) (binders ((33, 2) ∷ []))
    (chain (oracle 34 (Bound 35 36) [] ((37, 1) ∷ []) (assign 43 3 (apply 10 (leaf 37 ∷ leaf 33 ∷ [])) (leaf 43)) ∷ oracle 38 (Bound 35 39) [] ((40, 1) ∷ (41, 3) ∷ [])
    (find 1
    (branch ((42, 36) ∷ []) (at 37 42 ∷ at 43 42 ∷ []) (equal (at 43 42) (leaf 41))
    (find 1
    (branch ((46, 39) ∷ []) (at 40 46 ∷ []) (equal (at 40 46) (at 37 42)) (lone Yes)
    ∷ branch ((47, 36) ∷ []) (at 37 47 ∷ at 43 42 ∷ []) (lone Yes) (equal (at 37 47) (at 37 42)) ∷ [])
    (lone No))
    ∷ branch ((48, 39) ∷ []) (at 41 48 ∷ at 40 48 ∷ []) (equal (at 41 48) (leaf 41)) (assign 44 0 (equal (at 40 48) (leaf 40)) (leaf 44)) ∷ [])
    (lone No)) ∷ []))

abbrev pub searching : Context
searching = record one_sender { equivalence = with_right finds_in_finds }

-- behind a result
abbrev pub tested : Tree → Tree
tested m = test m received (lone Yield)

abbrev pub searching_next : Tree
searching_next =
    input 20 [] [] (choose 71 2 (output 20 [] [] (side_by_side
    (replicated 51 4 (input 21 (51 ∷ []) ((52, 1) ∷ []) (event 26 (at 52 51 ∷ []) (assign 72 1 (at 52 51) (assign 73 3 (apply 10 (at 72 51 ∷ leaf 71 ∷ [])) (output 22 (51 ∷ []) (at 73 51 ∷ []) (lone Stop)))))))
    (replicated 53 5 (input 23 (53 ∷ []) ((54, 1) ∷ (55, 3) ∷ []) (assign 74 1 (at 54 53) (assign 75 3 (at 55 53)
    (find 1
    (branch ((76, 4) ∷ []) (at_found 72 76 53 ∷ at_found 73 76 53 ∷ []) (equal (at_found 73 76 53) (at 75 53))
    (find 2
    (branch ((78, 4) ∷ []) (at_found 72 78 53 ∷ at_found 73 76 53 ∷ []) (lone Yes) (tested (equal (at_found 72 78 53) (at_found 72 76 53)))
    ∷ branch ((79, 5) ∷ []) (at_found 74 79 53 ∷ []) (equal (at_found 74 79 53) (at_found 72 76 53)) (tested (lone Yes)) ∷ [])
    (tested (lone No)))
    ∷ branch ((77, 5) ∷ []) (at_found 75 77 53 ∷ at_found 74 77 53 ∷ []) (equal (at_found 75 77 53) (at 75 53)) (assign 80 0 (equal (at_found 74 77 53) (at 74 53)) (tested (at 80 53))) ∷ [])
    (tested (lone No))))))))))
