-- Picks in small games, with what is said of each. Names are numbers: 3 is a channel, 5 a type, 4 a nonce, 1 a replication's index
-- and 2 its parameter, 11 and 12 are other variables; the file has the names below 10.
use Rattle.std.specs.Prelude.{ℕ, List, [], ◌∷◌, ◌++◌, map, None}
use Rattle.cv_syntax_trees.specs.declared.class.Class.TheVariants as class
use Rattle.cv_syntax_trees.specs.declared.head.Head.TheVariants.{ByAgain, ByAnd, ByBool, ByExfalso, ByFact, ByHere, ByLeft, ByRefl, ByRight, Eq, New, Secret, Yield}
use Rattle.cv_syntax_trees.specs.Builders.{branch, find, leaf, read}
use Rattle.cv_syntax_trees.specs.Declarations.{Declaration, Named, Query}
use Rattle.cv_syntax_trees.specs.Tree.{Tree, Empty, Node, chain, lone}
use Rattle.cv_meaning_runs.specs.Replacement.{if_tree}
use Rattle.cv_scene.specs.Scenes.{Scene}
use Rattle.cv_steps.specs.Steps.{Step, Zero}
use Rattle.cv_steps.specs.Judgements.{Accepted, Judgement, Refused}
use Rattle.cv_steps_laws.specs.Worked.{copies, copy_of, scene_of, sends_copy}
use Rattle.cv_scene.specs.lines.Truths.{no, yes}
use Rattle.cv_derive.specs.worked.Worked.{and, is_there, late, line, one, two}
use Rattle.cv_rule_pick.specs.Row.{pick_step}

abbrev pub yields : Tree
yields = lone Yield

abbrev pub same : Tree → Tree → Tree
same m n = Node Eq m n

-- x <= 2 suchthat defined(4[x[1]]) && x[1] = 1 then the body
abbrev pub own_copy : (x : ℕ) → (body : Tree) → Tree
own_copy x body = branch ((x, 2) ∷ []) (read 4 (copy_of x ∷ []) ∷ []) (same (copy_of x) (leaf 1)) body

-- find 11 <= 2 suchthat defined(4[11[1]]) && 11[1] = 1 then the body else yield
abbrev pub found : (body : Tree) → Tree
found body = find 1 (own_copy 11 body ∷ []) yields

-- and with another branch
abbrev pub found_two : Tree
found_two = find 1 (own_copy 11 yields ∷ own_copy 12 yields ∷ []) yields

-- find suchthat defined(the cell) then yield else yield
abbrev pub tests : (label : ℕ) → (cell : Tree) → Tree
tests l cell = find l (branch [] (cell ∷ []) yes yields ∷ []) yields

-- find 11 <= 2, 12 <= 2 suchthat defined(4[11[1]], 4[12[1]]) && (11[1] = 1 && 12[1] = 1) then 4[12[1]] is sent else yield
abbrev pub found_both : Tree
found_both =
    find 1
    (branch ((11, 2) ∷ (12, 2) ∷ []) (read 4 (copy_of 11 ∷ []) ∷ read 4 (copy_of 12 ∷ []) ∷ [])
    (and (same (copy_of 11) (leaf 1)) (same (copy_of 12) (leaf 1))) (sends_copy (read 4 (copy_of 12 ∷ []))) ∷ []) yields

-- 4[11[1]] is sent
abbrev pub sends_found : Tree
sends_found = sends_copy (read 4 (copy_of 11 ∷ []))

-- Where `false` holds, all does: find 11 <= 2 suchthat defined(the cells) && 11[1] = 1 then the body.

abbrev pub found_nowhere : (cells : List Tree) → (body otherwise : Tree) → Tree
found_nowhere cells body otherwise = if_tree no (find 1 (branch ((11, 2) ∷ []) cells (same (copy_of 11) (leaf 1)) body ∷ []) yields) otherwise

-- defined(4[11[1]], 11[11[1]]); and another branch's nonce, which is sent
abbrev pub lists_itself : Tree
lists_itself = found_nowhere (read 4 (copy_of 11 ∷ []) ∷ read 11 (copy_of 11 ∷ []) ∷ []) yields yields

abbrev pub sends_unseen : Tree
sends_unseen = found_nowhere (read 12 (copy_of 11 ∷ []) ∷ []) (sends_copy (read 12 (copy_of 11 ∷ []))) (Node (New 12 5) Empty yields)

-- find suchthat defined(12[1]) then the body else new 12
abbrev pub before_nonce : (body : Tree) → Tree
before_nonce body = find 2 (branch [] (copy_of 12 ∷ []) yes body ∷ []) (Node (New 12 5) Empty yields)

-- find 11 <= 2 suchthat defined(4[11[1]]) then yield else yield
abbrev pub found_any : Tree
found_any = find 1 (branch ((11, 2) ∷ []) (read 4 (copy_of 11 ∷ []) ∷ []) yes yields ∷ []) yields

-- a process behind the nonce, below the replication, with more declarations
abbrev pub copies_with : List Declaration → Tree → Scene
copies_with more process = scene_of (Named 2 class.Param Empty None ∷ more) (copies process)

abbrev pub copies_of : Tree → Scene
copies_of process = copies_with [] process

-- The index is the own one, and with it the cell is defined and the condition holds.

abbrev pub own : List Tree
own = leaf 1 ∷ []

abbrev pub at_body : List Tree
at_body = line (same (copy_of 11) (leaf 1)) (one ByFact 1) ∷ []

abbrev pub at_find : List Tree
at_find = is_there (copy_of 4) (lone ByHere) ∷ line (same (leaf 1) (leaf 1)) (lone ByRefl) ∷ []

-- Each of two indices is the own one.

abbrev pub both_at_body : List Tree
both_at_body =
    line (and (same (copy_of 11) (leaf 1)) (same (copy_of 12) (leaf 1))) (one ByFact 1)
    ∷ line (same (copy_of 11) (leaf 1)) (one ByLeft 1)
    ∷ line (same (copy_of 12) (leaf 1)) (one ByRight 1)
    ∷ []

abbrev pub both_at_find : List Tree
both_at_find =
    line (same (leaf 1) (leaf 1)) (lone ByRefl)
    ∷ line (and (same (leaf 1) (leaf 1)) (same (leaf 1) (leaf 1))) (two ByAnd 1 1)
    ∷ is_there (copy_of 4) (lone ByHere)
    ∷ is_there (copy_of 4) (lone ByHere)
    ∷ line (and (same (leaf 1) (leaf 1)) (same (leaf 1) (leaf 1))) (one ByAgain 2)
    ∷ []

-- `false` is a fact; the condition of the `find` is another.

abbrev pub nowhere_at_body : List Tree
nowhere_at_body = line (same (copy_of 11) (leaf 1)) (one ByFact 2) ∷ []

abbrev pub nowhere_at_find : (cells : List Tree) → List Tree
nowhere_at_find cells = line no (one ByFact 1) ∷ (map (λ c. is_there c (one ByExfalso 1)) cells ++ line (same (leaf 1) (leaf 1)) (lone ByRefl) ∷ [])

-- The cell of 12 is defined at the own index and yet assigned later, so `false` holds.

abbrev pub late_at_body : List Tree
late_at_body = is_there (copy_of 12) (lone ByHere) ∷ line no (late 1 []) ∷ line (same (copy_of 11) (leaf 1)) (one ByExfalso 2) ∷ []

abbrev pub late_at_find : List Tree
late_at_find = is_there (copy_of 12) (lone ByHere) ∷ line no (late 1 []) ∷ is_there (copy_of 4) (one ByExfalso 2) ∷ line yes (lone ByBool) ∷ []

abbrev pub pick : (place : ℕ) → (terms at_body at_find : List Tree) → Step
pick p ms d e = pick_step p (chain ms) (chain d) (chain e)

-- The `find` stands at 3, its branch at 4, the body at 12; as the first body of a test the `find` stands at 5, and a second one at 16;
-- as the body of another `find` it stands at 8.
abbrev pub picks : List (Scene × Step × Judgement)
picks =
    (copies_of (found sends_found), pick 3 own at_body at_find, Accepted (copies (sends_copy (copy_of 4))) Zero)
    ∷ (
      copies_of (tests 1 (copy_of 4)),
      pick 3 [] [] (is_there (copy_of 4) (lone ByHere) ∷ line yes (lone ByBool) ∷ []),
      Accepted (copies yields) Zero,
    )
    ∷ (
      copies_of found_both,
      pick 3 (leaf 1 ∷ leaf 1 ∷ []) both_at_body both_at_find,
      Accepted (copies (sends_copy (copy_of 4))) Zero,
    )
    ∷ (
      copies_of (found (tests 2 (read 4 (copy_of 11 ∷ [])))),
      pick 3 own at_body at_find,
      Accepted (copies (tests 2 (copy_of 4))) Zero,
    )
    ∷ (copies_of (before_nonce found_any), pick 8 own late_at_body late_at_find, Accepted (copies (before_nonce yields)) Zero)
    -- no place; a name that is nowhere; a `new`; two branches; two terms; a term of a type; the index itself
    ∷ (copies_of (found sends_found), pick 20 own at_body at_find, Refused 0 0)
    ∷ (copies_of (found sends_found), pick 3 (leaf 40 ∷ []) at_body at_find, Refused 0 0)
    ∷ (copies_of (found sends_found), pick 2 own at_body at_find, Refused 1 0)
    ∷ (copies_of found_two, pick 3 own at_body at_find, Refused 1 0)
    ∷ (copies_of (found sends_found), pick 3 (leaf 1 ∷ leaf 1 ∷ []) at_body at_find, Refused 1 0)
    ∷ (copies_of (found sends_found), pick 3 (copy_of 4 ∷ []) at_body at_find, Refused 1 0)
    ∷ (copies_of (found sends_found), pick 3 (copy_of 11 ∷ []) at_body at_find, Refused 1 0)
    -- no such fact; no line; no such fact at the `find`; another order
    ∷ (
      copies_of (found sends_found),
      pick 3 own (line (same (copy_of 11) (leaf 1)) (one ByFact 2) ∷ []) at_find,
      Refused 2 1,
    )
    ∷ (copies_of (found sends_found), pick 3 own [] at_find, Refused 3 0)
    ∷ (
      copies_of (found sends_found),
      pick 3 own at_body (is_there (copy_of 4) (lone ByHere) ∷ line (same (leaf 1) (leaf 1)) (one ByFact 1) ∷ []),
      Refused 4 2,
    )
    ∷ (
      copies_of (found sends_found),
      pick 3 own at_body (line (same (leaf 1) (leaf 1)) (lone ByRefl) ∷ is_there (copy_of 4) (lone ByHere) ∷ []),
      Refused 5 0,
    )
    -- a query; a cell of a list in the body; another site
    ∷ (copies_with (Query (lone (Secret 11)) ∷ []) (found sends_found), pick 3 own at_body at_find, Refused 6 0)
    ∷ (copies_of (found (tests 2 (copy_of 11))), pick 3 own at_body at_find, Refused 6 14)
    ∷ (
      copies_of (if_tree yes (found yields) (found yields)),
      pick 5 own nowhere_at_body at_find,
      Refused 6 17,
    )
    -- its own list has it as a cell; the body reads what isn't in scope
    ∷ (
      copies_of lists_itself,
      pick 5 own nowhere_at_body (nowhere_at_find (copy_of 4 ∷ copy_of 11 ∷ [])),
      Refused 6 10,
    )
    ∷ (
      copies_of sends_unseen,
      pick 5 own nowhere_at_body (nowhere_at_find (copy_of 12 ∷ [])),
      Refused 9 0,
    )
    ∷ []
