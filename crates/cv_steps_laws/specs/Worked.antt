-- Steps in a small game, with what is said of each. Names are numbers: 3 is a channel, 5 a type, 4 a nonce, 1 a replication's
-- index and 2 its parameter; the file has the names below 10.
use Rattle.std.specs.Prelude.{ℕ, true, false, nat_lt, List, [], ◌∷◌, ◌++◌, None}
use Rattle.cv_syntax_trees.specs.declared.class.Class.TheVariants as class
use Rattle.cv_syntax_trees.specs.declared.head.Head.TheVariants as head
use Rattle.cv_syntax_trees.specs.declared.head.Head.TheVariants.{Eq, Secret, Stop, Yes, Yield}
use Rattle.cv_syntax_trees.specs.Builders.{branch, find, input, leaf, output, read}
use Rattle.cv_syntax_trees.specs.Declarations.{Declaration, Named, Query}
use Rattle.cv_syntax_trees.specs.Tree.{Tree, Empty, Node, lone}
use Rattle.cv_meaning_runs.specs.Replacement.{if_tree}
use Rattle.cv_scene.specs.Scenes.{Scene}
use Rattle.cv_steps.specs.Elementary.{let_step, new_step, rename_step, split_step, unlet_step, unnew_step}
use Rattle.cv_steps.specs.Steps.{Step, Zero}
use Rattle.cv_steps.specs.Judgements.{Judgement, Refused, Accepted}

-- type 0 [fixed]. type 5 [fixed].
abbrev pub types : List Declaration
types = Named 0 (class.TypeName true false) Empty None ∷ Named 5 (class.TypeName true false) Empty None ∷ []

-- out(3, (4)); 0
abbrev pub sends : Tree
sends = output 3 [] (leaf 4 ∷ []) (lone Stop)

-- new 4: 5; out(3, (4)); 0
abbrev pub draws : Tree
draws = Node (head.New 4 5) Empty sends

-- in(3, ()); and the process
abbrev pub receives : Tree → Tree
receives process = input 3 [] [] process

abbrev pub scene_of : List Declaration → Tree → Scene
scene_of queries game = record { declarations = types ++ queries; known = λ x. nat_lt x 10; game = game }

-- no query; one for the secrecy of the nonce
abbrev pub plain : Scene
plain = scene_of [] (receives draws)

abbrev pub asked : Scene
asked = scene_of (Query (lone (Secret 4)) ∷ []) (receives draws)

-- another nonce is drawn before the output
abbrev pub draws_more : Tree
draws_more = Node (head.New 4 5) Empty (Node (head.New 11 5) Empty sends)

abbrev pub more : Scene
more = scene_of [] (receives draws_more)

-- 4 = 4
abbrev pub equal : Tree
equal = Node Eq (leaf 4) (leaf 4)

-- The input stands at 0, the nonce at 1, the output at 2, its term at 3 and the end at 4.
abbrev pub cases : List (Step × Judgement)
cases =
    (split_step 1 (lone Yes), Accepted (receives (if_tree (lone Yes) draws draws)) Zero)
    ∷ (split_step 2 equal, Accepted (receives (Node (head.New 4 5) Empty (if_tree equal sends sends))) Zero)
    -- an input; a term; no place; a name that is nowhere; no term of `bool`; a read before the definition
    ∷ (split_step 0 (lone Yes), Refused 1 0)
    ∷ (split_step 3 (lone Yes), Refused 1 0)
    ∷ (split_step 5 (lone Yes), Refused 0 0)
    ∷ (split_step 1 (leaf 40), Refused 0 0)
    ∷ (split_step 2 (leaf 4), Refused 2 0)
    ∷ (split_step 1 equal, Refused 9 0)
    ∷ (let_step 2 11 5 (leaf 4), Accepted (receives (Node (head.New 4 5) Empty (Node (head.Let 11 5) (leaf 4) sends))) Zero)
    -- a name of the game; one of the file; no type; another type than that of the term; a read before the definition
    ∷ (let_step 2 4 5 (leaf 4), Refused 2 0)
    ∷ (let_step 2 9 5 (leaf 4), Refused 2 0)
    ∷ (let_step 2 11 6 (leaf 4), Refused 0 0)
    ∷ (let_step 2 11 0 (leaf 4), Refused 9 0)
    ∷ (let_step 1 11 5 (leaf 4), Refused 9 0)
    ∷ (new_step 2 11 5, Accepted (receives draws_more) Zero)
    ∷ (new_step 4 11 5, Refused 1 0)
    ∷ (new_step 2 9 5, Refused 2 0)
    ∷ (new_step 2 11 3, Refused 0 0)
    -- a nonce that is read; a name of the file without a definition; a name that is nowhere
    ∷ (unnew_step 4, Refused 2 3)
    ∷ (unnew_step 9, Refused 1 0)
    ∷ (unnew_step 40, Refused 0 0)
    -- the nonce by a new name, by one of the file, by its own; a name of the file without a definition; a name that is nowhere
    ∷ (rename_step 4 11, Accepted (receives (Node (head.New 11 5) Empty (output 3 [] (leaf 11 ∷ []) (lone Stop)))) Zero)
    ∷ (rename_step 4 9, Refused 2 0)
    ∷ (rename_step 4 4, Refused 2 0)
    ∷ (rename_step 9 11, Refused 1 0)
    ∷ (rename_step 40 11, Refused 0 0)
    -- the nonce, which is not assigned; a name of the file without a definition; a name that is nowhere
    ∷ (unlet_step 4, Refused 1 0)
    ∷ (unlet_step 9, Refused 1 0)
    ∷ (unlet_step 40, Refused 0 0)
    ∷ []

-- new 4: 5; let x: 5 = 4 in the process
abbrev pub assigns_to : (x : ℕ) → Tree → Tree
assigns_to x process = Node (head.New 4 5) Empty (Node (head.Let x 5) (leaf 4) process)

abbrev pub assigns : Tree → Tree
assigns process = assigns_to 11 process

-- out(3, (11)); 0
abbrev pub sends_assigned : Tree
sends_assigned = output 3 [] (leaf 11 ∷ []) (lone Stop)

-- find suchthat defined(x) && x = 4 then yield else yield
abbrev pub finds : (x : ℕ) → Tree
finds x = find 1 (branch [] (leaf x ∷ []) (Node Eq (leaf x) (leaf 4)) (lone Yield) ∷ []) (lone Yield)

abbrev pub finds_assigned : Tree
finds_assigned = finds 11

-- !1<=2 in(3[1], ()); new 4: 5; the process
abbrev pub copies : Tree → Tree
copies process = Node (head.Repl 1 2) Empty (input 3 (1 ∷ []) [] (Node (head.New 4 5) Empty process))

-- out(3[1], (the term)); 0
abbrev pub sends_copy : Tree → Tree
sends_copy term = output 3 (1 ∷ []) (term ∷ []) (lone Stop)

-- x[1]
abbrev pub copy_of : (x : ℕ) → Tree
copy_of x = read x (leaf 1 ∷ [])

-- a term that is assigned and sent, at the same indices
abbrev pub assigned_copies : Tree
assigned_copies = copies (Node (head.Let 11 5) (copy_of 4) (sends_copy (copy_of 11)))

-- what is said of `unlet 11`: it leaves what was assigned, also below a replication; a query or a `defined` list may ask for it
abbrev pub unlets : List (Scene × Judgement)
unlets =
    (scene_of [] (receives (assigns sends_assigned)), Accepted plain.game Zero)
    ∷ (scene_of (Named 2 class.Param Empty None ∷ []) assigned_copies, Accepted (copies (sends_copy (copy_of 4))) Zero)
    ∷ (scene_of (Query (lone (Secret 11)) ∷ []) (receives (assigns sends_assigned)), Refused 2 0)
    ∷ (scene_of [] (receives (assigns finds_assigned)), Refused 2 0)
    ∷ []

-- find x <= 2 suchthat defined(4[x[1]]) && 4[x[1]] = 4[1] then yield else yield
abbrev pub finds_copy : (x : ℕ) → Tree
finds_copy x =
    find 1 (branch ((x, 2) ∷ []) (read 4 (copy_of x ∷ []) ∷ []) (Node Eq (read 4 (copy_of x ∷ [])) (copy_of 4)) (lone Yield) ∷ [])
    (lone Yield)

-- what is said of `rename 11 12`: the variable has the new name where it is defined and read, at indices, in `defined` lists, and as
-- an index of a `find`; no query may ask for it
abbrev pub renames : List (Scene × Judgement)
renames =
    (scene_of [] (receives (assigns finds_assigned)), Accepted (receives (assigns_to 12 (finds 12))) Zero)
    ∷ (
      scene_of (Named 2 class.Param Empty None ∷ []) assigned_copies,
      Accepted (copies (Node (head.Let 12 5) (copy_of 4) (sends_copy (copy_of 12)))) Zero,
    )
    ∷ (scene_of (Named 2 class.Param Empty None ∷ []) (copies (finds_copy 11)), Accepted (copies (finds_copy 12)) Zero)
    ∷ (scene_of (Query (lone (Secret 11)) ∷ []) (receives (assigns sends_assigned)), Refused 3 0)
    ∷ []
