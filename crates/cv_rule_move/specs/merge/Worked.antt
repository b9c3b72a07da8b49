-- Merges in small games, with what is said of each. Names are numbers: 3 is a channel, 5 a type, 4 a nonce, 1 a replication's index
-- and 2 its parameter, 11 and 12 are other variables; the file has the names below 10.
use Rattle.std.specs.Prelude.{ℕ, List, [], ◌∷◌, None}
use Rattle.cv_syntax_trees.specs.declared.class.Class.TheVariants as class
use Rattle.cv_syntax_trees.specs.declared.head.Head.TheVariants.{Eq, Secret, Yes, Yield}
use Rattle.cv_syntax_trees.specs.Builders.{branch, find, read}
use Rattle.cv_syntax_trees.specs.Declarations.{Declaration, Named, Query}
use Rattle.cv_syntax_trees.specs.Tree.{Tree, Empty, Node, lone}
use Rattle.cv_meaning_runs.specs.Replacement.{if_tree}
use Rattle.cv_scene.specs.Scenes.{Scene}
use Rattle.cv_steps.specs.Steps.{Zero}
use Rattle.cv_steps.specs.Judgements.{Accepted, Judgement, Refused}
use Rattle.cv_steps_laws.specs.Worked.{copies, copy_of, draws, plain, receives, scene_of, sends, sends_copy}

-- x <= 2 suchthat defined(4[x[1]]) && 4[x[1]] = 4[1] then the body
abbrev pub other_copy : (x : ℕ) → (body : Tree) → Tree
other_copy x body = branch ((x, 2) ∷ []) (read 4 (copy_of x ∷ []) ∷ []) (Node Eq (read 4 (copy_of x ∷ [])) (copy_of 4)) body

-- a `find` of one branch
abbrev pub found : (body otherwise : Tree) → Tree
found body otherwise = find 1 (other_copy 11 body ∷ []) otherwise

-- and one of two
abbrev pub found_two : (first second otherwise : Tree) → Tree
found_two first second otherwise = find 1 (other_copy 11 first ∷ other_copy 12 second ∷ []) otherwise

abbrev pub yields : Tree
yields = lone Yield

-- `if true`
abbrev pub tested : (then_body else_body : Tree) → Tree
tested then_body else_body = if_tree (lone Yes) then_body else_body

-- 4[11[1]] is sent
abbrev pub sends_other : Tree
sends_other = sends_copy (read 4 (copy_of 11 ∷ []))

-- a process behind the nonce, below the replication, with more declarations
abbrev pub copies_with : List Declaration → Tree → Scene
copies_with more process = scene_of (Named 2 class.Param Empty None ∷ more) (copies process)

abbrev pub copies_of : Tree → Scene
copies_of process = copies_with [] process

-- What is behind the input stands at 1, and behind the nonce of the copies at 3; there the first branch stands at 4, its body at 14.
abbrev pub merges : List (Scene × ℕ × Judgement)
merges =
    (scene_of [] (receives (tested draws draws)), 1, Accepted plain.game Zero)
    ∷ (copies_of (found yields yields), 3, Accepted (copies yields) Zero)
    ∷ (copies_of (found_two yields yields yields), 3, Accepted (copies yields) Zero)
    ∷ (copies_of (tested (found yields yields) (found yields yields)), 3, Accepted (copies (found yields yields)) Zero)
    -- no place; an input; an output
    ∷ (plain, 5, Refused 0 0)
    ∷ (plain, 0, Refused 1 0)
    ∷ (plain, 2, Refused 1 0)
    -- another `else`; another second branch; another `else` behind two branches
    ∷ (scene_of [] (receives (tested draws sends)), 1, Refused 2 7)
    ∷ (copies_of (found yields (found yields yields)), 3, Refused 2 15)
    ∷ (copies_of (found_two yields (found yields yields) yields), 3, Refused 2 25)
    ∷ (copies_of (found_two yields yields (found yields yields)), 3, Refused 2 26)
    -- a query; the bodies; another site before the `find` and one behind it
    ∷ (copies_with (Query (lone (Secret 11)) ∷ []) (found yields yields), 3, Refused 3 0)
    ∷ (copies_of (found sends_other sends_other), 3, Refused 3 16)
    ∷ (copies_of (tested (found yields yields) (found yields yields)), 18, Refused 3 6)
    ∷ (copies_of (tested (found yields yields) (found yields yields)), 5, Refused 3 19)
    ∷ []
