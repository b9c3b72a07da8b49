-- A worked game with copies, and an adversary that tests two of them.
-- Names are numbers, as in the worked games of the laws of meaning.
use Rattle.std.specs.Prelude.{false, List, [], ◌∷◌, Option, Some, None, ◌==◌, if◌then◌else◌}
use Rattle.cv_syntax_trees.specs.declared.head.Head.TheVariants.{Yield, Repl, New, Let}
use Rattle.cv_syntax_trees.specs.Tree.{Tree, Empty, Node, lone}
use Rattle.cv_syntax_trees.specs.Builders.{leaf, input, output}
use Rattle.cv_meaning.specs.Runs.{Answer, Calls, Guesses, Move, Tests, Told}
use Rattle.cv_scene.specs.Scenes.{Scene}

-- both sessions copy one nonce
-- in(3, ()); new 4:5; out(6, ()); !1<=2 in(8[1], ()); let 7:5 = 4 in yield
abbrev pub copies_game : Tree
copies_game =
    input 3 [] [] (Node (New 4 5) Empty (output 6 [] []
    (Node (Repl 1 2) Empty (input 8 (1 ∷ []) [] (Node (Let 7 5) (leaf 4) (lone Yield))))))

abbrev pub scene_of : Tree → Scene
scene_of game = record { declarations = []; known = λ x. false; game = game }

-- tests of both sessions, and the guess that they are equal
abbrev pub tests_copies : List Answer → Option Move
tests_copies [] = Some (Calls 3 [] [])
tests_copies (a ∷ []) = Some (Calls 8 (0 ∷ []) [])
tests_copies (a ∷ b ∷ []) = Some (Calls 8 (1 ∷ []) [])
tests_copies (a ∷ b ∷ c ∷ []) = Some (Tests (0 ∷ []))
tests_copies (a ∷ b ∷ c ∷ Told v ∷ []) = Some (Tests (1 ∷ []))
tests_copies (a ∷ b ∷ c ∷ Told v ∷ Told w ∷ []) = Some (Guesses (if v == w then 1 else 0))
tests_copies _ = None
