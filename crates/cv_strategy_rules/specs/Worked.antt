-- Small games with the step that settles each, and one that is settled. The names are those of the worked candidates: 0 is `bool`, 5 a type and
-- 7 a large one, 2 a parameter, 1 an index; 3 and 6 are channels; 4, 9 and 10 are variables; 13 and 16 are functions, 20 is a constant.
use Rattle.std.specs.Prelude.{List, [], ◌∷◌}
use Rattle.cv_syntax_trees.specs.declared.head.Head.TheVariants.{ByBool, ByContra, ByEquation, ByFact, Line, No, Repl, Yes}
use Rattle.cv_syntax_trees.specs.Builders.{input}
use Rattle.cv_syntax_trees.specs.Declarations.{Query}
use Rattle.cv_syntax_trees.specs.Tree.{Tree, Empty, Node, chain, lone}
use Rattle.cv_query_certificates.specs.Worked.{some_begun}
use Rattle.cv_scene.specs.Scenes.{Scene}
use Rattle.cv_script.specs.Steps.{number}
use Rattle.cv_settling_rules.specs.Worked.{assigns, chooses, copies, equal, holds, image, negation, own, scene_of, sends, sends_own, tests, yields}

-- a derivation with these lines
abbrev pub line : (term reason : Tree) → Tree
line t r = Node Line t r

-- if true then out(6[1], (9[1])); 0 else yield
abbrev pub certain : Scene
certain = scene_of (copies (tests (lone Yes) sends_own yields))

-- true by bool; not(true) by fact 1; false by contra 1 2
abbrev pub absurd_else : Tree
absurd_else =
    chain (line (lone Yes) (lone ByBool)
    ∷ line (negation (lone Yes)) (Node ByFact (number 1) Empty)
    ∷ line (lone No) (Node ByContra (number 1) (number 2))
    ∷ [])

-- both bodies are one
abbrev pub alike : Scene
alike = scene_of (copies (tests holds yields yields))

-- new 4: 5; yield
abbrev pub unused : Scene
unused = scene_of (copies (chooses 5 yields))

-- let 10: 5 = 16(9[1]) in out(6[1], (10[1])); 0
abbrev pub read_once : Scene
read_once = scene_of (copies (assigns (image (own 9)) (sends (own 10 ∷ []))))

-- out(6[1], (16(16(9[1])))); 0
abbrev pub shorter : Scene
shorter = scene_of (copies (sends (image (image (own 9)) ∷ [])))

-- (16(16(9[1])) = 16(9[1])) by equation 1 (9[1])
abbrev pub by_first : Tree
by_first = chain (line (equal (image (image (own 9))) (image (own 9))) (Node ByEquation (number 1) (chain (own 9 ∷ []))) ∷ [])

-- !1 <= 2 in(3[1], (9: 7)); new 4: 7; if 4[1] = 9[1] then out(6[1], (the terms)); 0 else yield
abbrev pub guessing : List Tree → Scene
guessing ms =
    scene_of (Node (Repl 1 2) Empty (input 3 (1 ∷ []) ((9, 7) ∷ []) (chooses 7 (tests (equal (own 4) (own 9)) (sends ms) yields))))

-- nothing is left to do
abbrev pub at_rest : Scene
at_rest = scene_of (copies sends_own)

-- with a query that asks for an event with some argument, which is never direct
abbrev pub asked : Scene
asked = record at_rest { declarations = Query some_begun ∷ at_rest.declarations }
