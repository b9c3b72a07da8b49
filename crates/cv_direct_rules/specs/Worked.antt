-- Small games with queries that they plainly meet, and with one that they don't. Names are numbers: 0 is `bool`, 5 a type; 3 and 6 are
-- channels, 11 and 12 events, 4 and 9 variables, and 21 a variable of a query.
use Rattle.std.specs.Prelude.{[], ◌∷◌}
use Rattle.cv_syntax_trees.specs.declared.head.Head.TheVariants.{Eq, If, New, No, Not, Stop, Yield}
use Rattle.cv_syntax_trees.specs.Builders.{event, input, leaf, output}
use Rattle.cv_syntax_trees.specs.Tree.{Tree, Empty, Node, chain, lone}
use Rattle.cv_scene.specs.Scenes.{Scene}
use Rattle.cv_query_certificates.specs.Worked.{scene_of}

-- in(3, (9: 5)); new 4: 5; the process
abbrev pub receives : Tree → Scene
receives process = scene_of (input 3 [] ((9, 5) ∷ []) (Node (New 4 5) Empty process))

abbrev pub tests : (condition then_body : Tree) → Tree
tests c t = Node If c (chain (t ∷ lone Yield ∷ []))

abbrev pub ends : Tree
ends = output 6 [] [] (lone Stop)

-- event 12(4), with event 11(9) above, where 4 = 9
abbrev pub compared : Scene
compared = receives (event 11 (leaf 9 ∷ []) (tests (Node Eq (leaf 4) (leaf 9)) (event 12 (leaf 4 ∷ []) ends)))

-- event 12(4) where nothing happens: `false` holds, or a condition and its negation do
abbrev pub never : Scene
never = receives (tests (lone No) (event 12 (leaf 4 ∷ []) ends))

abbrev pub opposed : Scene
opposed = receives (tests (Node Eq (leaf 4) (leaf 9)) (tests (Node Not (Node Eq (leaf 4) (leaf 9)) Empty) (event 12 (leaf 4 ∷ []) ends)))
