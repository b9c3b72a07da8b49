-- Worked games.
-- Names are numbers: 2 is a parameter, 5 a type, 3 a channel, and 40 is defined nowhere.
use Rattle.std.specs.Prelude.{true, false, List, [], ◌∷◌, None}
use Rattle.cv_syntax_trees.specs.declared.class.Class.TheVariants as class
use Rattle.cv_syntax_trees.specs.declared.head.Head.TheVariants.{Eq, Yield}
use Rattle.cv_syntax_trees.specs.Builders.{branch, find, input, leaf}
use Rattle.cv_syntax_trees.specs.Declarations.{Declaration, Named}
use Rattle.cv_syntax_trees.specs.Tree.{Tree, Empty, Node, lone}
use Rattle.cv_scope_rules.specs.Worked.{cell_found, finds}

-- param 2. type 5 [fixed].
abbrev pub declared : List Declaration
declared = Named 2 class.Param Empty None ∷ Named 5 (class.TypeName true false) Empty None ∷ []

-- a find of a nonce of one process in copies of another one, which sends it
abbrev pub found_game : Tree
found_game = finds (cell_found ∷ [])

-- in(3, ()); find suchthat defined(40) && 40 = 40 then yield
abbrev pub nameless_game : Tree
nameless_game = input 3 [] [] (find 1 (branch [] (leaf 40 ∷ []) (Node Eq (leaf 40) (leaf 40)) (lone Yield) ∷ []) (lone Yield))
