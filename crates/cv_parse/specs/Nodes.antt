-- How many nodes of a pool the trees of a file take.
use Rattle.std.specs.Prelude.{ℕ, ◌+◌, List, [], ◌∷◌}
use Rattle.cv_syntax_trees.specs.Declarations.{Declaration}
use Rattle.cv_syntax_trees.specs.Tree.{Tree}
use Rattle.cv_parse_declarations.specs.signature.Declares.{tree_in}
use Rattle.cv_parse.specs.Games.{nodes_of}

-- of the trees of declarations
abbrev pub declared_nodes : List Declaration → ℕ
declared_nodes [] = 0
declared_nodes (d ∷ ds) = nodes_of (tree_in d) + declared_nodes ds

-- of these, and of a game
abbrev pub file_nodes : List Declaration → (game : Tree) → ℕ
file_nodes ds game = declared_nodes ds + nodes_of game
