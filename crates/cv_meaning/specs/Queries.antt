-- The queries of a file.
use Rattle.std.specs.Prelude.{List, [], ◌∷◌}
use Rattle.cv_syntax_trees.specs.Declarations.{Declaration, Query}
use Rattle.cv_syntax_trees.specs.Tree.{Tree}

-- in the order of the file
unfoldable pub queries_in : List Declaration → List Tree
queries_in [] = []
queries_in (Query t ∷ ds) = t ∷ queries_in ds
queries_in (d ∷ ds) = queries_in ds
