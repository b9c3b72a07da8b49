-- The parameters of a variable's copies: those of the replications above its first definition. This profile's own.
use Rattle.std.specs.Prelude.{ℕ, List, [], Option, Some, None}
use Rattle.cv_syntax_trees.specs.sites.Sites.{Variable, first_site}
use Rattle.cv_syntax_trees.specs.Tree.{Tree}

-- none where there is no variable

abbrev pub parameters_by : Option Variable → List ℕ
parameters_by None = []
parameters_by (Some v) = v.parameters

abbrev pub parameters_of : (game : Tree) → (x : ℕ) → List ℕ
parameters_of game x = parameters_by (first_site x [] game)
